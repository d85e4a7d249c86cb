-- Weak duality, and that a series whose cost is a dual value costs least.
use Rattle.std.proofs.Common.{arith}
use Rattle.std.proofs.lemmas.Int.{ints}
use Rattle.words.proofs.InnerProducts.{inner_product-map_minus}
use Rattle.screen_model.specs.Obeys.{rise}
use Rattle.screen_model.specs.Flow.{pull}
use Rattle.screen_model.specs.Best.{WeakDuality, BestCostsLeast}
use Rattle.screen_model.proofs.Pulls.{pulled_is, gained_by_change}
use Rattle.screen_model.proofs.Gains.{gains_are_paid}

pub weak : WeakDuality
weak problem series flow whole full obeys admissible =
    let pulls = pulled_is problem.places series problem.bounds flow whole.distinct in
    let change = gained_by_change (pull problem.bounds flow) problem.places problem.weights problem.values series admissible.pulls whole.valued full in
    let gain = inner_product-map_minus (λ priced. rise problem.places series priced.bound) (λ priced. priced.bound.limit) flow problem.bounds in
    let pay = gains_are_paid problem.places series problem.bounds flow obeys admissible.amounts in
    omega (arith, ints, pulls, change, gain, pay)

pub least : BestCostsLeast
least problem series other flow full best obeys =
    omega (arith, ints, best.equal, weak problem other flow best.sound full obeys best.admissible)
