use Rattle.std.proofs.Common.{arith}
use Rattle.flow_core.proofs.Sizes.{prices_small}
use Rattle.path_flow.proofs.Weighing.{sum_within}
use Rattle.path_flow.proofs.units.sum_of_prices.Goals as goal

pub overflow_add-sum : goal.overflow_add-sum
overflow_add-sum c =
    let layout = c.requires.network.layout in
    let within = sum_within c.args.net.now.network.prices c.loop-bound.bound 1 4000000000 (omega (arith, layout.priced, c.loop-bound-test.true, c.bounds-bound-end.ensures)) (prices_small c.args.net.now.network layout) in
    record { fits = omega (arith, within, c.loop-bound.invariant, c.price-sum.ensures) }
