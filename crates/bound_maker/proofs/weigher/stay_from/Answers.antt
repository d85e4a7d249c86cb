use Rattle.std.proofs.Common.{rules, ◌≡◌, ◌≤ℤ◌, ℤ, subst, to_z, of_z, w64}
use Rattle.std.proofs.lemmas.Int.{to_z-of_z}
use Rattle.bound_maker.proofs.Stays.{stays_from}
use Rattle.bound_maker.proofs.Weights.{weight_found}
use Rattle.bound_maker.proofs.weigher.stay_from.Goals as goal

pub returns-clause-stays : goal.returns-clause-stays
returns-clause-stays c =
    let same : to_z w64 (of_z w64 c.last_covered.result) ≡ c.last_covered.result = to_z-of_z w64 c.last_covered.result (search rules) in
    stays_from c.args.rules.now c.args.header.now.sensor_cols c.args.col c.before_weights-first.result (to_z w64 (of_z w64 c.args.ticks)) (to_z w64 (of_z w64 c.last_covered.result)) c.as_slice-weights.result.now c.last_weight.result
    c.last_weight.ensures c.before_weights-first.ensures c.as_slice-weights.ensures (λ t least last. c.last_covered.ensures t least (subst (λ (z : ℤ). t ≤ℤ z) same last))

pub returns-clause-weight : goal.returns-clause-weight
returns-clause-weight c =
    weight_found c.args.rules.now c.args.header.now.sensor_cols c.args.col c.before_weights-first.result c.args.ticks (to_z w64 (of_z w64 c.args.ticks)) c.as_slice-weights.result.now c.last_weight.result
    c.last_weight.ensures c.before_weights-first.ensures c.as_slice-weights.ensures (to_z-of_z w64 c.args.ticks c.ranges.ticks)
