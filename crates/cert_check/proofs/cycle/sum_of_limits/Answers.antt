use Rattle.std.proofs.Common.{rules, ◌≡◌, ◌∙◌, ap, ◌+ℤ◌, of_z, to_z}
use Rattle.std.specs.Int.{w128}
use Rattle.std.proofs.lemmas.Int.{to_z-of_z}
use Rattle.cert_check.proofs.Steps.{limits_small, limits_step}
use Rattle.cert_check.proofs.cycle.sum_of_limits.Goals as goal

pub loop-bound-preserved : goal.loop-bound-preserved
loop-bound-preserved c =
    let sum = to_z w128 c.loop-bound.sum-bits in
    let limit : to_z w128 (of_z w128 c.limit_of.result) ≡ c.limit_of.result = to_z-of_z w128 c.limit_of.result (search rules) in
    let same : to_z w128 (of_z w128 c.sum_of-sum.result) ≡ c.sum_of-sum.result = to_z-of_z w128 c.sum_of-sum.result (search rules) in
    let new : to_z w128 (of_z w128 c.sum_of-sum.result) ≡ sum +ℤ c.limit_of.result = same ∙ (c.sum_of-sum.ensures ∙ ap (λ z. sum +ℤ z) limit) in
    record {
      value = limits_step c.args.cycle.now c.loop-bound.bound-index _ sum c.limit_of.result (to_z w128 (of_z w128 c.sum_of-sum.result)) c.loop-bound-test.true c.limit_of.ensures.value new c.loop-bound.invariant.value;
      small = limits_small sum c.limit_of.result (to_z w128 (of_z w128 c.sum_of-sum.result)) c.loop-bound.bound-index new c.limit_of.ensures.small c.loop-bound.invariant.small;
    }
