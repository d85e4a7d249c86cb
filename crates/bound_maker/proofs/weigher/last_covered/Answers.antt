use Rattle.std.proofs.Common.{rules, ◌≡◌, ◌≤ℤ◌, ◌∙◌, ℕ, ℤ, get_or, sym, ap, subst, to_z, of_z, w64, arith}
use Rattle.std.specs.Prelude.{◌==◌}
use Rattle.std.proofs.lemmas.Int.{to_z-of_z}
use Rattle.bound_maker.specs.Weighed.{StaysSo, covering}
use Rattle.bound_maker.proofs.Stays.{alike_all, alike_more}
use Rattle.bound_maker.proofs.weigher.last_covered.Goals as goal

pub loop-rule-preserved : goal.loop-rule-preserved
loop-rule-preserved c =
    let cols = c.args.header.now.sensor_cols in
    let from = to_z w64 (of_z w64 c.args.ticks) in
    let next = to_z w64 (of_z w64 c.last_alike-until.result) in
    let same : next ≡ c.last_alike-until.result = to_z-of_z w64 c.last_alike-until.result (search rules) in
    let column = ap (λ (n : ℕ). n == c.args.col) (c.sensor_col.ensures ∙ ap (λ (p : ℕ). get_or cols p 0) c.loop-rule.invariant.place) in
    let most : next ≤ℤ to_z w64 c.loop-rule.until-bits = subst (λ (z : ℤ). z ≤ℤ to_z w64 c.loop-rule.until-bits) (sym same) c.last_alike-until.ensures.most in
    record {
      place = omega (arith, c.loop-rule.invariant.place);
      alike = alike_more c.args.first cols c.args.weights.now c.args.col from (to_z w64 c.loop-rule.until-bits) next c.loop-rule.rule-index c.rule-item.result (c.sensor_col.result == c.args.col)
          c.loop-rule-test.true c.rule-item.is column most (λ t least last. c.last_alike-until.ensures.alike t least (subst (λ (z : ℤ). t ≤ℤ z) same last)) c.loop-rule.invariant.alike;
    }

pub returns : goal.returns
returns c =
    let cols = c.args.header.now.sensor_cols in
    let same : to_z w64 (of_z w64 c.args.ticks) ≡ c.args.ticks = to_z-of_z w64 c.args.ticks c.ranges.ticks in
    subst (λ (z : ℤ). StaysSo (covering c.args.first cols c.args.weights.now c.args.col) z (to_z w64 c.loop-rule.until-bits)) same
    (alike_all c.args.first cols c.args.weights.now c.args.col (to_z w64 (of_z w64 c.args.ticks)) (to_z w64 c.loop-rule.until-bits) c.loop-rule.rule-index c.loop-rule-test.false c.loop-rule.invariant.alike)
