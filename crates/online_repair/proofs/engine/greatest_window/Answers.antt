use Rattle.std.proofs.Common.{◌≡◌, ℕ, ◌+◌, ℤ, length, FitsSigned, to_z, rules, sym, ap, ◌∙◌, subst}
use Rattle.std.specs.Int.{int_max, w64}
use Rattle.std.proofs.lemmas.Int.{to_z-of_z}
use Rattle.rule_file.specs.declared.rules.SpeedRule.{SpeedRule}
use Rattle.online_repair.proofs.Greatest.{IsGreatest, none_yet, one_more, all_seen}
use Rattle.online_repair.proofs.engine.greatest_window.Goals as goal

pub loop-rule-init : goal.loop-rule-init
loop-rule-init c = none_yet c.args.speeds.now

pub loop-rule-preserved : goal.loop-rule-preserved
loop-rule-preserved c =
    let most = to_z w64 c.loop-rule.most-bits in
    let fits : FitsSigned w64 c.max-most.result = search rules in
    let window_fits : FitsSigned w64 c.rule-item.result.window = search rules in
    let of_window : ℤ → ℤ = λ w. int_max w most in
    let value = c.max-most.ensures.value ∙ ap of_window (to_z-of_z w64 c.rule-item.result.window window_fits ∙ ap (λ (rule : SpeedRule). rule.window) c.rule-item.is) in
    subst (IsGreatest c.args.speeds.now (c.loop-rule.rule-index + 1)) (sym (to_z-of_z w64 c.max-most.result fits ∙ value))
    (one_more c.args.speeds.now c.loop-rule.rule-index c.rule-item.result most c.loop-rule-test.true c.loop-rule.invariant)

pub returns : goal.returns
returns c =
    let most = to_z w64 c.loop-rule.most-bits in
    let here : c.loop-rule.rule-index ≡ length c.args.speeds.now = search rules in
    let At : ℕ → Type 0 = λ i. IsGreatest c.args.speeds.now i most in
    all_seen c.args.speeds.now most (subst At here c.loop-rule.invariant)
