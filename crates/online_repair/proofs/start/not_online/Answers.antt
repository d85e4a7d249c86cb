use Rattle.std.proofs.Common.{◌≡◌, ℕ, ◌+◌, ◌<◌, false, true, List, length, get_or, take, Some, rules, sym, ap, ◌∙◌, subst, arith}
use Rattle.rule_file.specs.declared.rules.SpeedRule.{SpeedRule}
use Rattle.online_repair.specs.Named.{is_named}
use Rattle.online_repair.proofs.Naming.{IsLooked, looked_none, named_here, not_named_here, more_rules, no_more_rules}
use Rattle.online_repair.proofs.start.not_online.Goals as goal

pub loop-i-init : goal.loop-i-init
loop-i-init c = looked_none c.args.rules.now

pub loop-i-preserved : goal.loop-i-preserved
loop-i-preserved c =
    let i = c.loop-i.i in
    let d = c.index-speeds-i.result in
    let L : List SpeedRule → Type 0 = λ rs. i < length rs in
    let N : List ℕ → Type 0 = λ name. is_named name (take i c.as_slice-speeds.result.now) ≡ false in
    let M : List SpeedRule → Type 0 = λ rs. is_named (get_or rs i d).sensor (take i rs) ≡ false in
    let named = subst N c.bytes.ensures (sym c.is_named.ensures ∙ c.if-is_named.false) in
    not_named_here c.args.rules.now i d (subst L c.as_slice-speeds.ensures c.loop-i-test.true) (subst M c.as_slice-speeds.ensures named) c.loop-i.invariant

pub returns-then-is_named : goal.returns-then-is_named
returns-then-is_named c =
    let i = c.loop-i.i in
    let d = c.index-speeds-i.result in
    let L : List SpeedRule → Type 0 = λ rs. i < length rs in
    let N : List ℕ → Type 0 = λ name. is_named name (take i c.as_slice-speeds.result.now) ≡ true in
    let M : List SpeedRule → Type 0 = λ rs. is_named (get_or rs i d).sensor (take i rs) ≡ true in
    let named = subst N c.bytes.ensures (sym c.is_named.ensures ∙ c.if-is_named.true) in
    sym (named_here c.args.rules.now i d (subst L c.as_slice-speeds.ensures c.loop-i-test.true) (subst M c.as_slice-speeds.ensures named) c.loop-i.invariant)

pub returns-then-count-speeds : goal.returns-then-count-speeds
returns-then-count-speeds c =
    let length_is = ap length c.as_slice-speeds.ensures in
    let here : c.loop-i.i ≡ length c.args.rules.now.speeds = (let i : c.loop-i.i ≡ length c.as_slice-speeds.result.now = search rules in i) ∙ length_is in
    let more : length c.args.rules.now.speeds < c.count.result = omega (arith, length_is, c.if-count-speeds.true) in
    ap (λ (n : ℕ). Some (n + 1)) length_is ∙ sym (more_rules c.args.rules.now c.count.result c.count.ensures more (subst (IsLooked c.args.rules.now) here c.loop-i.invariant))

pub returns : goal.returns
returns c =
    let length_is = ap length c.as_slice-speeds.ensures in
    let here : c.loop-i.i ≡ length c.args.rules.now.speeds = (let i : c.loop-i.i ≡ length c.as_slice-speeds.result.now = search rules in i) ∙ length_is in
    sym (no_more_rules c.args.rules.now c.count.result c.count.ensures (λ h. omega (arith, length_is, h, c.if-count-speeds.false)) (subst (IsLooked c.args.rules.now) here c.loop-i.invariant))
