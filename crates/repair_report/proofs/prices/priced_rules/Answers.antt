use Rattle.std.proofs.Common.{◌≡◌, ap, ◌∙◌, filter, length, arith}
use Rattle.std.specs.List.{range_with_len}
use Rattle.rule_file.specs.Numbers.{rules_in_order}
use Rattle.repair_report.proofs.Priced.{has_price, priced_more, rules_long}
use Rattle.repair_report.proofs.prices.priced_rules.Goals as goal

pub loop-before-preserved : goal.loop-before-preserved
loop-before-preserved c = priced_more c.args.rules.now c.loop-before.numbers c.push_if_priced.new.numbers c.loop-before.before c.loop-before.invariant c.in_ok-push_if_priced.ensures

pub returns : goal.returns
returns c =
    let whole : c.loop-before.before ≡ length (rules_in_order c.args.rules.now) = omega (arith, c.loop-before-test.false, c.loop-before.auto.before-end, c.count-before-end.ensures, rules_long c.args.rules.now) in
    c.loop-before.invariant ∙ ap (λ n. filter (has_price c.args.rules.now) (range_with_len 1 n)) whole
