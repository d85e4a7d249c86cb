use Rattle.std.proofs.Common.{◌++◌, List, ℕ, pos, map, ap, ◌∙◌, arith}
use Rattle.cert_format.specs.Words.{text_of_lines}
use Rattle.repair_report.specs.Lines.{rule_line}
use Rattle.repair_report.specs.Repairs.{paid_for}
use Rattle.repair_report.proofs.Joined.{mapped_done}
use Rattle.repair_report.proofs.Priced.{one_has_price}
use Rattle.repair_report.proofs.prices.push_each.Goals as goal

pub push_paid-requires-clause-price : goal.push_paid-requires-clause-price
push_paid-requires-clause-price c = one_has_price c.args.rules.now c.args.priced.now c.loop-number.number-index 0 c.requires.priced c.loop-number-test.true

pub returns : goal.returns
returns c =
    let rules = c.args.rules.now in
    let line : ℕ → List ℕ = λ number. rule_line rules.format.decimals number (pos (paid_for rules c.args.table.now c.args.series.now number)) in
    mapped_done line c.loop-number.text.items _ c.args.priced.now c.loop-number.number-index (omega (arith, c.loop-number-test.false)) c.loop-number.invariant
    ∙ ap (λ ns. c.args.text.now.items ++ text_of_lines (map line ns)) c.requires.priced
