use Rattle.std.proofs.Common.{◌≡◌, ◌++◌, pos, drop, map}
use Rattle.cert_format.specs.Words.{text_of_lines}
use Rattle.repair_report.specs.Lines.{rule_line}
use Rattle.repair_report.specs.Repairs.{paid_for}
use Rattle.repair_report.proofs.prices.push_each.Given as goal

abbrev pub invariant-loop-number : goal.invariant-loop-number
invariant-loop-number l =
    l.text.items ++ text_of_lines (map (λ number. rule_line l.rules.format.decimals number (pos (paid_for l.rules l.table l.series number))) (drop l.number-index l.priced))
    ≡ l.initial.text.items ++ text_of_lines (map (λ number. rule_line l.rules.format.decimals number (pos (paid_for l.rules l.table l.series number))) l.priced)
