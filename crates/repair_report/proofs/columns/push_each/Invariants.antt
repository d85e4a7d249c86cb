use Rattle.std.proofs.Common.{◌≡◌, ◌++◌, drop, map}
use Rattle.cert_format.specs.Words.{text_of_lines}
use Rattle.repair_report.specs.Lines.{column_line}
use Rattle.repair_report.specs.Repairs.{repaired}
use Rattle.repair_report.proofs.columns.push_each.Given as goal

abbrev pub invariant-loop-col : goal.invariant-loop-col
invariant-loop-col l =
    l.text.items ++ text_of_lines (map (column_line l.rules.format.decimals (repaired l.rules l.table l.series)) (drop l.col-index l.columns))
    ≡ l.initial.text.items ++ text_of_lines (map (column_line l.rules.format.decimals (repaired l.rules l.table l.series)) l.columns)
