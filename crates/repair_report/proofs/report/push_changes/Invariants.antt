use Rattle.std.proofs.Common.{◌≡◌, ◌++◌, drop, map}
use Rattle.cert_format.specs.Words.{text_of_lines}
use Rattle.repair_report.specs.Lines.{change_line}
use Rattle.repair_report.proofs.report.push_changes.Given as goal

abbrev pub invariant-loop-reading : goal.invariant-loop-reading
invariant-loop-reading l = l.text.items ++ text_of_lines (map (change_line l.decimals) (drop l.reading-index l.changes)) ≡ l.initial.text.items ++ text_of_lines (map (change_line l.decimals) l.changes)
