use Rattle.std.proofs.Common.{◌≡◌, ◌++◌, drop}
use Rattle.cert_format.specs.Words.{text_of_lines}
use Rattle.repair_report.specs.RepairLines.{flow_lines}
use Rattle.repair_report.proofs.report.push_flow.Given as goal

abbrev pub invariant-loop-item : goal.invariant-loop-item
invariant-loop-item l = l.text.items ++ text_of_lines (flow_lines (drop l.item-index l.flow)) ≡ l.initial.text.items ++ text_of_lines (flow_lines l.flow)
