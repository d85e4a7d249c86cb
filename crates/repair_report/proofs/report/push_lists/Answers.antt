use Rattle.std.proofs.Common.{map}
use Rattle.repair_report.specs.Lines.{change_line}
use Rattle.repair_report.specs.RepairLines.{flow_lines}
use Rattle.repair_report.proofs.Joined.{lines_joined, on_ok}
use Rattle.repair_report.proofs.report.push_lists.Goals as goal

pub returns : goal.returns
returns c =
    on_ok c.push_flow.result
    (lines_joined c.args.text.now.items c.push_changes.new.text.items c.push_flow.new.text.items (map (change_line c.args.decimals) c.args.changes.now) (flow_lines c.args.flow.now) c.in_ok-push_changes.ensures)
    c.push_flow.ensures
