use Rattle.std.proofs.Common.{◌++◌, List, ap, ◌∙◌, map}
use Rattle.cert_format.specs.Words.{text_of_lines}
use Rattle.repair_report.specs.declared.reading.Repaired.{Repaired}
use Rattle.repair_report.specs.Lines.{change_line}
use Rattle.repair_report.specs.RepairLines.{flow_lines, rule_lines}
use Rattle.repair_report.proofs.Joined.{lines_joined, on_ok}
use Rattle.repair_report.proofs.report.push_after_columns.Goals as goal

pub returns : goal.returns
returns c =
    let rules = c.args.rules.now in
    let before = c.args.text.now.items in
    let priced = rule_lines rules c.args.table.now c.args.series.now in
    let change = change_line rules.format.decimals in
    let flow = flow_lines c.args.flow.now in
    on_ok c.push_lists.result
    (λ e.
    lines_joined before c.push_rules.new.text.items c.push_lists.new.text.items priced (map change c.args.changes.now ++ flow) c.in_ok-push_rules.ensures e
    ∙ ap (λ (readings : List Repaired). before ++ text_of_lines (priced ++ (map change readings ++ flow))) c.requires.changed)
    c.push_lists.ensures
