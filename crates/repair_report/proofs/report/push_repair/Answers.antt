use Rattle.std.proofs.Common.{◌++◌, List, ℕ, append_assoc, ap, ◌∙◌}
use Rattle.cert_format.specs.Words.{text_of_lines}
use Rattle.repair_report.specs.RepairLines.{change_lines, column_lines, flow_lines, rule_lines, total_lines}
use Rattle.repair_report.proofs.Joined.{lines_joined, on_ok}
use Rattle.repair_report.proofs.report.push_repair.Goals as goal

pub compare-requires : goal.compare-requires
compare-requires c = c.requires.repair.best.best.whole ∙ c.places-places.ensures.len

pub push_sums-requires-clause-obeys : goal.push_sums-requires-clause-obeys
push_sums-requires-clause-obeys c = c.requires.repair.best.best.obeys

pub push_sums-requires-clause-total : goal.push_sums-requires-clause-total
push_sums-requires-clause-total c = c.requires.repair.total_is

pub push_sums-requires-clause-paid : goal.push_sums-requires-clause-paid
push_sums-requires-clause-paid c = c.requires.repair.paid_is

pub push_after_columns-requires-clause-obeys : goal.push_after_columns-requires-clause-obeys
push_after_columns-requires-clause-obeys c = c.requires.repair.best.best.obeys

pub returns : goal.returns
returns c =
    let rules = c.args.rules.now in
    let table = c.args.table.now in
    let series = c.args.series.now in
    let before = c.args.text.now.items in
    let totals = total_lines rules table series in
    let columns = column_lines rules table series in
    let rest = rule_lines rules table series ++ (change_lines rules table series ++ flow_lines c.args.flow.now) in
    on_ok c.push_after_columns.result
    (λ e.
    lines_joined before c.push_sums.new.text.items c.push_after_columns.new.text.items (totals ++ columns) rest c.in_ok-push_sums.ensures e
    ∙ ap (λ (lines : List (List ℕ)). before ++ text_of_lines lines) (append_assoc totals columns rest))
    c.push_after_columns.ensures
