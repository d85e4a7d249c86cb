use Rattle.std.proofs.Common.{◌++◌, List, ℕ, pos, ap, ◌∙◌, arith}
use Rattle.std.specs.Prelude.{unsigned_abs}
use Rattle.screen_model.specs.Cost.{cost, paid}
use Rattle.cert_format.specs.Words.{text_of_lines}
use Rattle.bound_maker.specs.Costs.{whole_problem}
use Rattle.repair_report.specs.RepairLines.{column_lines, total_lines}
use Rattle.repair_report.specs.Repairs.{priced_rules}
use Rattle.repair_report.proofs.Joined.{lines_joined, on_ok, totals_are}
use Rattle.repair_report.proofs.report.push_sums.Goals as goal

pub push_totals-requires-clause-total : goal.push_totals-requires-clause-total
push_totals-requires-clause-total c = omega (arith, ap unsigned_abs c.requires.total, c.sums_fit.ensures.cost)

pub push_totals-requires-clause-paid : goal.push_totals-requires-clause-paid
push_totals-requires-clause-paid c = omega (arith, ap unsigned_abs c.requires.paid, c.sums_fit.ensures.paid)

pub returns : goal.returns
returns c =
    let rules = c.args.rules.now in
    let table = c.args.table.now in
    let series = c.args.series.now in
    let problem = whole_problem rules table in
    let before = c.args.text.now.items in
    let totals = totals_are rules.format.decimals c.args.costs.0 c.args.costs.1 (pos (cost problem series)) (pos (paid problem series)) c.args.priced.now (priced_rules rules) c.requires.total c.requires.paid c.requires.priced in
    on_ok c.push_columns.result
    (lines_joined before c.push_totals.new.text.items c.push_columns.new.text.items (total_lines rules table series) (column_lines rules table series)
    (c.in_ok-push_totals.ensures ∙ ap (λ (lines : List (List ℕ)). before ++ text_of_lines lines) totals))
    c.push_columns.ensures
