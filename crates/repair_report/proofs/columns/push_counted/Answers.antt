use Rattle.std.proofs.Common.{◌++◌, ◌∷◌, [], pos, ap, ◌∙◌, arith}
use Rattle.std.specs.Prelude.{decimal}
use Rattle.fix_point.specs.Text.{text_of_value}
use Rattle.cert_format.specs.Words.{line_feed}
use Rattle.series_csv.specs.Readings.{places, values}
use Rattle.bound_maker.specs.Costs.{weights}
use Rattle.repair_report.specs.declared.tally.Tally.{Tally}
use Rattle.repair_report.specs.Lines.{table_line}
use Rattle.repair_report.specs.Repairs.{repaired}
use Rattle.repair_report.proofs.ColumnSums.{column_fits}
use Rattle.repair_report.proofs.Joined.{on_ok}
use Rattle.repair_report.proofs.Zipped.{repaired_few}
use Rattle.repair_report.proofs.columns.push_counted.Goals as goal

pub push_column-requires-clause-small : goal.push_column-requires-clause-small
push_column-requires-clause-small c =
    let table = c.args.table.now in
    let few = repaired_few (places table) (weights c.args.rules.now table) (values table) c.args.series.now in
    column_fits (repaired c.args.rules.now table c.args.series.now) c.args.tallies.now c.args.col _ c.requires.counted c.requires.column (omega (arith, few, c.len-count.ensures.len, c.len-count.ensures.most))

pub returns : goal.returns
returns c =
    let d = c.args.rules.now.format.decimals in
    on_ok c.push_column.result
    (λ e.
    e ∙ ap (λ (t : Tally). c.args.text.now.items ++ (table_line (decimal c.args.col) (decimal t.readings) (decimal t.changed) (text_of_value (pos t.change) d) ++ line_feed ∷ [])) (c.requires.counted.each c.args.col _ c.requires.column))
    c.push_column.ensures
