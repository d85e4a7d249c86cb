use Rattle.std.proofs.Common.{List, sym, subst}
use Rattle.series_rows.specs.Row.{RowView}
use Rattle.series_csv.specs.Readings.{TimesRise}
use Rattle.bound_maker.proofs.Binding.{stamps_rise}
use Rattle.bound_maker.proofs.Gathered.{readings_small}
use Rattle.bound_maker.proofs.reading.rows_of.Goals as goal

pub returns-clause-rise : goal.returns-clause-rise
returns-clause-rise c = λ col. stamps_rise 1 col c.all_rows.result.now (subst (λ (rows : List RowView). TimesRise rows) (sym c.all_rows.ensures.rows) c.all_rows.ensures.times)

pub returns-clause-small : goal.returns-clause-small
returns-clause-small c = λ col. readings_small 1 col c.all_rows.result.now c.args.table.now.rows c.all_rows.ensures.rows c.series-values.ensures.small
