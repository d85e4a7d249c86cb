use Rattle.std.proofs.Common.{subst}
use Rattle.series_csv.specs.File.{TableView}
use Rattle.series_csv.specs.Readings.{TimesRise}
use Rattle.series_csv.proofs.table.Table.all_rows.Goals as goal

pub returns-clause-times : goal.returns-clause-times
returns-clause-times c = subst (λ (t : TableView). TimesRise t.rows) c.self.view_is c.self.invariant.times
