use Rattle.std.proofs.Common.{subst}
use Rattle.std.specs.List.{AllByRecursion}
use Rattle.series_csv.specs.File.{TableView}
use Rattle.series_csv.specs.Readings.{values, IsSmall}
use Rattle.series_csv.proofs.table.Table.series.Goals as goal

pub returns-clause-small : goal.returns-clause-small
returns-clause-small c = subst (λ (t : TableView). AllByRecursion IsSmall (values t)) c.self.view_is c.self.invariant.small
