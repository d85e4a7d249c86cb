use Rattle.std.proofs.Common.{ℕ, ◌≤◌, List, length, subst, sym, arith}
use Rattle.std.specs.Prelude.{◌==◌}
use Rattle.std.specs.List.{AllByRecursion, list_any}
use Rattle.screen_model.specs.declared.limits.TheConstants.{MOST_COLUMNS}
use Rattle.repair_report.proofs.ColumnSums.{columns_within}
use Rattle.repair_report.proofs.columns.columns_of.Goals as goal

pub returns-clause-within : goal.returns-clause-within
returns-clause-within c =
    let header = c.args.header.now in
    subst (λ (cols : List ℕ). AllByRecursion (λ col. col ≤ MOST_COLUMNS) cols) (sym c.sensor_columns.ensures)
    (columns_within (λ col. list_any (λ sensor. sensor == col) header.sensor_cols) (length header.fields) (omega (arith, c.width-width.ensures.width, c.width-width.ensures.most)))
