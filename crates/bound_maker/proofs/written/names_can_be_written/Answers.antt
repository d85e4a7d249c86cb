use Rattle.std.proofs.Common.{List, length, ◌≤◌, subst}
use Rattle.std.specs.List.{AllByRecursion}
use Rattle.screen_model.specs.declared.limits.TheConstants.{MOST_ROWS}
use Rattle.series_rows.specs.Row.{RowView}
use Rattle.bound_maker.specs.Written.{HasWritableColumns}
use Rattle.bound_maker.proofs.Writing.{can_be_written}
use Rattle.bound_maker.proofs.written.names_can_be_written.Goals as goal

pub returns : goal.returns
returns c =
    let same = c.rows_of-rows.ensures.rows in
    can_be_written c.args.rules.now c.args.table.now c.places-places.ensures.order (subst (λ (rows : List RowView). length rows ≤ MOST_ROWS) same c.rows_of-rows.ensures.few)
    (subst (λ (rows : List RowView). AllByRecursion HasWritableColumns rows) same c.columns_are_few.ensures)
