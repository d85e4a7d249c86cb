use Rattle.std.proofs.Common.{◌≡◌, ◌&&◌, take}
use Rattle.std.specs.Prelude.{is_some}
use Rattle.std.specs.List.{count_by}
use Rattle.series_rows.specs.Row.{RowView}
use Rattle.bound_maker.specs.Readings.{reading_in}
use Rattle.bound_maker.proofs.between.count_rows.Given as goal

abbrev pub invariant-loop-row : goal.invariant-loop-row
invariant-loop-row l = l.count ≡ count_by (λ (row : RowView). is_some (reading_in l.first_col row) && is_some (reading_in l.second_col row)) (take l.row-index l.rows)
