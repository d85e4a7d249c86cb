-- To be believed: what stands before a record that is read as a row.
use Rattle.std.specs.Prelude.{ℕ, ◌+◌, ℤ, length, Option, Some, None}
use Rattle.series_rows.specs.Row.{RowView}

-- the rows before, the ticks of the last of them, and how many readings they have
pub record BeforeView : Type 0 where
  pub rows : ℕ
  pub ticks : Option ℤ
  pub readings : ℕ

abbrev pub rows_before : ℕ → Option ℤ → ℕ → BeforeView
rows_before rows ticks readings = record { rows = rows; ticks = ticks; readings = readings }

abbrev pub nothing_before : BeforeView
nothing_before = rows_before 0 None 0

-- after one more row
abbrev pub after_row : BeforeView → RowView → BeforeView
after_row before row = rows_before (before.rows + 1) (Some row.ticks) (before.readings + length row.readings)
