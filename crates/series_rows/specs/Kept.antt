-- For proofs: what the types keep.
use Rattle.std.specs.Prelude.{◌≡◌, ℕ, ◌*◌, ◌≤◌, ℤ, List, length}
use Rattle.series_rows.specs.Before.{BeforeView}
use Rattle.series_rows.specs.Header.{HeaderView, sensor_columns}
use Rattle.series_rows.specs.Row.{RowView, CellsView, columns, Rise}
use Rattle.series_rows.specs.declared.cells.SensorCells.{SensorCells}
use Rattle.screen_model.specs.declared.limits.TheConstants.{MOST_COLUMNS}
use Rattle.series_rows.specs.declared.limits.TheConstants.{MOST_ENDLESS_ROWS}

abbrev pub header_view : List (List ℕ) → ℕ → List ℕ → HeaderView
header_view fields time_col sensor_cols = record { fields = fields; time_col = time_col; sensor_cols = sensor_cols }

-- the time column is one of the columns, and the sensor columns are those that it names
pub record KeepsHeader (header : HeaderView) (from_left : List ℕ) : Type 0 where
  pub time_least : 1 ≤ header.time_col
  pub time_most : header.time_col ≤ length header.fields
  pub few : length header.fields ≤ MOST_COLUMNS
  pub from_left_are : from_left ≡ sensor_columns header

-- the cells, wherever they lie in memory
abbrev pub seen_cells : SensorCells → CellsView
seen_cells cells = record { readings = cells.readings.items; missing = cells.missing.items }

abbrev pub row_view : List (List ℕ) → ℤ → ℕ → CellsView → RowView
row_view fields ticks time_col cells =
    record { fields = fields; ticks = ticks; time_col = time_col; readings = cells.readings; missing = cells.missing }

-- a row has as many columns as a header may have, and its readings go up from the left
pub record KeepsRow (row : RowView) : Type 0 where
  pub some : 1 ≤ length row.fields
  pub few : length row.fields ≤ MOST_COLUMNS
  pub rise : Rise 0 (columns row.readings) (length row.fields)

-- there are no more rows than a stream may have, and no more readings than their columns
pub record KeepsBefore (before : BeforeView) : Type 0 where
  pub few : before.rows ≤ MOST_ENDLESS_ROWS
  pub within : before.readings ≤ MOST_COLUMNS * before.rows
