-- To be believed: what contracts see of a row.
use Rattle.std.specs.Prelude.{ℕ, ◌<◌, ◌≤◌, ◌==◌, ◌&&◌, nat_lt, nat_le, ℤ, List, [], ◌∷◌, length, map, Option, Some, None, if◌then◌else◌}
use Rattle.std.specs.List.{list_any}
use Rattle.series_rows.specs.declared.cell.Cell.{Cell}
use Rattle.series_rows.specs.declared.cell.Cell.TheVariants.{Missing, Reading, Time, Text}
use Rattle.series_rows.specs.declared.cell.RowReading.{RowReading}

-- columns are counted from 1
pub record RowView : Type 0 where
  pub fields : List (List ℕ)
  pub ticks : ℤ
  pub time_col : ℕ
  -- the readings, from the left
  pub readings : List RowReading
  -- the sensor columns without a reading, from the left
  pub missing : List ℕ

-- the cells of sensor columns alone
pub record CellsView : Type 0 where
  pub readings : List RowReading
  pub missing : List ℕ

-- the cell of a sensor column, and text in any other
abbrev pub sensor_cell : List RowReading → List ℕ → ℕ → Cell
sensor_cell [] missing col = if list_any (λ other. other == col) missing then Missing else Text
sensor_cell (reading ∷ readings) missing col = if reading.col == col then Reading reading.value else sensor_cell readings missing col

-- the cell in a column that the row has
abbrev pub cell_in : RowView → ℕ → Cell
cell_in row col = if col == row.time_col then Time else sensor_cell row.readings row.missing col

-- the cell in a column, if the row has that column
abbrev pub cell_at : RowView → ℕ → Option Cell
cell_at row col = if nat_lt 0 col && nat_le col (length row.fields) then Some (cell_in row col) else None

-- the columns of readings
abbrev pub columns : List RowReading → List ℕ
columns readings = map (λ reading. reading.col) readings

-- the columns go up from the left: they stand after the first column given, and none after the last
abbrev pub Rise : ℕ → List ℕ → ℕ → Type 0
Rise before [] last = Unit {0}
Rise before (col ∷ cols) last = (before < col) × (col ≤ last) × Rise col cols last
