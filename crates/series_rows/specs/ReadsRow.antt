-- To be believed: what the fields of a later record are read as: a row, or why they are none.
use Rattle.std.specs.Prelude.{◌≡◌, ◌≢◌, ◌⊎◌, ℕ, suc, ◌+◌, ◌<◌, ◌≤◌, ℤ, ◌≤ℤ◌, ◌<ℤ◌, List, [], ◌∷◌, length, Option, Some, None, Result, Ok, Err}
use Rattle.fix_point.specs.declared.scale.NumFault.{NumFault}
use Rattle.time_text.specs.Ticks.{Spells, Refuses}
use Rattle.rule_file.specs.declared.rules.Format.{Format}
use Rattle.rule_file.specs.declared.rules.Rules.{Rules}
use Rattle.series_rows.specs.Before.{BeforeView}
use Rattle.series_rows.specs.Cells.{ReadsCell}
use Rattle.series_rows.specs.Header.{HeaderView, field_at, sensor_columns}
use Rattle.series_rows.specs.Row.{RowView, CellsView}
use Rattle.series_rows.specs.declared.fault.TableCause.{TableCause}
use Rattle.series_rows.specs.declared.fault.TableCause.TheVariants.{NoHeader, TooManyColumns, NameTwice, NoSuchSensor, Width, Time, TimeNotRising, Value, TooManyRows, TooManyReadings, Cut, FileTooLong, Memory}
use Rattle.series_rows.specs.declared.fault.TableFault.{TableFault}
use Rattle.screen_model.specs.declared.limits.TheConstants.{MOST_ROWS, MOST_READINGS}
use Rattle.series_rows.specs.declared.limits.TheConstants.{MOST_ENDLESS_ROWS}
use Rattle.series_rows.specs.declared.limits.Limits.{Limits}
use Rattle.series_rows.specs.declared.limits.Limits.TheVariants.{Whole, Endless}

-- ---- the limits

abbrev pub most_rows : Limits → ℕ
most_rows Whole = MOST_ROWS
most_rows Endless = MOST_ENDLESS_ROWS

-- so many readings are within the limit, or more than there may be
abbrev pub AreFew : Limits → ℕ → Type 0
AreFew Whole count = count ≤ MOST_READINGS
AreFew Endless count = Unit {0}

abbrev pub AreTooMany : Limits → ℕ → Type 0
AreTooMany Whole count = MOST_READINGS < count
AreTooMany Endless count = ⊥

-- ---- the time

-- the ticks are above those of the row before, if there is one, or they are not
abbrev pub IsLater : Option ℤ → ℤ → Type 0
IsLater None ticks = Unit {0}
IsLater (Some last) ticks = last <ℤ ticks

abbrev pub IsNotLater : Option ℤ → ℤ → Type 0
IsNotLater None ticks = ⊥
IsNotLater (Some last) ticks = ticks ≤ℤ last

-- ---- the sensor columns

-- the cell of a column, to the left of others
abbrev pub before_cells : ℕ → Option ℤ → CellsView → CellsView
before_cells col (Some value) others = record { readings = record { col = col; value = value } ∷ others.readings; missing = others.missing }
before_cells col None others = record { readings = others.readings; missing = col ∷ others.missing }

-- the fields in these columns are these cells
abbrev pub AreCells : Format → List (List ℕ) → List ℕ → CellsView → Type 0
AreCells format fields [] cells = cells ≡ record { readings = []; missing = [] }
AreCells format fields (col ∷ cols) cells =
    (reading : Option ℤ) × (others : CellsView) × ReadsCell format (field_at fields col) (Ok reading) × AreCells format fields cols others × (cells ≡ before_cells col reading others)

-- the first of the columns, from the left, whose field is refused
abbrev pub RefusesFirst : Format → List (List ℕ) → List ℕ → ℕ → NumFault → Type 0
RefusesFirst format fields [] at fault = ⊥
RefusesFirst format fields (col ∷ cols) at fault =
    ((at ≡ col) × ReadsCell format (field_at fields col) (Err fault))
    ⊎ ((reading : Option ℤ) × ReadsCell format (field_at fields col) (Ok reading) × RefusesFirst format fields cols at fault)

-- ---- a row

module _ (rules : Rules) (header : HeaderView) (limits : Limits) (before : BeforeView) (fields : List (List ℕ)) where
  -- there may be one more row, and the record is as wide as the header
  pub record Fits : Type 0 where
    pub room : before.rows < most_rows limits
    pub width : length fields ≡ length header.fields

  -- and its time is later than that of the row before
  pub record IsTimed (ticks : ℤ) : Type 0 where
    pub fits : Fits
    pub time : Spells rules.format.form (field_at fields header.time_col) ticks
    pub later : IsLater before.ticks ticks

  -- and the fields of the sensor columns are these cells
  pub record HasCells (ticks : ℤ) (cells : CellsView) : Type 0 where
    pub timed : IsTimed ticks
    pub cells_are : AreCells rules.format fields (sensor_columns header) cells

  -- and there are not too many readings: the record is this row
  pub record IsRow (row : RowView) : Type 0 where
    pub fields_are : row.fields ≡ fields
    pub time_col_is : row.time_col ≡ header.time_col
    pub has_cells : HasCells row.ticks (record { readings = row.readings; missing = row.missing })
    pub few : AreFew limits (before.readings + length row.readings)

  -- The causes to refuse a record, with the column. Each comes where those before it do not.
  abbrev pub HasCause : TableCause → ℕ → Type 0
  HasCause TooManyRows col = (most_rows limits ≤ before.rows) × (col ≡ 0)
  HasCause Width col = (before.rows < most_rows limits) × (length fields ≢ length header.fields) × (col ≡ 0)
  HasCause (Time fault) col = Fits × Refuses rules.format.form (field_at fields header.time_col) fault × (col ≡ header.time_col)
  HasCause TimeNotRising col =
      Fits × ((ticks : ℤ) × Spells rules.format.form (field_at fields header.time_col) ticks × IsNotLater before.ticks ticks) × (col ≡ header.time_col)
  HasCause (Value fault) col = ((ticks : ℤ) × IsTimed ticks) × RefusesFirst rules.format fields (sensor_columns header) col fault
  HasCause TooManyReadings col =
      ((ticks : ℤ) × (cells : CellsView) × HasCells ticks cells × AreTooMany limits (before.readings + length cells.readings)) × (col ≡ 0)
  HasCause NoHeader col = ⊥
  HasCause TooManyColumns col = ⊥
  HasCause NameTwice col = ⊥
  HasCause (NoSuchSensor rule) col = ⊥
  HasCause (Cut fault) col = ⊥
  HasCause FileTooLong col = ⊥
  HasCause Memory col = ⊥

  -- What a record after the header is read as: its row, or the cause to refuse it, with the row's number.
  abbrev pub ReadsRow : Result RowView TableFault → Type 0
  ReadsRow (Ok row) = IsRow row
  ReadsRow (Err fault) = (fault.row ≡ suc before.rows) × HasCause fault.cause fault.col
