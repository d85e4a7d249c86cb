-- For proofs: the cells of a row so far, and the first that is refused.
use Rattle.std.specs.Prelude.{◌≡◌, ℕ, suc, ◌≤◌, ℤ, List, [], ◌∷◌, ◌++◌, Option, Some, None}
use Rattle.fix_point.specs.declared.scale.NumFault.{NumFault}
use Rattle.time_text.specs.Ticks.{Spells, Refuses}
use Rattle.rule_file.specs.declared.rules.Format.{Format}
use Rattle.rule_file.specs.declared.rules.Rules.{Rules}
use Rattle.series_rows.specs.Before.{BeforeView}
use Rattle.series_rows.specs.Faults.{fault_at}
use Rattle.series_rows.specs.ReadsRow.{RefusesFirst, IsLater, IsNotLater}
use Rattle.series_rows.specs.Row.{CellsView}
use Rattle.series_rows.specs.declared.fault.TableCause.{TableCause}
use Rattle.series_rows.specs.declared.fault.TableCause.TheVariants.{NoHeader, TooManyColumns, NameTwice, NoSuchSensor, Width, Time, TimeNotRising, Value, TooManyRows, TooManyReadings, Cut, FileTooLong, Memory}
use Rattle.series_rows.specs.declared.fault.TableFault.{TableFault}

abbrev pub no_cells : CellsView
no_cells = record { readings = []; missing = [] }

-- the cell of a column, to the right of others
abbrev pub with_last : CellsView → ℕ → Option ℤ → CellsView
with_last cells col (Some value) = record { readings = cells.readings ++ record { col = col; value = value } ∷ []; missing = cells.missing }
with_last cells col None = record { readings = cells.readings; missing = cells.missing ++ col ∷ [] }

-- a column is one of so many
abbrev pub IsWithin : ℕ → ℕ → Type 0
IsWithin width col = (1 ≤ col) × (col ≤ width)

-- the fault of the first of the columns that is refused, in the row of this number
abbrev pub IsFirstRefused : ℕ → Format → List (List ℕ) → List ℕ → TableFault → Type 0
IsFirstRefused row format fields cols fault =
    (refusal : NumFault) × (fault ≡ fault_at row fault.col (Value refusal)) × RefusesFirst format fields cols fault.col refusal

-- the time field is these ticks, later than those of the row before
abbrev pub IsRowTime : Rules → BeforeView → List ℕ → ℤ → Type 0
IsRowTime rules before field ticks = Spells rules.format.form field ticks × IsLater before.ticks ticks

-- why it is not
abbrev pub RefusesTime : Rules → BeforeView → List ℕ → TableCause → Type 0
RefusesTime rules before field (Time fault) = Refuses rules.format.form field fault
RefusesTime rules before field TimeNotRising = (ticks : ℤ) × Spells rules.format.form field ticks × IsNotLater before.ticks ticks
RefusesTime rules before field NoHeader = ⊥
RefusesTime rules before field TooManyColumns = ⊥
RefusesTime rules before field NameTwice = ⊥
RefusesTime rules before field (NoSuchSensor rule) = ⊥
RefusesTime rules before field Width = ⊥
RefusesTime rules before field (Value fault) = ⊥
RefusesTime rules before field TooManyRows = ⊥
RefusesTime rules before field TooManyReadings = ⊥
RefusesTime rules before field (Cut fault) = ⊥
RefusesTime rules before field FileTooLong = ⊥
RefusesTime rules before field Memory = ⊥

-- the fault of a time field in this column, of the row after those before
abbrev pub IsTimeFault : Rules → BeforeView → ℕ → List ℕ → TableFault → Type 0
IsTimeFault rules before col field fault = (fault ≡ fault_at (suc before.rows) col fault.cause) × RefusesTime rules before field fault.cause
