-- A record always has an answer as a row: its checks come one after the other, and each refuses it or does not.
use Rattle.std.proofs.Common.{◌≡◌, ◌≢◌, ℕ, suc, ◌+◌, ◌<◌, ◌≤◌, ◌⊎◌, inl, inr, Bool, true, false, ℤ, ◌<ℤ◌, ◌≤ℤ◌, List, [], ◌∷◌, length, Option, Some, None, Result, Ok, Err, refl}
use Rattle.std.proofs.lemmas.Int.{by_lt_z}
use Rattle.std.proofs.lemmas.Bool.{cases_eq, cases_lt}
use Rattle.fix_point.specs.Scaled as Scaled
use Rattle.fix_point.specs.declared.scale.Extra.{Extra}
use Rattle.fix_point.specs.declared.scale.NumFault.{NumFault}
use Rattle.fix_point.specs.declared.scale.TheConstants.{MOST_UNITS}
use Rattle.time_text.specs.Ticks as Ticks
use Rattle.time_text.specs.declared.form.TimeForm.{TimeForm}
use Rattle.time_text.specs.declared.form.TimeFault.{TimeFault}
use Rattle.rule_file.specs.declared.rules.Format.{Format}
use Rattle.rule_file.specs.declared.rules.Rules.{Rules}
use Rattle.series_rows.specs.Before.{BeforeView}
use Rattle.series_rows.specs.Cells.{is_missing, ReadsCell}
use Rattle.series_rows.specs.Faults.{fault_at}
use Rattle.series_rows.specs.Header.{HeaderView, field_at, sensor_columns}
use Rattle.series_rows.specs.Kept.{row_view}
use Rattle.series_rows.specs.Parts.{no_cells}
use Rattle.series_rows.specs.ReadsRow.{most_rows, AreFew, AreTooMany, IsLater, IsNotLater, AreCells, RefusesFirst, before_cells, Fits, IsTimed, HasCells, HasCause, ReadsRow}
use Rattle.series_rows.specs.Row.{RowView, CellsView}
use Rattle.series_rows.specs.declared.fault.TableCause.{TableCause}
use Rattle.series_rows.specs.declared.fault.TableCause.TheVariants.{Width, Time, TimeNotRising, Value, TooManyRows, TooManyReadings}
use Rattle.series_rows.specs.declared.fault.TableFault.{TableFault}
use Rattle.screen_model.specs.declared.limits.TheConstants.{MOST_READINGS}
use Rattle.series_rows.specs.declared.limits.Limits.{Limits}
use Rattle.series_rows.specs.declared.limits.Limits.TheVariants.{Whole, Endless}

-- each number text has an answer
abbrev pub HasNumberAnswer : Type 0
HasNumberAnswer = (text : List ℕ) (d : ℕ) (extra : Extra) (most : ℤ) → (answer : Result ℤ NumFault) × Scaled.Reads text d extra most answer

-- each time text has an answer
abbrev pub HasTimeAnswer : Type 0
HasTimeAnswer = (form : TimeForm) (text : List ℕ) → (answer : Result ℤ TimeFault) × Ticks.Reads form text answer

-- ---- the cells

abbrev HasCellAnswer : Format → List ℕ → Type 0
HasCellAnswer format field = (answer : Result (Option ℤ) NumFault) × ReadsCell format field answer

number_cell : (format : Format) (field : List ℕ) → is_missing field ≡ false → (answer : Result ℤ NumFault) → Scaled.Reads field format.decimals format.extra MOST_UNITS answer → HasCellAnswer format field
number_cell format field present (Ok value) reads = (Ok (Some value), (present, reads))
number_cell format field present (Err fault) reads = (Err fault, (present, reads))

cell_by : HasNumberAnswer → (format : Format) (field : List ℕ) (missing : Bool) → is_missing field ≡ missing → HasCellAnswer format field
cell_by numbers format field true is = (Ok None, is)
cell_by numbers format field false is = let found = numbers field format.decimals format.extra MOST_UNITS in number_cell format field is found.0 found.1

cell_answer : HasNumberAnswer → (format : Format) (field : List ℕ) → HasCellAnswer format field
cell_answer numbers format field = cell_by numbers format field (is_missing field) refl

-- the fields of the columns are cells, or one of them is the first that is refused
abbrev HasCellsAnswer : Format → List (List ℕ) → List ℕ → Type 0
HasCellsAnswer format fields cols =
    ((cells : CellsView) × AreCells format fields cols cells) ⊎ ((at : ℕ) × (fault : NumFault) × RefusesFirst format fields cols at fault)

with_cell : (format : Format) (fields : List (List ℕ)) (col : ℕ) (cols : List ℕ) (answer : Result (Option ℤ) NumFault) → ReadsCell format (field_at fields col) answer → HasCellsAnswer format fields cols → HasCellsAnswer format fields (col ∷ cols)
with_cell format fields col cols (Err fault) read rest = inr (col, fault, inl (refl, read))
with_cell format fields col cols (Ok reading) read (inl (cells, are)) = inl (before_cells col reading cells, (reading, cells, read, are, refl))
with_cell format fields col cols (Ok reading) read (inr (at, fault, refuses)) = inr (at, fault, inr (reading, read, refuses))

cells_answer : HasNumberAnswer → (format : Format) (fields : List (List ℕ)) (cols : List ℕ) → HasCellsAnswer format fields cols
cells_answer numbers format fields [] = inl (no_cells, refl)
cells_answer numbers format fields (col ∷ cols) =
    let found = cell_answer numbers format (field_at fields col) in
    with_cell format fields col cols found.0 found.1 (cells_answer numbers format fields cols)

-- ---- the limits and the order of times

few_by : (count : ℕ) → (MOST_READINGS < count) ⊎ (count ≤ MOST_READINGS) → AreFew Whole count ⊎ AreTooMany Whole count
few_by count (inl many) = inr many
few_by count (inr few) = inl few

few_or_many : (limits : Limits) (count : ℕ) → AreFew limits count ⊎ AreTooMany limits count
few_or_many Whole count = few_by count (cases_lt MOST_READINGS count)
few_or_many Endless count = inl tt

in_two : (last ticks : ℤ) → (last <ℤ ticks) ⊎ (ticks ≤ℤ last)
in_two last ticks = by_lt_z last ticks (λ h. inl h) (λ h. inr h)

later_or_not : (last : Option ℤ) (ticks : ℤ) → IsLater last ticks ⊎ IsNotLater last ticks
later_or_not None ticks = inl tt
later_or_not (Some last) ticks = in_two last ticks

-- ---- the checks

module _ (rules : Rules) (header : HeaderView) (limits : Limits) (before : BeforeView) (fields : List (List ℕ)) where
  abbrev HasAnswer : Type 0
  HasAnswer = (answer : Result RowView TableFault) × ReadsRow rules header limits before fields answer

  abbrev time_field : List ℕ
  time_field = field_at fields header.time_col

  refused_for : (col : ℕ) (cause : TableCause) → HasCause rules header limits before fields cause col → HasAnswer
  refused_for col cause h = (Err (fault_at (suc before.rows) col cause), (refl, h))

  after_cells : (ticks : ℤ) (cells : CellsView) → HasCells rules header limits before fields ticks cells → AreFew limits (before.readings + length cells.readings) ⊎ AreTooMany limits (before.readings + length cells.readings) → HasAnswer
  after_cells ticks cells has (inl few) = (Ok (row_view fields ticks header.time_col cells), record { fields_are = refl; time_col_is = refl; has_cells = has; few = few })
  after_cells ticks cells has (inr many) = refused_for 0 TooManyReadings ((ticks, cells, has, many), refl)

  after_time : (ticks : ℤ) → IsTimed rules header limits before fields ticks → HasCellsAnswer rules.format fields (sensor_columns header) → HasAnswer
  after_time ticks timed (inl (cells, are)) = after_cells ticks cells (record { timed = timed; cells_are = are }) (few_or_many limits (before.readings + length cells.readings))
  after_time ticks timed (inr (col, fault, refuses)) = refused_for col (Value fault) ((ticks, timed), refuses)

  module _ (numbers : HasNumberAnswer) (times : HasTimeAnswer) where
    by_order : Fits rules header limits before fields → (ticks : ℤ) → Ticks.Spells rules.format.form time_field ticks → IsLater before.ticks ticks ⊎ IsNotLater before.ticks ticks → HasAnswer
    by_order fits ticks time (inl later) = after_time ticks (record { fits = fits; time = time; later = later }) (cells_answer numbers rules.format fields (sensor_columns header))
    by_order fits ticks time (inr late) = refused_for header.time_col TimeNotRising (fits, (ticks, time, late), refl)

    by_time : Fits rules header limits before fields → (time : Result ℤ TimeFault) → Ticks.Reads rules.format.form time_field time → HasAnswer
    by_time fits (Ok ticks) time = by_order fits ticks time (later_or_not before.ticks ticks)
    by_time fits (Err fault) time = refused_for header.time_col (Time fault) (fits, time, refl)

    by_width : before.rows < most_rows limits → (length fields ≡ length header.fields) ⊎ (length fields ≢ length header.fields) → HasAnswer
    by_width room (inl width) = let found = times rules.format.form time_field in by_time (record { room = room; width = width }) found.0 found.1
    by_width room (inr differs) = refused_for 0 Width (room, differs, refl)

    by_room : (before.rows < most_rows limits) ⊎ (most_rows limits ≤ before.rows) → HasAnswer
    by_room (inl room) = by_width room (cases_eq (length fields) (length header.fields))
    by_room (inr full) = refused_for 0 TooManyRows (full, refl)

    pub row_answer : HasAnswer
    row_answer = by_room (cases_lt before.rows (most_rows limits))
