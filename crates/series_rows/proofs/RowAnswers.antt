-- What each check of a record says of its answer.
use Rattle.std.proofs.Common.{◌≡◌, ℕ, suc, ◌+◌, ◌≤◌, ℤ, List, length, Ok, Err, refl, sym, ap, subst, ◌∙◌, arith}
use Rattle.std.specs.List.{AllByRecursion}
use Rattle.rule_file.specs.declared.rules.Format.{Format}
use Rattle.rule_file.specs.declared.rules.Rules.{Rules}
use Rattle.series_rows.specs.Before.{BeforeView}
use Rattle.series_rows.specs.Faults.{fault_at}
use Rattle.series_rows.specs.Header.{HeaderView, field_at, sensor_columns}
use Rattle.series_rows.specs.Kept.{row_view, KeepsRow}
use Rattle.series_rows.specs.Parts.{IsWithin, IsFirstRefused, IsTimeFault, RefusesTime}
use Rattle.series_rows.specs.ReadsRow.{AreFew, AreCells, Fits, IsTimed, HasCells, HasCause, ReadsRow}
use Rattle.series_rows.specs.Row.{RowView, CellsView, Rise}
use Rattle.series_rows.specs.declared.fault.TableCause.{TableCause}
use Rattle.series_rows.specs.declared.fault.TableCause.TheVariants.{NoHeader, TooManyColumns, NameTwice, NoSuchSensor, Width, Time, TimeNotRising, Value, TooManyRows, TooManyReadings, Cut, FileTooLong, Memory}
use Rattle.series_rows.specs.declared.fault.TableFault.{TableFault}
use Rattle.screen_model.specs.declared.limits.TheConstants.{MOST_COLUMNS}
use Rattle.series_rows.specs.declared.limits.Limits.{Limits}
use Rattle.series_rows.proofs.CellsRead.{readings_rise}
use Rattle.series_rows.proofs.RowFacts.{sensors_rise, sensors_within}

-- the fault of a time field
pub time_fault : (rules : Rules) (before : BeforeView) (row col : ℕ) (field : List ℕ) (cause : TableCause) (fault : TableFault) → fault ≡ fault_at row col cause → row ≡ suc before.rows → RefusesTime rules before field cause → IsTimeFault rules before col field fault
time_fault rules before row col field cause fault is number refuses =
    subst (IsTimeFault rules before col field) (sym is) (ap (λ n. fault_at n col cause) number, refuses)

-- the sensor columns are columns of a record that is as wide as the header
pub columns_within : (header : HeaderView) (fields : List (List ℕ)) → length fields ≡ length header.fields → AllByRecursion (IsWithin (length fields)) (sensor_columns header)
columns_within header fields width = subst (λ n. AllByRecursion (IsWithin n) (sensor_columns header)) (sym width) (sensors_within header)

-- the row keeps what rows keep
pub row_keeps : (format : Format) (header : HeaderView) (fields : List (List ℕ)) (ticks : ℤ) (time : ℕ) (cells : CellsView) → length fields ≡ length header.fields → 1 ≤ length header.fields → length header.fields ≤ MOST_COLUMNS
    → AreCells format fields (sensor_columns header) cells → KeepsRow (row_view fields ticks time cells)
row_keeps format header fields ticks time cells width least most are = record {
  some = omega (arith, width, least);
  few = omega (arith, width, most);
  rise = readings_rise format fields 0 (sensor_columns header) (length fields) cells are (subst (Rise 0 (sensor_columns header)) (sym width) (sensors_rise header));
}

module _ (rules : Rules) (header : HeaderView) (limits : Limits) (before : BeforeView) (fields : List (List ℕ)) where
  -- a fault with its cause
  pub refused_for : (row col : ℕ) (cause : TableCause) (fault : TableFault) → fault ≡ fault_at row col cause → row ≡ suc before.rows → HasCause rules header limits before fields cause col → ReadsRow rules header limits before fields (Err fault)
  refused_for row col cause fault is number has = subst (λ f. ReadsRow rules header limits before fields (Err f)) (sym is) (number, has)

  time_cause : (cause : TableCause) (col : ℕ) → Fits rules header limits before fields → RefusesTime rules before (field_at fields header.time_col) cause → col ≡ header.time_col → HasCause rules header limits before fields cause col
  time_cause (Time fault) col fits refuses at = (fits, refuses, at)
  time_cause TimeNotRising col fits refuses at = (fits, refuses, at)
  time_cause NoHeader col fits refuses at = absurd refuses
  time_cause TooManyColumns col fits refuses at = absurd refuses
  time_cause NameTwice col fits refuses at = absurd refuses
  time_cause (NoSuchSensor rule) col fits refuses at = absurd refuses
  time_cause Width col fits refuses at = absurd refuses
  time_cause (Value fault) col fits refuses at = absurd refuses
  time_cause TooManyRows col fits refuses at = absurd refuses
  time_cause TooManyReadings col fits refuses at = absurd refuses
  time_cause (Cut fault) col fits refuses at = absurd refuses
  time_cause FileTooLong col fits refuses at = absurd refuses
  time_cause Memory col fits refuses at = absurd refuses

  -- the time is refused
  pub time_refused : Fits rules header limits before fields → (fault : TableFault) → IsTimeFault rules before header.time_col (field_at fields header.time_col) fault → ReadsRow rules header limits before fields (Err fault)
  time_refused fits fault (is, refuses) = (ap (λ (f : TableFault). f.row) is, time_cause fault.cause fault.col fits refuses (ap (λ (f : TableFault). f.col) is))

  -- a cell is refused
  pub cell_refused : (ticks : ℤ) → IsTimed rules header limits before fields ticks → (row : ℕ) → row ≡ suc before.rows → (fault : TableFault) → IsFirstRefused row rules.format fields (sensor_columns header) fault → ReadsRow rules header limits before fields (Err fault)
  cell_refused ticks timed row number fault (refusal, is, first) =
      (ap (λ (f : TableFault). f.row) is ∙ number, subst (λ cause. HasCause rules header limits before fields cause fault.col) (sym (ap (λ (f : TableFault). f.cause) is)) ((ticks, timed), first))

  -- the record is a row
  pub row_read : (ticks : ℤ) (cells : CellsView) (row : RowView) → row ≡ row_view fields ticks header.time_col cells → HasCells rules header limits before fields ticks cells → AreFew limits (before.readings + length cells.readings) → ReadsRow rules header limits before fields (Ok row)
  row_read ticks cells row is has few =
      subst (λ r. ReadsRow rules header limits before fields (Ok r)) (sym is) (record { fields_are = refl; time_col_is = refl; has_cells = has; few = few })
