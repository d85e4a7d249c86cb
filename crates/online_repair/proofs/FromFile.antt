-- What holds for the rows that are read of a file.
use Rattle.std.proofs.Common.{◌≡◌, Bool, true, false, ℕ, ◌+◌, ◌≤◌, ℤ, ◌<ℤ◌, List, [], ◌∷◌, ◌++◌, length, sym, ap, subst, arith, length-append}
use Rattle.std.specs.Prelude.{Option, Some, None, Ok, unsigned_abs}
use Rattle.std.specs.List.{AllByRecursion}
use Rattle.std.proofs.lemmas.Int.{ints}
use Rattle.words.proofs.Lists.{all_of_append}
use Rattle.fix_point.specs.Grammar.{Sign, none, plus, minus}
use Rattle.fix_point.specs.Scaled.{signed}
use Rattle.fix_point.specs.declared.scale.TheConstants.{MOST_UNITS}
use Rattle.rule_file.specs.Limits.{IsUnits}
use Rattle.rule_file.specs.declared.rules.Format.{Format}
use Rattle.rule_file.specs.declared.rules.Rules.{Rules}
use Rattle.series_rows.specs.Before.{BeforeView, after_row, nothing_before}
use Rattle.series_rows.specs.Header.{HeaderView, field_at, sensor_columns}
use Rattle.series_rows.specs.ReadsRow.{AreCells, IsLater, IsRow, before_cells}
use Rattle.series_rows.specs.Cells.{ReadsCell}
use Rattle.series_rows.specs.Row.{CellsView, RowView}
use Rattle.series_rows.specs.declared.cell.RowReading.{RowReading}
use Rattle.series_rows.specs.declared.fault.TableFault.{TableFault}
use Rattle.series_rows.specs.declared.limits.Limits.TheVariants.{Endless}
use Rattle.series_rows.specs.declared.limits.TheConstants.{MOST_ENDLESS_ROWS}
use Rattle.series_rows.proofs.RowFacts.{row_rises}
use Rattle.series_rows.specs.Faults.{fault_at, of_the_file}
use Rattle.series_rows.specs.declared.fault.TableCause.TheVariants.{NoHeader, Cut}
use Rattle.record_cut.specs.declared.fault.CutFault.{CutFault}
use Rattle.series_csv.specs.Feeds.{with_event}
use Rattle.series_csv.specs.File.{ReadsEnded, cut_fault, end_fault}
use Rattle.series_csv.specs.Read.{Read, ReadsFirst, ReadsRecords, ReadsRows}
use Rattle.series_csv.specs.declared.event.Event.TheVariants.{Row}
use Rattle.series_csv.proofs.Feeding.{cut_of}
use Rattle.series_csv.proofs.Finishing.{end_of}
use Rattle.online_repair.specs.Output.{Reads}
use Rattle.online_repair.specs.Tracks.{RisesFrom}
use Rattle.online_repair.proofs.Grown.{Placed}
use Rattle.online_repair.specs.Keeping.{AreBefore, IsNext}
use Rattle.online_repair.specs.Standing.{IsSound}

-- ---- the readings are small

signed_units : (sign : Sign) (size : ℕ) → size ≤ unsigned_abs MOST_UNITS → IsUnits (signed sign size)
signed_units none size h = (omega (arith, ints), omega (arith, ints))
signed_units plus size h = (omega (arith, ints), omega (arith, ints))
signed_units minus size h = (omega (arith, ints), omega (arith, ints))

abbrev AreUnits : List RowReading → Type 0
AreUnits readings = AllByRecursion (λ (reading : RowReading). IsUnits reading.value) readings

before_units : (format : Format) (field : List ℕ) (col : ℕ) (reading : Option ℤ) (others : CellsView) → ReadsCell format field (Ok reading) → AreUnits others.readings → AreUnits (before_cells col reading others).readings
before_units format field col None others reads all = all
before_units format field col (Some value) others reads all =
    (subst IsUnits (sym reads.1.value_is) (signed_units reads.1.parts.sign reads.1.size reads.1.small), all)

cells_units : (format : Format) (fields : List (List ℕ)) (cols : List ℕ) (cells : CellsView) → AreCells format fields cols cells → AreUnits cells.readings
cells_units format fields [] cells are =
    let U : CellsView → Type 0 = λ c. AreUnits c.readings in
    subst U (sym are) tt
cells_units format fields (col ∷ cols) cells are =
    let U : CellsView → Type 0 = λ c. AreUnits c.readings in
    subst U (sym are.4) (before_units format (field_at fields col) col are.0 are.1 are.2 (cells_units format fields cols are.1 are.3))

row_sound : (rules : Rules) (header : HeaderView) (before : BeforeView) (fields : List (List ℕ)) (row : RowView) → IsRow rules header Endless before fields row → IsSound row
row_sound rules header before fields row is = record {
  units = cells_units rules.format fields (sensor_columns header) (record { readings = row.readings; missing = row.missing }) is.has_cells.cells_are;
  rise = row_rises rules header Endless before fields row is;
}

-- ---- the rows rise, and are not too many

abbrev RiseAfter : Option ℤ → List RowView → Type 0
RiseAfter before [] = Unit {0}
RiseAfter before (row ∷ rows) = IsLater before row.ticks × RiseAfter (Some row.ticks) rows

record AreFileRows (before : BeforeView) (rows : List RowView) : Type 0 where
  sound : AllByRecursion IsSound rows
  rise : RiseAfter before.ticks rows
  few : before.rows ≤ MOST_ENDLESS_ROWS → before.rows + length rows ≤ MOST_ENDLESS_ROWS

file_rows : (rules : Rules) (header : HeaderView) (before : BeforeView) (records : List (List (List ℕ))) (last : Option TableFault) (rows : List RowView) (fault : Option TableFault) → ReadsRows rules Endless header before records last rows fault → AreFileRows before rows
file_rows rules header before records last [] fault reads = record { sound = tt; rise = tt; few = λ h. omega (arith, h) }
file_rows rules header before [] last (row ∷ rows) fault reads = absurd reads
file_rows rules header before (fields ∷ records) last (row ∷ rows) fault reads =
    let rest = file_rows rules header (after_row before row) records last rows fault reads.1 in
    let room = reads.0.has_cells.timed.fits.room in
    record {
      sound = (row_sound rules header before fields row reads.0, rest.sound);
      rise = (reads.0.has_cells.timed.later, rest.rise);
      few = λ h. omega (arith, rest.few (omega (arith, room)));
    }

less_chain : (a b c : ℤ) → a <ℤ b → b <ℤ c → a <ℤ c
less_chain a b c g h = omega (arith, ints)

first_last : (ticks : ℤ) (rows : List RowView) (row : RowView) → RiseAfter (Some ticks) (rows ++ row ∷ []) → ticks <ℤ row.ticks
first_last ticks [] row rise = rise.0
first_last ticks (next ∷ rows) row rise = less_chain ticks next.ticks row.ticks rise.0 (first_last next.ticks rows row rise.1)

all_before : (before : Option ℤ) (rows : List RowView) (row : RowView) → RiseAfter before (rows ++ row ∷ []) → AreBefore row.ticks rows
all_before before [] row rise = tt
all_before before (first ∷ rows) row rise = (first_last first.ticks rows row rise.1, all_before (Some first.ticks) rows row rise.1)

next_by : (rows : List RowView) (row : RowView) → AreFileRows nothing_before (rows ++ row ∷ []) → IsNext rows row
next_by rows row are = record {
  later = all_before None rows row are.rise;
  sound = (all_of_append IsSound rows (row ∷ []) are.sound).1.0;
  few = omega (arith, are.few (omega arith), length-append rows (row ∷ []));
}

-- ---- the next row of a file

not_none : (rows : List RowView) (row : RowView) → rows ++ row ∷ [] ≡ [] → ⊥
not_none [] row e = cc
not_none (first ∷ rows) row e = cc

first_by : (rules : Rules) (fields : List (List ℕ)) (records : List (List (List ℕ))) (last : Option TableFault) (header : Option HeaderView) (rows : List RowView) (row : RowView) (fault : Option TableFault) → ReadsFirst rules Endless fields records last header (rows ++ row ∷ []) fault → IsNext rows row
first_by rules fields records last (Some header) rows row fault reads = next_by rows row (file_rows rules header nothing_before records last (rows ++ row ∷ []) fault reads.1)
first_by rules fields records last None rows row fault reads = absurd (not_none rows row reads.2)

pub next_row : (rules : Rules) (records : List (List (List ℕ))) (last : Option TableFault) (read : Read) (row : RowView) → ReadsRecords rules Endless records last (record read { rows = read.rows ++ row ∷ [] }) → IsNext read.rows row
next_row rules [] last read row reads = absurd (not_none read.rows row (ap (λ (r : Read). r.rows) reads))
next_row rules (fields ∷ records) last read row reads = first_by rules fields records last read.header read.rows row read.fault reads

-- ---- the rows of a file stand in order of time

rises_of : (ticks : ℤ) (rows : List RowView) → RiseAfter (Some ticks) rows → RisesFrom ticks rows
rises_of ticks [] rise = tt
rises_of ticks (row ∷ rows) rise = (rise.0, rises_of row.ticks rows rise.1)

placed_by : (rows : List RowView) → RiseAfter None rows → Placed [] rows
placed_by [] rise = tt
placed_by (row ∷ rows) rise = (tt, rises_of row.ticks rows rise.1)

first_placed : (rules : Rules) (fields : List (List ℕ)) (records : List (List (List ℕ))) (last : Option TableFault) (header : Option HeaderView) (rows : List RowView) (fault : Option TableFault) → ReadsFirst rules Endless fields records last header rows fault → Placed [] rows
first_placed rules fields records last (Some header) rows fault reads = placed_by rows (file_rows rules header nothing_before records last rows fault reads.1).rise
first_placed rules fields records last None rows fault reads =
    let P : List RowView → Type 0 = λ rs. Placed [] rs in
    subst P (sym reads.2) tt

records_placed : (rules : Rules) (records : List (List (List ℕ))) (last : Option TableFault) (read : Read) → ReadsRecords rules Endless records last read → Placed [] read.rows
records_placed rules [] last read reads =
    let P : Read → Type 0 = λ r. Placed [] r.rows in
    subst P (sym reads) tt
records_placed rules (fields ∷ records) last read reads = first_placed rules fields records last read.header read.rows read.fault reads

pub read_placed : (rules : Rules) (ended : Bool) (bytes : List ℕ) (read : Read) → Reads rules ended bytes read → Placed [] read.rows
read_placed rules false bytes read reads = let cut = cut_of rules bytes in records_placed rules cut.records (cut_fault cut.records cut.fault) read reads
read_placed rules true bytes read reads = let cut = end_of rules bytes in records_placed rules cut.records (end_fault cut.records cut.fault) read reads

-- ---- the row that comes next

pub row_next : (rules : Rules) (ended : Bool) (bytes : List ℕ) (read : Read) (row : RowView) → Reads rules ended bytes (with_event read (Row row)) → IsNext read.rows row
row_next rules false bytes read row reads = let cut = cut_of rules bytes in next_row rules cut.records (cut_fault cut.records cut.fault) read row reads
row_next rules true bytes read row reads = let cut = end_of rules bytes in next_row rules cut.records (end_fault cut.records cut.fault) read row reads

-- there is none where no header was read
records_first : (rules : Rules) (records : List (List (List ℕ))) (last : Option TableFault) (rows : List RowView) (row : RowView) (fault : Option TableFault) → ReadsRecords rules Endless records last (record { header = None; rows = rows ++ row ∷ []; fault = fault }) → ⊥
records_first rules [] last rows row fault reads = not_none rows row (ap (λ (r : Read). r.rows) reads)
records_first rules (fields ∷ records) last rows row fault reads = not_none rows row reads.2

pub header_first : (rules : Rules) (ended : Bool) (bytes : List ℕ) (rows : List RowView) (row : RowView) (fault : Option TableFault) → Reads rules ended bytes (record { header = None; rows = rows ++ row ∷ []; fault = fault }) → ⊥
header_first rules false bytes rows row fault reads = let cut = cut_of rules bytes in records_first rules cut.records (cut_fault cut.records cut.fault) rows row fault reads
header_first rules true bytes rows row fault reads = let cut = end_of rules bytes in records_first rules cut.records (end_fault cut.records cut.fault) rows row fault reads

-- a file that has ended without a refusal has a header
none_some : (fault : TableFault) → None ≡ Some fault → ⊥
none_some fault e = cc

records_header : (rules : Rules) (records : List (List (List ℕ))) (cut : Option CutFault) (rows : List RowView) → ReadsRecords rules Endless records (end_fault records cut) (record { header = None; rows = rows; fault = None }) → ⊥
records_header rules [] (Some fault) rows reads = none_some (fault_at 0 0 (Cut fault)) (ap (λ (r : Read). r.fault) reads)
records_header rules [] None rows reads = none_some (of_the_file NoHeader) (ap (λ (r : Read). r.fault) reads)
records_header rules (fields ∷ records) cut rows reads = none_some reads.0 reads.3

pub ended_header : (rules : Rules) (bytes : List ℕ) (rows : List RowView) → ReadsEnded rules Endless bytes (record { header = None; rows = rows; fault = None }) → ⊥
ended_header rules bytes rows reads = let cut = end_of rules bytes in records_header rules cut.records cut.fault rows reads
