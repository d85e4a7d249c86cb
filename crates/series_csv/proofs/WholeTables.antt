-- How a whole table is read.
use Rattle.std.proofs.Common.{◌≡◌, ◌≢◌, ℕ, zero, suc, ◌+◌, ◌≤◌, ℤ, ◌<ℤ◌, unsigned_abs, List, [], ◌∷◌, ◌++◌, length, take, drop, Option, Some, None, Result, Ok, Err, refl, sym, ap, ◌∙◌, subst, append_assoc, arith}
use Rattle.std.specs.Prelude.{IsSome}
use Rattle.std.specs.List.{AllByRecursion}
use Rattle.std.proofs.lemmas.List.{append-nil, take-append-drop}
use Rattle.std.proofs.lemmas.Int.{ints}
use Rattle.words.proofs.Lists.{all_append, all_map, all_weaker}
use Rattle.fix_point.specs.Grammar.{Sign, none, plus, minus}
use Rattle.fix_point.specs.Scaled.{signed, IsScaled}
use Rattle.fix_point.specs.declared.scale.TheConstants.{MOST_UNITS}
use Rattle.rule_file.specs.declared.rules.Format.{Format}
use Rattle.rule_file.specs.declared.rules.Rules.{Rules}
use Rattle.series_rows.specs.Before.{BeforeView, nothing_before, after_row}
use Rattle.series_rows.specs.Cells.{ReadsCell}
use Rattle.series_rows.specs.Faults.{of_memory}
use Rattle.series_rows.specs.Header.{HeaderView, field_at, sensor_columns}
use Rattle.series_rows.specs.ReadsRow.{before_cells, AreCells, IsRow, IsLater}
use Rattle.series_rows.specs.Row.{RowView, CellsView}
use Rattle.series_rows.specs.declared.cell.RowReading.{RowReading}
use Rattle.series_rows.specs.declared.fault.TableFault.{TableFault}
use Rattle.screen_model.specs.declared.limits.TheConstants.{MOST_ROWS, MOST_READINGS}
use Rattle.series_rows.specs.declared.limits.Limits.TheVariants.{Whole}
use Rattle.series_csv.specs.Read.{Read, ReadsRows, ReadsFirst, ReadsRecords}
use Rattle.series_csv.specs.File.{TableView, whole, cut_fault, end_fault, ReadsSoFar, ReadsEnded, ReadsShort}
use Rattle.series_csv.specs.Feeds.{with_event, refused_by, GoesOn, Adds, Feeds, Ends}
use Rattle.series_csv.specs.Readings.{values_in, values_of, IsSmall, TimesRise}
use Rattle.series_csv.specs.Stays.{ReadStays}
use Rattle.series_csv.specs.Indexed.{AreIndexed}
use Rattle.series_csv.specs.Whole.{read_of, AreWithin, IsReading}
use Rattle.series_csv.specs.declared.event.Event.{Event}
use Rattle.series_csv.specs.declared.reader.RowReader.{RowReader}
use Rattle.series_csv.specs.declared.whole.Draft.{Draft}
use Rattle.series_csv.specs.declared.whole.TableReader.{TableReader}
use Rattle.series_csv.proofs.Feeding.{cut_of}
use Rattle.series_csv.proofs.Finishing.{end_of}
use Rattle.series_csv.proofs.HaveAnswers.{has_header}
use Rattle.series_csv.proofs.Indexing.{length-values_of}

-- ---- the readings are small

size_of_signed : (sign : Sign) (size : ℕ) → unsigned_abs (signed sign size) ≡ size
size_of_signed minus zero = refl
size_of_signed minus (suc size) = refl
size_of_signed none size = refl
size_of_signed plus size = refl

scaled_small : (format : Format) (field : List ℕ) (value : ℤ) → IsScaled field format.decimals format.extra MOST_UNITS value → IsSmall value
scaled_small format field value scaled =
    let size : unsigned_abs value ≡ scaled.size = ap unsigned_abs scaled.value_is ∙ size_of_signed scaled.parts.sign scaled.size in
    omega (arith, size, scaled.small)

abbrev HasSmall : RowReading → Type 0
HasSmall reading = IsSmall reading.value

cell_small : (format : Format) (field : List ℕ) (col : ℕ) (reading : Option ℤ) (others : CellsView) → ReadsCell format field (Ok reading) → AllByRecursion HasSmall others.readings → AllByRecursion HasSmall (before_cells col reading others).readings
cell_small format field col None others p rest = rest
cell_small format field col (Some value) others p rest = (scaled_small format field value p.1, rest)

cells_small : (format : Format) (fields : List (List ℕ)) (cols : List ℕ) (cells : CellsView) → AreCells format fields cols cells → AllByRecursion HasSmall cells.readings
cells_small format fields [] cells p = subst (λ (c : CellsView). AllByRecursion HasSmall c.readings) (sym p) tt
cells_small format fields (col ∷ cols) cells p =
    subst (λ (c : CellsView). AllByRecursion HasSmall c.readings) (sym p.4) (cell_small format (field_at fields col) col p.0 p.1 p.2 (cells_small format fields cols p.1 p.3))

row_small : (rules : Rules) (header : HeaderView) (before : BeforeView) (fields : List (List ℕ)) (row : RowView) → IsRow rules header Whole before fields row → AllByRecursion IsSmall (values_in row)
row_small rules header before fields row is =
    all_map IsSmall (λ (reading : RowReading). reading.value) row.readings (cells_small rules.format fields (sensor_columns header) (record { readings = row.readings; missing = row.missing }) is.has_cells.cells_are)

-- ---- the times of a table

ticks_before : (a b c : ℤ) → a <ℤ b → b <ℤ c → a <ℤ c
ticks_before a b c first second = omega (arith, ints)

-- ---- the limits of a table

-- there are no more rows and readings than a table may have, with those before
record AreFewMore (before : BeforeView) (rows : List RowView) : Type 0 where
  few : before.rows + length rows ≤ MOST_ROWS
  few_readings : before.readings + length (values_of rows) ≤ MOST_READINGS
  small : AllByRecursion IsSmall (values_of rows)

rows_few : (rules : Rules) (header : HeaderView) (before : BeforeView) (records : List (List (List ℕ))) (last : Option TableFault) (rows : List RowView) (fault : Option TableFault) → ReadsRows rules Whole header before records last rows fault → before.rows ≤ MOST_ROWS → before.readings ≤ MOST_READINGS → AreFewMore before rows
rows_few rules header before records last [] fault p few few_readings = record { few = omega arith; few_readings = omega arith; small = tt }
rows_few rules header before [] last (row ∷ rows) fault p few few_readings = absurd p
rows_few rules header before (fields ∷ records) last (row ∷ rows) fault p few few_readings =
    let room = p.0.has_cells.timed.fits.room in
    let rest = rows_few rules header (after_row before row) records last rows fault p.1 (omega (arith, room)) p.0.few in
    record { few = omega (arith, rest.few); few_readings = omega (arith, rest.few_readings, length-values_of row rows); small = all_append IsSmall (values_in row) (values_of rows) (row_small rules header before fields row p.0) rest.small }

-- all rows are later than the last one before them, if there is one
are_later : (rules : Rules) (header : HeaderView) (before : BeforeView) (records : List (List (List ℕ))) (last : Option TableFault) (rows : List RowView) (fault : Option TableFault) (ticks : ℤ) → before.ticks ≡ Some ticks → ReadsRows rules Whole header before records last rows fault → AllByRecursion (λ (later : RowView). ticks <ℤ later.ticks) rows
are_later rules header before records last [] fault ticks is p = tt
are_later rules header before [] last (row ∷ rows) fault ticks is p = absurd p
are_later rules header before (fields ∷ records) last (row ∷ rows) fault ticks is p =
    let later : ticks <ℤ row.ticks = subst (λ t. IsLater t row.ticks) is p.0.has_cells.timed.later in
    let rest = are_later rules header (after_row before row) records last rows fault row.ticks refl p.1 in
    (later, all_weaker (λ (next : RowView). row.ticks <ℤ next.ticks) (λ (next : RowView). ticks <ℤ next.ticks) (λ next after. ticks_before ticks row.ticks next.ticks later after) rows rest)

rows_rise : (rules : Rules) (header : HeaderView) (before : BeforeView) (records : List (List (List ℕ))) (last : Option TableFault) (rows : List RowView) (fault : Option TableFault) → ReadsRows rules Whole header before records last rows fault → TimesRise rows
rows_rise rules header before records last [] fault p = tt
rows_rise rules header before [] last (row ∷ rows) fault p = absurd p
rows_rise rules header before (fields ∷ records) last (row ∷ rows) fault p =
    (are_later rules header (after_row before row) records last rows fault row.ticks refl p.1, rows_rise rules header (after_row before row) records last rows fault p.1)

first_rise : (rules : Rules) (fields : List (List ℕ)) (records : List (List (List ℕ))) (last : Option TableFault) (header : Option HeaderView) (rows : List RowView) (fault : Option TableFault) → ReadsFirst rules Whole fields records last header rows fault → TimesRise rows
first_rise rules fields records last (Some header) rows fault p = rows_rise rules header nothing_before records last rows fault p.1
first_rise rules fields records last None rows fault p = subst (λ rs. TimesRise rs) (sym p.2) tt

records_rise : (rules : Rules) (records : List (List (List ℕ))) (last : Option TableFault) (read : Read) → ReadsRecords rules Whole records last read → TimesRise read.rows
records_rise rules [] last read p = subst (λ rs. TimesRise rs) (sym (ap (λ (r : Read). r.rows) p)) tt
records_rise rules (fields ∷ records) last read p = first_rise rules fields records last read.header read.rows read.fault p

first_few : (rules : Rules) (fields : List (List ℕ)) (records : List (List (List ℕ))) (last : Option TableFault) (header : Option HeaderView) (rows : List RowView) (fault : Option TableFault) → ReadsFirst rules Whole fields records last header rows fault → AreFewMore nothing_before rows
first_few rules fields records last (Some header) rows fault p = rows_few rules header nothing_before records last rows fault p.1 (omega arith) (omega arith)
first_few rules fields records last None rows fault p = subst (λ rs. AreFewMore nothing_before rs) (sym p.2) (record { few = omega arith; few_readings = omega arith; small = tt })

records_few : (rules : Rules) (records : List (List (List ℕ))) (last : Option TableFault) (read : Read) → ReadsRecords rules Whole records last read → AreFewMore nothing_before read.rows
records_few rules [] last read p = subst (λ rs. AreFewMore nothing_before rs) (sym (ap (λ (r : Read). r.rows) p)) (record { few = omega arith; few_readings = omega arith; small = tt })
records_few rules (fields ∷ records) last read p = first_few rules fields records last read.header read.rows read.fault p

within : (rules : Rules) (records : List (List (List ℕ))) (last : Option TableFault) (read : Read) → ReadsRecords rules Whole records last read → AreWithin read
within rules records last read p =
    let few = records_few rules records last read p in
    record { few = omega (arith, few.few); few_readings = omega (arith, few.few_readings); small = few.small; times = records_rise rules records last read p }

pub within_so_far : (rules : Rules) (bytes : List ℕ) (read : Read) → ReadsSoFar rules Whole bytes read → AreWithin read
within_so_far rules bytes read p = let cut = cut_of rules bytes in within rules cut.records (cut_fault cut.records cut.fault) read p

pub within_ended : (rules : Rules) (bytes : List ℕ) (read : Read) → ReadsEnded rules Whole bytes read → AreWithin read
within_ended rules bytes read p = let over = end_of rules bytes in within rules over.records (end_fault over.records over.fault) read p

-- ---- bytes of the rest

-- a refusal of the bytes is one of the whole file
pub refused_whole : ReadStays → (rules : Rules) (bytes rest : List ℕ) (count : ℕ) (read : Read) (fault : TableFault) → ReadsSoFar rules Whole (bytes ++ take count rest) (refused_by read fault) → ReadsShort rules (bytes ++ rest) (Err fault)
refused_whole stay rules bytes rest count read fault p =
    let stays = stay rules Whole (bytes ++ take count rest) (drop count rest) (refused_by read fault) p in
    let all : (bytes ++ take count rest) ++ drop count rest ≡ bytes ++ rest = append_assoc bytes (take count rest) (drop count rest) ∙ ap (λ more. bytes ++ more) (take-append-drop count rest) in
    (refused_by read fault, subst (λ b. ReadsEnded rules Whole b (refused_by read fault)) all (stays.refused refl).1, refl)

-- nothing was added
pub fed_none : (old new : TableReader) (rules : Rules) (bytes rest : List ℕ) (count : ℕ) (answer : Result (Option Event) TableFault) → answer ≡ Ok None → IsReading old rules bytes → Feeds rules Whole bytes (take count rest) answer new.reader → new.draft ≡ old.draft → IsReading new rules (bytes ++ take count rest)
fed_none old new rules bytes rest count answer is reading feeds same =
    let goes : GoesOn rules Whole bytes (take count rest) new.reader = subst (λ x. Feeds rules Whole bytes (take count rest) x new.reader) is feeds in
    record {
      stands = goes.stands;
      reads = subst (λ (d : Draft). ReadsSoFar rules Whole (bytes ++ take count rest) (read_of d)) (sym same) (goes.same (read_of old.draft) reading.reads);
      indexed = subst (λ (d : Draft). AreIndexed d.rows) (sym same) reading.indexed;
    }

-- an event was added
pub fed_event : (old new : TableReader) (rules : Rules) (bytes rest : List ℕ) (count : ℕ) (answer : Result (Option Event) TableFault) (event : Event) → answer ≡ Ok (Some event) → IsReading old rules bytes → Feeds rules Whole bytes (take count rest) answer new.reader → read_of new.draft ≡ with_event (read_of old.draft) event → AreIndexed new.draft.rows → IsReading new rules (bytes ++ take count rest)
fed_event old new rules bytes rest count answer event is reading feeds same indexed =
    let adds : Adds rules Whole bytes (take count rest) event new.reader = subst (λ x. Feeds rules Whole bytes (take count rest) x new.reader) is feeds in
    record {
      stands = adds.stands;
      reads = subst (λ r. ReadsSoFar rules Whole (bytes ++ take count rest) r) (sym same) (adds.at_last (read_of old.draft) reading.reads).1;
      indexed = indexed;
    }

-- an event that comes keeps the limits
pub event_within : (old : TableReader) (new : RowReader) (rules : Rules) (bytes rest : List ℕ) (count : ℕ) (answer : Result (Option Event) TableFault) (event : Event) → answer ≡ Ok (Some event) → IsReading old rules bytes → Feeds rules Whole bytes (take count rest) answer new → AreWithin (with_event (read_of old.draft) event)
event_within old new rules bytes rest count answer event is reading feeds =
    let adds : Adds rules Whole bytes (take count rest) event new = subst (λ x. Feeds rules Whole bytes (take count rest) x new) is feeds in
    within_so_far rules (bytes ++ take count rest) (with_event (read_of old.draft) event) (adds.at_last (read_of old.draft) reading.reads).1

-- the rest was refused
pub fed_refused : ReadStays → (old : TableReader) (new : RowReader) (rules : Rules) (bytes rest : List ℕ) (count : ℕ) (answer : Result (Option Event) TableFault) (fault : TableFault) → answer ≡ Err fault → IsReading old rules bytes → Feeds rules Whole bytes (take count rest) answer new → fault ≢ of_memory → ReadsShort rules (bytes ++ rest) (Err fault)
fed_refused stay old new rules bytes rest count answer fault is reading feeds other =
    let refuses : Feeds rules Whole bytes (take count rest) (Err fault) new = subst (λ x. Feeds rules Whole bytes (take count rest) x new) is feeds in
    refused_whole stay rules bytes rest count (read_of old.draft) fault ((refuses other).at_last (read_of old.draft) reading.reads)

-- ---- the end

some_header : (rules : Rules) (bytes : List ℕ) (header : Option HeaderView) (rows : List RowView) → ReadsEnded rules Whole bytes (record { header = header; rows = rows; fault = None }) → IsSome header
some_header rules bytes (Some header) rows p = refl
some_header rules bytes None rows p = absurd (has_header rules Whole (end_of rules bytes).records (end_of rules bytes).fault rows p)

-- a file that ended without a refusal has a header
pub ended_has_header : (rules : Rules) (bytes : List ℕ) (draft : Draft) → ReadsEnded rules Whole bytes (read_of draft) → IsSome draft.header
ended_has_header rules bytes draft p = some_header rules bytes draft.header draft.rows.rows p

-- an event that comes at the end keeps the limits
pub last_within : (old : TableReader) (rules : Rules) (bytes : List ℕ) (answer : Result (Option Event) TableFault) (event : Event) → answer ≡ Ok (Some event) → IsReading old rules bytes → Ends rules Whole bytes answer → AreWithin (with_event (read_of old.draft) event)
last_within old rules bytes answer event is reading ends =
    let last : Ends rules Whole bytes (Ok (Some event)) = subst (λ x. Ends rules Whole bytes x) is ends in
    within_ended rules bytes (with_event (read_of old.draft) event) (last (read_of old.draft) reading.reads).1

-- what was read at the end
pub ended_none : (old : TableReader) (rules : Rules) (bytes : List ℕ) (answer : Result (Option Event) TableFault) → answer ≡ Ok None → IsReading old rules bytes → Ends rules Whole bytes answer → ReadsEnded rules Whole bytes (read_of old.draft)
ended_none old rules bytes answer is reading ends =
    let last : Ends rules Whole bytes (Ok None) = subst (λ x. Ends rules Whole bytes x) is ends in last (read_of old.draft) reading.reads

pub ended_event : (old : TableReader) (new : Draft) (rules : Rules) (bytes : List ℕ) (answer : Result (Option Event) TableFault) (event : Event) → answer ≡ Ok (Some event) → IsReading old rules bytes → Ends rules Whole bytes answer → read_of new ≡ with_event (read_of old.draft) event → ReadsEnded rules Whole bytes (read_of new)
ended_event old new rules bytes answer event is reading ends same =
    let last : Ends rules Whole bytes (Ok (Some event)) = subst (λ x. Ends rules Whole bytes x) is ends in
    subst (λ r. ReadsEnded rules Whole bytes r) (sym same) (last (read_of old.draft) reading.reads).1

pub ended_refused : (old : TableReader) (rules : Rules) (bytes : List ℕ) (answer : Result (Option Event) TableFault) (fault : TableFault) → answer ≡ Err fault → IsReading old rules bytes → Ends rules Whole bytes answer → fault ≢ of_memory → ReadsShort rules bytes (Err fault)
ended_refused old rules bytes answer fault is reading ends other =
    let refuses : Ends rules Whole bytes (Err fault) = subst (λ x. Ends rules Whole bytes x) is ends in
    (refused_by (read_of old.draft) fault, refuses other (read_of old.draft) reading.reads, refl)

-- its table
pub ended_table : (rules : Rules) (bytes : List ℕ) (draft : Draft) (table : TableView) → ReadsEnded rules Whole bytes (read_of draft) → table.rows ≡ draft.rows.rows → draft.header ≡ Some table.header → ReadsShort rules bytes (Ok table)
ended_table rules bytes draft table p rows header =
    let same : read_of draft ≡ whole table = λ i. record { header = header i; rows = sym rows i; fault = None } in
    subst (λ r. ReadsEnded rules Whole bytes r) same p

-- ---- a whole file

-- some bytes have been read of a file that has these, and this rest of it is left
pub record HasLeft (reading : TableReader) (rules : Rules) (bytes rest : List ℕ) : Type 0 where
  pub front : List ℕ
  pub all : front ++ rest ≡ bytes
  pub reads : IsReading reading rules front

pub left_all : (reading : TableReader) (rules : Rules) (bytes : List ℕ) → IsReading reading rules [] → HasLeft reading rules bytes bytes
left_all reading rules bytes reads = record { front = []; all = refl; reads = reads }

pub left_some : (old new : TableReader) (rules : Rules) (bytes rest : List ℕ) (count : ℕ) (left : HasLeft old rules bytes rest) → IsReading new rules (left.front ++ take count rest) → HasLeft new rules bytes (drop count rest)
left_some old new rules bytes rest count left reads =
    record {
      front = left.front ++ take count rest;
      all = append_assoc left.front (take count rest) (drop count rest) ∙ (ap (λ more. left.front ++ more) (take-append-drop count rest) ∙ left.all);
      reads = reads;
    }

pub left_none : (reading : TableReader) (rules : Rules) (bytes rest : List ℕ) → rest ≡ [] → HasLeft reading rules bytes rest → IsReading reading rules bytes
left_none reading rules bytes rest ended left =
    let all : left.front ≡ bytes = sym (append-nil left.front) ∙ (ap (λ more. left.front ++ more) (sym ended) ∙ left.all) in
    subst (λ b. IsReading reading rules b) all left.reads
