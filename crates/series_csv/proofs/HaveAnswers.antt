-- Each file has an answer, since each of its records has one.
use Rattle.std.proofs.Common.{◌≡◌, ◌⊎◌, inl, inr, ℕ, ◌<◌, ◌≤◌, List, [], ◌∷◌, length, Option, Some, None, Result, Ok, Err, refl, ap}
use Rattle.std.proofs.lemmas.Bool.{cases_lt}
use Rattle.rule_file.specs.declared.rules.Rules.{Rules}
use Rattle.series_rows.specs.Before.{BeforeView, nothing_before, after_row}
use Rattle.series_rows.specs.Header.{HeaderView, ReadsHeader}
use Rattle.series_rows.specs.ReadsRow.{ReadsRow}
use Rattle.series_rows.specs.Row.{RowView}
use Rattle.series_rows.specs.Faults.{fault_at, of_the_file}
use Rattle.series_rows.specs.declared.fault.TableCause.TheVariants.{NoHeader, Cut, FileTooLong}
use Rattle.series_rows.specs.declared.fault.TableFault.{TableFault}
use Rattle.series_rows.specs.declared.limits.Limits.{Limits}
use Rattle.series_rows.specs.declared.limits.Limits.TheVariants.{Whole}
use Rattle.series_csv.specs.Read.{Read, ReadsRows, ReadsRecords}
use Rattle.series_csv.specs.File.{TableView, cut_fault, end_fault, ReadsEnded, ReadsShort, ReadsTable}
use Rattle.series_csv.specs.Stays.{FilesHaveAnswers}
use Rattle.series_csv.specs.declared.table.TheConstants.{LONGEST}
use Rattle.record_cut.specs.declared.fault.CutFault.{CutFault}
use Rattle.series_csv.proofs.Continuing.{none_or_some}
use Rattle.series_csv.proofs.Feeding.{cut_of}
use Rattle.series_csv.proofs.Finishing.{end_of}

-- each first record is a header, or has a reason why it is none
abbrev pub HeadersHaveAnswers : Type 0
HeadersHaveAnswers = (rules : Rules) (fields : List (List ℕ)) → (answer : Result HeaderView TableFault) × ReadsHeader rules fields answer

-- each later record is a row, or has a reason why it is none
abbrev pub RowsHaveAnswers : Type 0
RowsHaveAnswers =
    (rules : Rules) (header : HeaderView) (limits : Limits) (before : BeforeView) (fields : List (List ℕ)) → (answer : Result RowView TableFault) × ReadsRow rules header limits before fields answer

abbrev RowsAnswer : Rules → Limits → HeaderView → List (List (List ℕ)) → Option TableFault → BeforeView → Type 0
RowsAnswer rules limits header records last before = (rows : List RowView) × (fault : Option TableFault) × ReadsRows rules limits header before records last rows fault

row_answer : (rules : Rules) (limits : Limits) (header : HeaderView) (before : BeforeView) (fields : List (List ℕ)) (records : List (List (List ℕ))) (last : Option TableFault) (answer : Result RowView TableFault) → ReadsRow rules header limits before fields answer → ((next : BeforeView) → RowsAnswer rules limits header records last next) → RowsAnswer rules limits header (fields ∷ records) last before
row_answer rules limits header before fields records last (Ok row) p rest = let others = rest (after_row before row) in (row ∷ others.0, others.1, (p, others.2))
row_answer rules limits header before fields records last (Err fault) p rest = ([], Some fault, (fault, p, refl))

rows_answer : RowsHaveAnswers → (rules : Rules) (limits : Limits) (header : HeaderView) (records : List (List (List ℕ))) (last : Option TableFault) (before : BeforeView) → RowsAnswer rules limits header records last before
rows_answer later rules limits header [] last before = ([], last, refl)
rows_answer later rules limits header (fields ∷ records) last before =
    let found = later rules header limits before fields in
    row_answer rules limits header before fields records last found.0 found.1 (rows_answer later rules limits header records last)

abbrev RecordsAnswer : Rules → Limits → List (List (List ℕ)) → Option TableFault → Type 0
RecordsAnswer rules limits records last = (read : Read) × ReadsRecords rules limits records last read

first_answer : RowsHaveAnswers → (rules : Rules) (limits : Limits) (fields : List (List ℕ)) (records : List (List (List ℕ))) (last : Option TableFault) (answer : Result HeaderView TableFault) → ReadsHeader rules fields answer → RecordsAnswer rules limits (fields ∷ records) last
first_answer later rules limits fields records last (Ok header) p =
    let rest = rows_answer later rules limits header records last nothing_before in
    (record { header = Some header; rows = rest.0; fault = rest.1 }, (p, rest.2))
first_answer later rules limits fields records last (Err fault) p = (record { header = None; rows = []; fault = Some fault }, (fault, p, refl, refl))

records_answer : HeadersHaveAnswers → RowsHaveAnswers → (rules : Rules) (limits : Limits) (records : List (List (List ℕ))) (last : Option TableFault) → RecordsAnswer rules limits records last
records_answer first later rules limits [] last = (record { header = None; rows = []; fault = last }, refl)
records_answer first later rules limits (fields ∷ records) last =
    let found = first rules fields in first_answer later rules limits fields records last found.0 found.1

-- ---- a table

no_record : (records : List (List (List ℕ))) (fault : Option CutFault) → records ≡ [] → None ≡ end_fault records fault → ⊥
no_record [] None empty e = none_or_some (of_the_file NoHeader) e
no_record [] (Some fault) empty e = none_or_some (fault_at 0 0 (Cut fault)) e
no_record (fields ∷ records) fault empty e = cc

-- where nothing is refused there is a header
pub has_header : (rules : Rules) (limits : Limits) (records : List (List (List ℕ))) (fault : Option CutFault) (rows : List RowView) → ReadsRecords rules limits records (end_fault records fault) (record { header = None; rows = rows; fault = None }) → ⊥
has_header rules limits [] fault rows p = no_record [] fault refl (ap (λ (r : Read). r.fault) p)
has_header rules limits (fields ∷ records) fault rows p = none_or_some p.0 p.3

short_answer : (rules : Rules) (bytes : List ℕ) (header : Option HeaderView) (rows : List RowView) (fault : Option TableFault) → ReadsEnded rules Whole bytes (record { header = header; rows = rows; fault = fault }) → (answer : Result TableView TableFault) × ReadsShort rules bytes answer
short_answer rules bytes header rows (Some fault) p = (Err fault, (record { header = header; rows = rows; fault = Some fault }, p, refl))
short_answer rules bytes (Some header) rows None p = (Ok (record { header = header; rows = rows }), p)
short_answer rules bytes None rows None p = absurd (has_header rules Whole (end_of rules bytes).records (end_of rules bytes).fault rows p)

table_answer : (rules : Rules) (bytes : List ℕ) → (answer : Result TableView TableFault) × ReadsShort rules bytes answer → (LONGEST < length bytes) ⊎ (length bytes ≤ LONGEST) → (answer : Result TableView TableFault) × ReadsTable rules bytes answer
table_answer rules bytes short (inl long) = (Err (of_the_file FileTooLong), inl (long, refl))
table_answer rules bytes short (inr fits) = (short.0, inr (fits, short.1))

pub answers : HeadersHaveAnswers → RowsHaveAnswers → FilesHaveAnswers
answers first later = λ rules limits bytes.
    let cut = cut_of rules bytes in
    let over = end_of rules bytes in
    let read = records_answer first later rules Whole over.records (end_fault over.records over.fault) in
    record {
      so_far = records_answer first later rules limits cut.records (cut_fault cut.records cut.fault);
      ended = records_answer first later rules limits over.records (end_fault over.records over.fault);
      table = table_answer rules bytes (short_answer rules bytes read.0.header read.0.rows read.0.fault read.1) (cases_lt LONGEST (length bytes));
    }
