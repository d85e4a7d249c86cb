-- What is read of the bytes of a file stays, whatever follows.
use Rattle.std.proofs.Common.{◌≡◌, ℕ, List, [], ◌∷◌, ◌++◌, Option, Some, None, IsTrue, refl, sym, ap, ◌∙◌, subst, append_assoc}
use Rattle.std.specs.Prelude.{IsSome}
use Rattle.words.proofs.Answers.{value_or_cause, one_good}
use Rattle.words.specs.Separators.{is_separator}
use Rattle.record_cut.specs.Ended.{last_record, FaultsStay, RecordsStay}
use Rattle.record_cut.specs.Records.{records as cut_records}
use Rattle.record_cut.specs.declared.fault.CutFault.{CutFault}
use Rattle.rule_file.specs.declared.rules.Rules.{Rules}
use Rattle.series_rows.specs.Before.{BeforeView, nothing_before, after_row}
use Rattle.series_rows.specs.Header.{HeaderView, ReadsHeader}
use Rattle.series_rows.specs.ReadsRow.{ReadsRow}
use Rattle.series_rows.specs.Row.{RowView}
use Rattle.series_rows.specs.declared.fault.TableFault.{TableFault}
use Rattle.series_rows.specs.declared.limits.Limits.{Limits}
use Rattle.series_csv.specs.Read.{Read, ReadsRows, ReadsFirst, ReadsRecords}
use Rattle.series_csv.specs.File.{cut_fault, end_fault, ReadsSoFar, ReadsEnded}
use Rattle.series_csv.specs.Stays.{Continues, Stays}
use Rattle.series_csv.proofs.OneRead.{HeadersAreOne, RowsAreOne}
use Rattle.series_csv.proofs.Continuing.{records_refused}
use Rattle.series_csv.proofs.Feeding.{ReadsCutSoFar, cut_of}
use Rattle.series_csv.proofs.Finishing.{ReadsCutEnded, end_of}

no_some : {A : Type 0} (o : Option A) → o ≡ None → IsSome o → ⊥
no_some None e some = cc
no_some (Some x) e some = cc

-- the first list is the beginning of the second one
abbrev Begins : List RowView → List RowView → Type 0
Begins rows longer = (later : List RowView) × (longer ≡ rows ++ later)

begins_cons : (row other : RowView) (rows others : List RowView) → row ≡ other → Begins rows others → Begins (row ∷ rows) (other ∷ others)
begins_cons row other rows others same rest = (rest.0, λ i. sym same i ∷ rest.1 i)

rows_begin : RowsAreOne → (rules : Rules) (limits : Limits) (header : HeaderView) (before : BeforeView) (records later : List (List (List ℕ))) (last other : Option TableFault) (rows longer : List RowView) (fault found : Option TableFault) → ReadsRows rules limits header before records last rows fault → ReadsRows rules limits header before (records ++ later) other longer found → Begins rows longer
rows_begin law rules limits header before records later last other [] longer fault found p q = (longer, refl)
rows_begin law rules limits header before [] later last other (row ∷ rows) longer fault found p q = absurd p
rows_begin law rules limits header before (fields ∷ records) later last other (row ∷ rows) [] fault found p q =
    absurd (value_or_cause (ReadsRow rules header limits before fields) (law rules header limits before fields) row q.0 p.0 q.1)
rows_begin law rules limits header before (fields ∷ records) later last other (row ∷ rows) (next ∷ longer) fault found p q =
    let same = one_good (ReadsRow rules header limits before fields) (law rules header limits before fields) row next p.0 q.0 in
    let tail : ReadsRows rules limits header (after_row before next) records last rows fault = subst (λ x. ReadsRows rules limits header (after_row before x) records last rows fault) same p.1 in
    begins_cons row next rows longer same (rows_begin law rules limits header (after_row before next) records later last other rows longer fault found tail q.1)

-- the same header, and the rows at the beginning
record IsBegun (h k : Option HeaderView) (rows longer : List RowView) : Type 0 where
  header : IsSome h → k ≡ h
  begin : Begins rows longer

first_begins : HeadersAreOne → RowsAreOne → (rules : Rules) (limits : Limits) (fields : List (List ℕ)) (records later : List (List (List ℕ))) (last other : Option TableFault) (h k : Option HeaderView) (rows longer : List RowView) (fault found : Option TableFault) → ReadsFirst rules limits fields records last h rows fault → ReadsFirst rules limits fields (records ++ later) other k longer found → IsBegun h k rows longer
first_begins headers law rules limits fields records later last other (Some h) (Some k) rows longer fault found p q =
    let same = one_good (ReadsHeader rules fields) (headers rules fields) h k p.0 q.0 in
    let tail : ReadsRows rules limits k nothing_before records last rows fault = subst (λ x. ReadsRows rules limits x nothing_before records last rows fault) same p.1 in
    record {
      header = λ some. ap Some (sym same);
      begin = rows_begin law rules limits k nothing_before records later last other rows longer fault found tail q.1;
    }
first_begins headers law rules limits fields records later last other (Some h) None rows longer fault found p q =
    absurd (value_or_cause (ReadsHeader rules fields) (headers rules fields) h q.0 p.0 q.1)
first_begins headers law rules limits fields records later last other None k rows longer fault found p q =
    record {
      header = λ some. absurd (no_some {A = HeaderView} None refl some);
      begin = (longer, ap (λ rs. rs ++ longer) (sym p.2));
    }

begins_read : HeadersAreOne → RowsAreOne → (rules : Rules) (limits : Limits) (records later : List (List (List ℕ))) (last other : Option TableFault) (read longer : Read) → ReadsRecords rules limits records last read → ReadsRecords rules limits (records ++ later) other longer → IsBegun read.header longer.header read.rows longer.rows
begins_read headers law rules limits [] later last other read longer p q =
    let none : read.header ≡ None = ap (λ (r : Read). r.header) p in
    let no_rows : read.rows ≡ [] = ap (λ (r : Read). r.rows) p in
    record {
      header = λ some. absurd (no_some read.header none some);
      begin = (longer.rows, ap (λ rs. rs ++ longer.rows) (sym no_rows));
    }
begins_read headers law rules limits (fields ∷ records) later last other read longer p q =
    first_begins headers law rules limits fields records later last other read.header longer.header read.rows longer.rows read.fault longer.fault p q

continues : HeadersAreOne → RowsAreOne → (rules : Rules) (limits : Limits) (records later longer_records : List (List (List ℕ))) (last other : Option TableFault) (read longer : Read) → longer_records ≡ records ++ later → ReadsRecords rules limits records last read → ReadsRecords rules limits longer_records other longer → Continues read longer
continues headers law rules limits records later longer_records last other read longer grown p q =
    let begun = begins_read headers law rules limits records later last other read longer p (subst (λ rs. ReadsRecords rules limits rs other longer) grown q) in
    record { header = begun.header; rows = begun.begin }

-- ---- a refusal

-- the records of a file that has ended begin with those of its bytes
end_records : (rules : Rules) (bytes more : List ℕ) (later : List (List (List ℕ))) → (cut_of rules (bytes ++ more)).records ≡ (cut_of rules bytes).records ++ later → (end_of rules (bytes ++ more)).records ≡ (cut_of rules bytes).records ++ (later ++ last_record (cut_records rules.format.separator (bytes ++ more)).onward)
end_records rules bytes more later grown =
    let last = last_record (cut_records rules.format.separator (bytes ++ more)).onward in
    ap (λ rs. rs ++ last) grown ∙ append_assoc (cut_of rules bytes).records later last

-- a record was refused
stays_refused : (rules : Rules) (limits : Limits) (bytes more : List ℕ) (later end : List (List (List ℕ))) (header : Option HeaderView) (rows : List RowView) (fault : TableFault) → (cut_of rules (bytes ++ more)).records ≡ (cut_of rules bytes).records ++ later → (end_of rules (bytes ++ more)).records ≡ (cut_of rules bytes).records ++ end → ReadsRecords rules limits (cut_of rules bytes).records None (record { header = header; rows = rows; fault = Some fault }) → ReadsSoFar rules limits (bytes ++ more) (record { header = header; rows = rows; fault = Some fault }) × ReadsEnded rules limits (bytes ++ more) (record { header = header; rows = rows; fault = Some fault })
stays_refused rules limits bytes more later end header rows fault grown at_end p =
    let cut = cut_of rules (bytes ++ more) in
    let over = end_of rules (bytes ++ more) in
    let first = (cut_of rules bytes).records in
    let F : Option TableFault → List (List (List ℕ)) → Type 0 = λ last rs. ReadsRecords rules limits rs last (record { header = header; rows = rows; fault = Some fault }) in (
      subst (λ rs. F (cut_fault cut.records cut.fault) rs) (sym grown) (records_refused rules limits first later (cut_fault cut.records cut.fault) header rows fault p),
      subst (λ rs. F (end_fault over.records over.fault) rs) (sym at_end) (records_refused rules limits first end (end_fault over.records over.fault) header rows fault p),
    )

-- the cut was refused
stays_cut : (rules : Rules) (limits : Limits) (bytes more : List ℕ) (fault : CutFault) (read : Read) → (cut_of rules bytes).fault ≡ Some fault → cut_of rules (bytes ++ more) ≡ cut_of rules bytes → end_of rules (bytes ++ more) ≡ cut_of rules bytes → ReadsSoFar rules limits bytes read → ReadsSoFar rules limits (bytes ++ more) read × ReadsEnded rules limits (bytes ++ more) read
stays_cut rules limits bytes more fault read found same at_end p =
    let cut = cut_of rules bytes in
    let F : Option TableFault → Type 0 = λ last. ReadsRecords rules limits cut.records last read in
    let as_end : F (end_fault cut.records cut.fault) =
    subst (λ f. F (end_fault cut.records f)) (sym found) (subst (λ f. F (cut_fault cut.records f)) found p) in
    (subst (λ c. ReadsCutSoFar rules limits c read) (sym same) p, subst (λ c. ReadsCutEnded rules limits c read) (sym at_end) as_end)

-- whether the cut was refused
refused_by_cut : FaultsStay → RecordsStay → (rules : Rules) (limits : Limits) (bytes more : List ℕ) (cut_off : Option CutFault) (header : Option HeaderView) (rows : List RowView) (fault : TableFault) → IsTrue (is_separator rules.format.separator) → (cut_of rules bytes).fault ≡ cut_off → ReadsSoFar rules limits bytes (record { header = header; rows = rows; fault = Some fault }) → ReadsSoFar rules limits (bytes ++ more) (record { header = header; rows = rows; fault = Some fault }) × ReadsEnded rules limits (bytes ++ more) (record { header = header; rows = rows; fault = Some fault })
refused_by_cut faults stay rules limits bytes more (Some cut) header rows fault separates found p =
    let stays = faults rules.format.separator bytes more cut separates found in
    stays_cut rules limits bytes more cut (record { header = header; rows = rows; fault = Some fault }) found stays.may_go_on stays.has_ended p
refused_by_cut faults stay rules limits bytes more None header rows fault separates found p =
    let grown = stay rules.format.separator bytes more separates in
    let last = last_record (cut_records rules.format.separator (bytes ++ more)).onward in
    let none : ReadsRecords rules limits (cut_of rules bytes).records None (record { header = header; rows = rows; fault = Some fault }) =
    subst (λ f. ReadsRecords rules limits (cut_of rules bytes).records (cut_fault (cut_of rules bytes).records f) (record { header = header; rows = rows; fault = Some fault })) found p in
    stays_refused rules limits bytes more grown.0 (grown.0 ++ last) header rows fault grown.1 (end_records rules bytes more grown.0 grown.1) none

refused_at_all : FaultsStay → RecordsStay → (rules : Rules) (limits : Limits) (bytes more : List ℕ) (header : Option HeaderView) (rows : List RowView) (fault : Option TableFault) → IsTrue (is_separator rules.format.separator) → ReadsSoFar rules limits bytes (record { header = header; rows = rows; fault = fault }) → IsSome fault → ReadsSoFar rules limits (bytes ++ more) (record { header = header; rows = rows; fault = fault }) × ReadsEnded rules limits (bytes ++ more) (record { header = header; rows = rows; fault = fault })
refused_at_all faults stay rules limits bytes more header rows (Some fault) separates p some = refused_by_cut faults stay rules limits bytes more (cut_of rules bytes).fault header rows fault separates refl p
refused_at_all faults stay rules limits bytes more header rows None separates p some = absurd (no_some {A = TableFault} None refl some)

-- ---- the law

pub stays : HeadersAreOne → RowsAreOne → FaultsStay → RecordsStay → (rules : Rules) (limits : Limits) (bytes more : List ℕ) (read : Read) → IsTrue (is_separator rules.format.separator) → ReadsSoFar rules limits bytes read → Stays rules limits bytes more read
stays headers law faults stay rules limits bytes more read separates p =
    let cut = cut_of rules bytes in
    let longer_cut = cut_of rules (bytes ++ more) in
    let longer_end = end_of rules (bytes ++ more) in
    let grown = stay rules.format.separator bytes more separates in
    let last = last_record (cut_records rules.format.separator (bytes ++ more)).onward in
    let at_end = end_records rules bytes more grown.0 grown.1 in
    record {
      so_far = λ longer q. continues headers law rules limits cut.records grown.0 longer_cut.records (cut_fault cut.records cut.fault) (cut_fault longer_cut.records longer_cut.fault) read longer grown.1 p q;
      ended = λ longer q. continues headers law rules limits cut.records (grown.0 ++ last) longer_end.records (cut_fault cut.records cut.fault) (end_fault longer_end.records longer_end.fault) read longer at_end p q;
      refused = λ some. refused_at_all faults stay rules limits bytes more read.header read.rows read.fault separates p some;
    }
