-- What the records of a file are read as is one thing only.
use Rattle.std.proofs.Common.{◌≡◌, inl, inr, ℕ, List, [], ◌∷◌, Option, Some, None, Result, Ok, Err, refl, sym, ap, ◌∙◌, subst, arith}
use Rattle.words.proofs.Answers.{value_or_cause, one_cause, one_good}
use Rattle.rule_file.specs.declared.rules.Rules.{Rules}
use Rattle.series_rows.specs.Before.{BeforeView, nothing_before, after_row}
use Rattle.series_rows.specs.Header.{HeaderView, ReadsHeader}
use Rattle.series_rows.specs.ReadsRow.{ReadsRow}
use Rattle.series_rows.specs.Row.{RowView}
use Rattle.series_rows.specs.declared.fault.TableFault.{TableFault}
use Rattle.series_rows.specs.declared.limits.Limits.{Limits}
use Rattle.series_rows.specs.declared.limits.Limits.TheVariants.{Whole}
use Rattle.series_csv.specs.Read.{Read, ReadsRows, ReadsFirst, ReadsRecords}
use Rattle.series_csv.specs.File.{TableView, whole, ReadsEnded, ReadsShort, ReadsTable}

-- what is proved of one record
abbrev pub HeadersAreOne : Type 0
HeadersAreOne = (rules : Rules) (fields : List (List ℕ)) (one other : Result HeaderView TableFault) → ReadsHeader rules fields one → ReadsHeader rules fields other → one ≡ other

abbrev pub RowsAreOne : Type 0
RowsAreOne = (rules : Rules) (header : HeaderView) (limits : Limits) (before : BeforeView) (fields : List (List ℕ)) (one other : Result RowView TableFault) → ReadsRow rules header limits before fields one → ReadsRow rules header limits before fields other → one ≡ other

same_some : (one other : TableFault) → ◌≡◌ {A = Option TableFault} (Some one) (Some other) → one ≡ other
same_some one other e = cc

pub one_rows : RowsAreOne → (rules : Rules) (limits : Limits) (header : HeaderView) (before : BeforeView) (records : List (List (List ℕ))) (last : Option TableFault) (rows others : List RowView) (fault other : Option TableFault) → ReadsRows rules limits header before records last rows fault → ReadsRows rules limits header before records last others other → (rows ≡ others) × (fault ≡ other)
one_rows law rules limits header before [] last [] [] fault other p q = (refl, p ∙ sym q)
one_rows law rules limits header before [] last [] (o ∷ os) fault other p q = absurd q
one_rows law rules limits header before [] last (r ∷ rs) others fault other p q = absurd p
one_rows law rules limits header before (fields ∷ records) last [] [] fault other p q =
    (refl, p.2 ∙ (ap Some (one_cause (ReadsRow rules header limits before fields) (law rules header limits before fields) p.0 q.0 p.1 q.1) ∙ sym q.2))
one_rows law rules limits header before (fields ∷ records) last [] (o ∷ os) fault other p q =
    absurd (value_or_cause (ReadsRow rules header limits before fields) (law rules header limits before fields) o p.0 q.0 p.1)
one_rows law rules limits header before (fields ∷ records) last (r ∷ rs) [] fault other p q =
    absurd (value_or_cause (ReadsRow rules header limits before fields) (law rules header limits before fields) r q.0 p.0 q.1)
one_rows law rules limits header before (fields ∷ records) last (r ∷ rs) (o ∷ os) fault other p q =
    let same = one_good (ReadsRow rules header limits before fields) (law rules header limits before fields) r o p.0 q.0 in
    let tail : ReadsRows rules limits header (after_row before o) records last rs fault = subst (λ x. ReadsRows rules limits header (after_row before x) records last rs fault) same p.1 in
    let rest = one_rows law rules limits header (after_row before o) records last rs os fault other tail q.1 in
    ((λ i. same i ∷ rest.0 i), rest.1)

-- the parts of two things that were read are the same
pub record AreSame (one other : Read) : Type 0 where
  pub headers : one.header ≡ other.header
  pub rows : one.rows ≡ other.rows
  pub faults : one.fault ≡ other.fault

pub same_read : (one other : Read) → AreSame one other → one ≡ other
same_read one other same = λ i. record { header = same.headers i; rows = same.rows i; fault = same.faults i }

abbrev read_as : Option HeaderView → List RowView → Option TableFault → Read
read_as header rows fault = record { header = header; rows = rows; fault = fault }

one_first : HeadersAreOne → RowsAreOne → (rules : Rules) (limits : Limits) (fields : List (List ℕ)) (records : List (List (List ℕ))) (last : Option TableFault) (h k : Option HeaderView) (rows others : List RowView) (fault other : Option TableFault) → ReadsFirst rules limits fields records last h rows fault → ReadsFirst rules limits fields records last k others other → AreSame (read_as h rows fault) (read_as k others other)
one_first headers law rules limits fields records last (Some h) (Some k) rows others fault other p q =
    let same = one_good (ReadsHeader rules fields) (headers rules fields) h k p.0 q.0 in
    let tail : ReadsRows rules limits k nothing_before records last rows fault = subst (λ x. ReadsRows rules limits x nothing_before records last rows fault) same p.1 in
    let rest = one_rows law rules limits k nothing_before records last rows others fault other tail q.1 in
    record { headers = ap Some same; rows = rest.0; faults = rest.1 }
one_first headers law rules limits fields records last (Some h) None rows others fault other p q =
    absurd (value_or_cause (ReadsHeader rules fields) (headers rules fields) h q.0 p.0 q.1)
one_first headers law rules limits fields records last None (Some k) rows others fault other p q =
    absurd (value_or_cause (ReadsHeader rules fields) (headers rules fields) k p.0 q.0 p.1)
one_first headers law rules limits fields records last None None rows others fault other p q =
    record {
      headers = refl;
      rows = p.2 ∙ sym q.2;
      faults = p.3 ∙ (ap Some (one_cause (ReadsHeader rules fields) (headers rules fields) p.0 q.0 p.1 q.1) ∙ sym q.3);
    }

pub one_read : HeadersAreOne → RowsAreOne → (rules : Rules) (limits : Limits) (records : List (List (List ℕ))) (last : Option TableFault) (one other : Read) → ReadsRecords rules limits records last one → ReadsRecords rules limits records last other → one ≡ other
one_read headers law rules limits [] last one other p q = p ∙ sym q
one_read headers law rules limits (fields ∷ records) last one other p q =
    same_read one other (one_first headers law rules limits fields records last one.header other.header one.rows other.rows one.fault other.fault p q)

-- ---- a table

same_table : (one other : TableView) → whole one ≡ whole other → one ≡ other
same_table one other e =
    let rows : one.rows ≡ other.rows = ap (λ (r : Read). r.rows) e in
    let header : ◌≡◌ {A = Option HeaderView} (Some one.header) (Some other.header) = ap (λ (r : Read). r.header) e in
    let same : one.header ≡ other.header = cc in
    λ i. record { header = same i; rows = rows i }

no_fault_there : (fault : TableFault) → ◌≡◌ {A = Option TableFault} None (Some fault) → ⊥
no_fault_there fault e = cc

-- what was read of a whole file is one thing
abbrev EndedIsOne : Rules → List ℕ → Type 0
EndedIsOne rules bytes = (one other : Read) → ReadsEnded rules Whole bytes one → ReadsEnded rules Whole bytes other → one ≡ other

one_short : (rules : Rules) (bytes : List ℕ) → EndedIsOne rules bytes → (one other : Result TableView TableFault) → ReadsShort rules bytes one → ReadsShort rules bytes other → one ≡ other
one_short rules bytes law (Ok one) (Ok other) p q = ap Ok (same_table one other (law (whole one) (whole other) p q))
one_short rules bytes law (Ok one) (Err fault) p q = absurd (no_fault_there fault (ap (λ (r : Read). r.fault) (law (whole one) q.0 p q.1) ∙ q.2))
one_short rules bytes law (Err fault) (Ok other) p q = absurd (no_fault_there fault (ap (λ (r : Read). r.fault) (law (whole other) p.0 q p.1) ∙ p.2))
one_short rules bytes law (Err one) (Err other) p q =
    ap Err (same_some one other (sym p.2 ∙ (ap (λ (r : Read). r.fault) (law p.0 q.0 p.1 q.1) ∙ q.2)))

pub one_table : (rules : Rules) (bytes : List ℕ) → EndedIsOne rules bytes → (one other : Result TableView TableFault) → ReadsTable rules bytes one → ReadsTable rules bytes other → one ≡ other
one_table rules bytes law one other (inl p) (inl q) = p.1 ∙ sym q.1
one_table rules bytes law one other (inl p) (inr q) = absurd (omega (arith, p.0, q.0))
one_table rules bytes law one other (inr p) (inl q) = absurd (omega (arith, p.0, q.0))
one_table rules bytes law one other (inr p) (inr q) = one_short rules bytes law one other p.1 q.1
