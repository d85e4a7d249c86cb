-- How what was read of some records goes on with more.
use Rattle.std.proofs.Common.{◌≡◌, ℕ, suc, ◌+◌, List, [], ◌∷◌, ◌++◌, length, Option, Some, None, refl, sym, ap, subst, arith}
use Rattle.std.proofs.lemmas.List.{append-nil}
use Rattle.rule_file.specs.declared.rules.Rules.{Rules}
use Rattle.series_rows.specs.Before.{BeforeView, nothing_before, after_row}
use Rattle.series_rows.specs.Header.{HeaderView}
use Rattle.series_rows.specs.Row.{RowView}
use Rattle.series_rows.specs.declared.fault.TableFault.{TableFault}
use Rattle.series_rows.specs.declared.limits.Limits.{Limits}
use Rattle.series_csv.specs.Read.{Read, ReadsRows, ReadsFirst, ReadsRecords}
use Rattle.series_csv.specs.StandsFor.{before_next}

pub none_or_some : {A : Type 0} (x : A) → ◌≡◌ {A = Option A} None (Some x) → ⊥
none_or_some x e = cc

pub some_or_none : {A : Type 0} (x : A) → ◌≡◌ {A = Option A} (Some x) None → ⊥
some_or_none x e = cc

-- ---- rows

-- all these records are rows, and more records are read after them
pub rows_on : (rules : Rules) (limits : Limits) (header : HeaderView) (before : BeforeView) (records later : List (List (List ℕ))) (last : Option TableFault) (rows more : List RowView) (fault : Option TableFault) → ReadsRows rules limits header before records None rows None → ReadsRows rules limits header (before_next before rows) later last more fault → ReadsRows rules limits header before (records ++ later) last (rows ++ more) fault
rows_on rules limits header before [] later last [] more fault p q = q
rows_on rules limits header before [] later last (row ∷ rows) more fault p q = absurd p
rows_on rules limits header before (fields ∷ records) later last [] more fault p q = absurd (none_or_some p.0 p.2)
rows_on rules limits header before (fields ∷ records) later last (row ∷ rows) more fault p q =
    (p.0, rows_on rules limits header (after_row before row) records later last rows more fault p.1 q)

-- a record is refused, and what comes after it does not matter
pub rows_refused : (rules : Rules) (limits : Limits) (header : HeaderView) (before : BeforeView) (records later : List (List (List ℕ))) (last : Option TableFault) (rows : List RowView) (fault : TableFault) → ReadsRows rules limits header before records None rows (Some fault) → ReadsRows rules limits header before (records ++ later) last rows (Some fault)
rows_refused rules limits header before [] later last [] fault p = absurd (some_or_none fault p)
rows_refused rules limits header before [] later last (row ∷ rows) fault p = absurd p
rows_refused rules limits header before (fields ∷ records) later last [] fault p = p
rows_refused rules limits header before (fields ∷ records) later last (row ∷ rows) fault p =
    (p.0, rows_refused rules limits header (after_row before row) records later last rows fault p.1)

pub count_rows : (rules : Rules) (limits : Limits) (header : HeaderView) (before : BeforeView) (records : List (List (List ℕ))) (rows : List RowView) → ReadsRows rules limits header before records None rows None → length rows ≡ length records
count_rows rules limits header before [] [] p = refl
count_rows rules limits header before [] (row ∷ rows) p = absurd p
count_rows rules limits header before (fields ∷ records) [] p = absurd (none_or_some p.0 p.2)
count_rows rules limits header before (fields ∷ records) (row ∷ rows) p = ap suc (count_rows rules limits header (after_row before row) records rows p.1)

-- ---- what stands before

pub before_next-push : (before : BeforeView) (rows : List RowView) (row : RowView) → before_next before (rows ++ row ∷ []) ≡ after_row (before_next before rows) row
before_next-push before [] row = refl
before_next-push before (first ∷ rows) row = before_next-push (after_row before first) rows row

pub rows-before_next : (before : BeforeView) (rows : List RowView) → (before_next before rows).rows ≡ before.rows + length rows
rows-before_next before [] = omega arith
rows-before_next before (row ∷ rows) = omega (arith, rows-before_next (after_row before row) rows)

-- ---- records, with the header first

pub records_on : (rules : Rules) (limits : Limits) (records later : List (List (List ℕ))) (last : Option TableFault) (header : HeaderView) (rows more : List RowView) (fault : Option TableFault) → ReadsRecords rules limits records None (record { header = Some header; rows = rows; fault = None }) → ReadsRows rules limits header (before_next nothing_before rows) later last more fault → ReadsRecords rules limits (records ++ later) last (record { header = Some header; rows = rows ++ more; fault = fault })
records_on rules limits [] later last header rows more fault p q = absurd (some_or_none header (ap (λ (r : Read). r.header) p))
records_on rules limits (fields ∷ records) later last header rows more fault p q = (p.0, rows_on rules limits header nothing_before records later last rows more fault p.1 q)

first_refused : (rules : Rules) (limits : Limits) (fields : List (List ℕ)) (records later : List (List (List ℕ))) (last : Option TableFault) (header : Option HeaderView) (rows : List RowView) (fault : TableFault) → ReadsFirst rules limits fields records None header rows (Some fault) → ReadsFirst rules limits fields (records ++ later) last header rows (Some fault)
first_refused rules limits fields records later last (Some header) rows fault p = (p.0, rows_refused rules limits header nothing_before records later last rows fault p.1)
first_refused rules limits fields records later last None rows fault p = p

pub records_refused : (rules : Rules) (limits : Limits) (records later : List (List (List ℕ))) (last : Option TableFault) (header : Option HeaderView) (rows : List RowView) (fault : TableFault) → ReadsRecords rules limits records None (record { header = header; rows = rows; fault = Some fault }) → ReadsRecords rules limits (records ++ later) last (record { header = header; rows = rows; fault = Some fault })
records_refused rules limits [] later last header rows fault p = absurd (some_or_none fault (ap (λ (r : Read). r.fault) p))
records_refused rules limits (fields ∷ records) later last header rows fault p = first_refused rules limits fields records later last header rows fault p

-- without a header nothing has been read
pub nothing_read : (rules : Rules) (limits : Limits) (records : List (List (List ℕ))) (rows : List RowView) → ReadsRecords rules limits records None (record { header = None; rows = rows; fault = None }) → (records ≡ []) × (rows ≡ [])
nothing_read rules limits [] rows p = (refl, ap (λ (r : Read). r.rows) p)
nothing_read rules limits (fields ∷ records) rows p = absurd (none_or_some p.0 p.3)

-- the fault that comes after all records
pub with_last_fault : (rules : Rules) (limits : Limits) (records : List (List (List ℕ))) (last : Option TableFault) (header : Option HeaderView) (rows : List RowView) → ReadsRecords rules limits records None (record { header = header; rows = rows; fault = None }) → ReadsRecords rules limits records last (record { header = header; rows = rows; fault = last })
with_last_fault rules limits records last None rows p =
    let none = nothing_read rules limits records rows p in
    let F : List (List (List ℕ)) → List RowView → Type 0 = λ rs xs. ReadsRecords rules limits rs last (record { header = None; rows = xs; fault = last }) in
    subst (λ rs. F rs rows) (sym none.0) (subst (λ xs. F [] xs) (sym none.1) refl)
with_last_fault rules limits records last (Some header) rows p =
    let on : ReadsRecords rules limits (records ++ []) last (record { header = Some header; rows = rows ++ []; fault = last }) = records_on rules limits records [] last header rows [] last p refl in
    let F : List (List (List ℕ)) → List RowView → Type 0 = λ rs xs. ReadsRecords rules limits rs last (record { header = Some header; rows = xs; fault = last }) in
    subst (λ rs. F rs rows) (append-nil records) (subst (λ xs. F (records ++ []) xs) (append-nil rows) on)

-- a header has been read of one record, and a row of each other
pub count_records : (rules : Rules) (limits : Limits) (records : List (List (List ℕ))) (header : HeaderView) (rows : List RowView) → ReadsRecords rules limits records None (record { header = Some header; rows = rows; fault = None }) → suc (length rows) ≡ length records
count_records rules limits [] header rows p = absurd (some_or_none header (ap (λ (r : Read). r.header) p))
count_records rules limits (fields ∷ records) header rows p = ap suc (count_rows rules limits header nothing_before records rows p.1)
