-- What has been read, and the next record.
use Rattle.std.proofs.Common.{◌≡◌, ◌≢◌, ℕ, suc, List, [], ◌∷◌, ◌++◌, length, Option, Some, None, Result, Ok, Err, refl, sym, ap, ◌∙◌, subst, zero-add}
use Rattle.std.proofs.lemmas.List.{append-nil}
use Rattle.rule_file.specs.declared.rules.Rules.{Rules}
use Rattle.series_rows.specs.Before.{BeforeView, nothing_before, after_row}
use Rattle.series_rows.specs.Faults.{of_memory}
use Rattle.series_rows.specs.Header.{HeaderView, ReadsHeader}
use Rattle.series_rows.specs.ReadsRow.{ReadsRow}
use Rattle.series_rows.specs.Row.{RowView}
use Rattle.series_rows.specs.declared.fault.TableFault.{TableFault}
use Rattle.series_rows.specs.declared.limits.Limits.{Limits}
use Rattle.series_csv.specs.Read.{Read, ReadsRecords}
use Rattle.series_csv.specs.Feeds.{with_event, IsNew, refused_by}
use Rattle.series_csv.specs.StandsFor.{before_next, HasRead}
use Rattle.series_csv.specs.Progress.{after_event, Reads, ReadsNext, number_of_next}
use Rattle.series_csv.specs.declared.event.Event.{Event}
use Rattle.series_csv.specs.declared.event.Event.TheVariants.{Header, Row}
use Rattle.series_csv.specs.declared.progress.Progress.{Progress}
use Rattle.series_csv.proofs.Continuing.{records_on, nothing_read, with_last_fault, count_records, before_next-push, rows-before_next}

-- all that has been read, and nothing was refused
abbrev pub read_so : Progress → List RowView → Read
read_so progress rows = record { header = progress.header; rows = rows; fault = None }

abbrev pub rows_with_event : List RowView → Event → List RowView
rows_with_event rows (Header header) = rows
rows_with_event rows (Row row) = rows ++ row ∷ []

abbrev pub Has : Rules → Limits → List (List (List ℕ)) → Progress → List RowView → Type 0
Has rules limits records progress rows = HasRead rules limits records progress.header progress.before rows

-- one record more has been read
pub record HasNext (rules : Rules) (limits : Limits) (records : List (List (List ℕ))) (fields : List (List ℕ)) (progress : Progress) (rows : List RowView) (event : Event) : Type 0 where
  pub new : IsNew (read_so progress rows) event
  pub reads : ReadsRecords rules limits (records ++ fields ∷ []) None (with_event (read_so progress rows) event)
  pub has : Has rules limits (records ++ fields ∷ []) (after_event progress event) (rows_with_event rows event)

next_header : (rules : Rules) (limits : Limits) (records : List (List (List ℕ))) (fields : List (List ℕ)) (before : BeforeView) (rows : List RowView) (header : HeaderView) → HasRead rules limits records None before rows → ReadsHeader rules fields (Ok header) → ReadsRecords rules limits (records ++ fields ∷ []) None (record { header = Some header; rows = rows; fault = None })
next_header rules limits records fields before rows header has p =
    let none = nothing_read rules limits records rows has.reads in
    let F : List (List (List ℕ)) → List RowView → Type 0 = λ rs xs. ReadsRecords rules limits (rs ++ fields ∷ []) None (record { header = Some header; rows = xs; fault = None }) in
    subst (λ rs. F rs rows) (sym none.0) (subst (λ xs. F [] xs) (sym none.1) (p, refl))

next_row : (rules : Rules) (limits : Limits) (records : List (List (List ℕ))) (fields : List (List ℕ)) (header : HeaderView) (before : BeforeView) (rows : List RowView) (row : RowView) → HasRead rules limits records (Some header) before rows → ReadsRow rules header limits before fields (Ok row) → ReadsRecords rules limits (records ++ fields ∷ []) None (record { header = Some header; rows = rows ++ row ∷ []; fault = None })
next_row rules limits records fields header before rows row has p =
    let here : ReadsRow rules header limits (before_next nothing_before rows) fields (Ok row) = subst (λ b. ReadsRow rules header limits b fields (Ok row)) has.before_is p in
    records_on rules limits records (fields ∷ []) None header rows (row ∷ []) None has.reads (here, refl)

next_at : (rules : Rules) (limits : Limits) (records : List (List (List ℕ))) (fields : List (List ℕ)) (header : Option HeaderView) (before : BeforeView) (rows : List RowView) (event : Event) → HasRead rules limits records header before rows → ReadsNext rules limits header before fields (Ok event) → HasNext rules limits records fields (record { header = header; before = before }) rows event
next_at rules limits records fields None before rows (Header header) has p =
    let reads = next_header rules limits records fields before rows header has p in
    record {
      new = refl;
      reads = reads;
      has = record { reads = reads; before_is = has.before_is };
    }
next_at rules limits records fields None before rows (Row row) has p = absurd p
next_at rules limits records fields (Some header) before rows (Header other) has p = absurd p
next_at rules limits records fields (Some header) before rows (Row row) has p =
    let reads = next_row rules limits records fields header before rows row has p in
    record {
      new = tt;
      reads = reads;
      has = record {
        reads = reads;
        before_is = ap (λ b. after_row b row) has.before_is ∙ sym (before_next-push nothing_before rows row);
      };
    }

pub next_event : (rules : Rules) (limits : Limits) (records : List (List (List ℕ))) (fields : List (List ℕ)) (progress : Progress) (rows : List RowView) (event : Event) → Has rules limits records progress rows → ReadsNext rules limits progress.header progress.before fields (Ok event) → HasNext rules limits records fields progress rows event
next_event rules limits records fields progress rows event has p = next_at rules limits records fields progress.header progress.before rows event has p

-- the next record is refused
refused_at : (rules : Rules) (limits : Limits) (records : List (List (List ℕ))) (fields : List (List ℕ)) (header : Option HeaderView) (before : BeforeView) (rows : List RowView) (last : Option TableFault) (fault : TableFault) → HasRead rules limits records header before rows → ReadsNext rules limits header before fields (Err fault) → ReadsRecords rules limits (records ++ fields ∷ []) last (record { header = header; rows = rows; fault = Some fault })
refused_at rules limits records fields None before rows last fault has p =
    let none = nothing_read rules limits records rows has.reads in
    let F : List (List (List ℕ)) → Type 0 = λ rs. ReadsRecords rules limits (rs ++ fields ∷ []) last (record { header = None; rows = rows; fault = Some fault }) in
    subst F (sym none.0) (fault, p, none.1, refl)
refused_at rules limits records fields (Some header) before rows last fault has p =
    let here : ReadsRow rules header limits (before_next nothing_before rows) fields (Err fault) = subst (λ b. ReadsRow rules header limits b fields (Err fault)) has.before_is p in
    let on : ReadsRecords rules limits (records ++ fields ∷ []) last (record { header = Some header; rows = rows ++ []; fault = Some fault }) = records_on rules limits records (fields ∷ []) last header rows [] (Some fault) has.reads (fault, here, refl) in
    subst (λ xs. ReadsRecords rules limits (records ++ fields ∷ []) last (record { header = Some header; rows = xs; fault = Some fault })) (append-nil rows) on

pub next_refused : (rules : Rules) (limits : Limits) (records : List (List (List ℕ))) (fields : List (List ℕ)) (progress : Progress) (rows : List RowView) (last : Option TableFault) (fault : TableFault) → Has rules limits records progress rows → ReadsNext rules limits progress.header progress.before fields (Err fault) → ReadsRecords rules limits (records ++ fields ∷ []) last (refused_by (read_so progress rows) fault)
next_refused rules limits records fields progress rows last fault has p = refused_at rules limits records fields progress.header progress.before rows last fault has p

-- the first record is refused
pub first_refused : (rules : Rules) (limits : Limits) (old new : Progress) (fields : List (List ℕ)) (answer : Result Event TableFault) (fault : TableFault) → old.header ≡ None → answer ≡ Err fault → (fault ≢ of_memory → ReadsHeader rules fields (Err fault)) → Reads rules limits old fields answer new
first_refused rules limits old new fields answer fault none is refuses =
    subst (λ x. Reads rules limits old fields x new) (sym is) (λ other. subst (λ h. ReadsNext rules limits h old.before fields (Err fault)) (sym none) (refuses other))

-- the number of the next record is the number of those before it
number_at : (rules : Rules) (limits : Limits) (records : List (List (List ℕ))) (header : Option HeaderView) (before : BeforeView) (rows : List RowView) → HasRead rules limits records header before rows → number_of_next header before ≡ length records
number_at rules limits records None before rows has = sym (ap length (nothing_read rules limits records rows has.reads).0)
number_at rules limits records (Some header) before rows has =
    ap (λ (b : BeforeView). suc b.rows) has.before_is ∙ (ap suc (rows-before_next nothing_before rows ∙ zero-add (length rows)) ∙ count_records rules limits records header rows has.reads)

pub number_is : (rules : Rules) (limits : Limits) (records : List (List (List ℕ))) (progress : Progress) (rows : List RowView) → Has rules limits records progress rows → number_of_next progress.header progress.before ≡ length records
number_is rules limits records progress rows has = number_at rules limits records progress.header progress.before rows has

-- a fault that comes after all records
pub last_refused : (rules : Rules) (limits : Limits) (records : List (List (List ℕ))) (progress : Progress) (rows : List RowView) (fault : TableFault) → Has rules limits records progress rows → ReadsRecords rules limits records (Some fault) (refused_by (read_so progress rows) fault)
last_refused rules limits records progress rows fault has = with_last_fault rules limits records (Some fault) progress.header rows has.reads
