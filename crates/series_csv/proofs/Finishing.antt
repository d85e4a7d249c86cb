-- What a reader answers to the end of a file.
use Rattle.std.proofs.Common.{◌≡◌, ◌≢◌, ℕ, List, [], ◌∷◌, ◌++◌, length, Option, Some, None, Result, Ok, Err, refl, sym, ap, subst}
use Rattle.std.proofs.lemmas.List.{append-nil}
use Rattle.record_cut.specs.Ended.{Ended, ended}
use Rattle.record_cut.specs.Feeds as Fed
use Rattle.record_cut.specs.declared.cutter.Cutter.{Cutter}
use Rattle.record_cut.specs.declared.fault.CutFault.{CutFault}
use Rattle.record_cut.specs.declared.fault.CutFault.TheVariants.{BadQuote, RecordTooLong, OpenQuote, Memory}
use Rattle.rule_file.specs.declared.rules.Rules.{Rules}
use Rattle.series_rows.specs.Faults.{fault_at, of_the_file, of_memory}
use Rattle.series_rows.specs.Header.{HeaderView}
use Rattle.series_rows.specs.Row.{RowView}
use Rattle.series_rows.specs.declared.fault.TableCause.TheVariants.{Cut as CutOff, NoHeader}
use Rattle.series_rows.specs.declared.fault.TableFault.{TableFault}
use Rattle.series_rows.specs.declared.limits.Limits.{Limits}
use Rattle.series_csv.specs.Read.{Read, ReadsRecords}
use Rattle.series_csv.specs.File.{end_fault, ReadsEnded}
use Rattle.series_csv.specs.Feeds.{with_event, IsNew, refused_by, Ends}
use Rattle.series_csv.specs.StandsFor.{StandsFor}
use Rattle.series_csv.specs.Progress.{TakesLast, number_of_next, without_more}
use Rattle.series_csv.specs.declared.event.Event.{Event}
use Rattle.series_csv.specs.declared.reader.RowReader.{RowReader}
use Rattle.series_csv.specs.Stays.{FilesHaveOneAnswer}
use Rattle.series_csv.proofs.Continuing.{some_or_none, nothing_read}
use Rattle.series_csv.proofs.Reached.{read_so, next_event, next_refused, number_is, last_refused}
use Rattle.series_csv.proofs.Feeding.{cut_of, read_is}

-- what the records of a file that has ended are read as
abbrev pub ReadsCutEnded : Rules → Limits → Ended → Read → Type 0
ReadsCutEnded rules limits cut read = ReadsRecords rules limits cut.records (end_fault cut.records cut.fault) read

-- the cut of a file that has ended
abbrev pub end_of : Rules → List ℕ → Ended
end_of rules bytes = ended rules.format.separator bytes

some_records : (records : List (List (List ℕ))) (fields : List (List ℕ)) → end_fault (records ++ fields ∷ []) None ≡ None
some_records [] fields = refl
some_records (first ∷ records) fields = refl

-- the end of the bytes, of which this was read, has this answer
abbrev EndsSo : Rules → Limits → List ℕ → Read → Result (Option Event) TableFault → Type 0
EndsSo rules limits bytes read (Ok None) = ReadsEnded rules limits bytes read
EndsSo rules limits bytes read (Ok (Some event)) = IsNew read event × ReadsEnded rules limits bytes (with_event read event)
EndsSo rules limits bytes read (Err fault) = fault ≢ of_memory → ReadsEnded rules limits bytes (refused_by read fault)

-- what is read of the bytes is what the reader has
ends_as : FilesHaveOneAnswer → (old : RowReader) (rules : Rules) (limits : Limits) (bytes : List ℕ) (answer : Result (Option Event) TableFault) → (stands : StandsFor old rules limits bytes) → EndsSo rules limits bytes (read_so old.progress stands.rows) answer → Ends rules limits bytes answer
ends_as law old rules limits bytes (Ok None) stands here = λ read p.
    subst (λ r. ReadsEnded rules limits bytes r) (read_is law old rules limits bytes stands read p) here
ends_as law old rules limits bytes (Ok (Some event)) stands here = λ read p.
    let G : Read → Type 0 = λ r. IsNew r event × ReadsEnded rules limits bytes (with_event r event) in
    subst G (read_is law old rules limits bytes stands read p) here
ends_as law old rules limits bytes (Err fault) stands here = λ other read p.
    subst (λ r. ReadsEnded rules limits bytes (refused_by r fault)) (read_is law old rules limits bytes stands read p) (here other)

-- ---- the end adds no record

no_header : (rules : Rules) (limits : Limits) (records : List (List (List ℕ))) (rows : List RowView) → ReadsRecords rules limits records None (record { header = None; rows = rows; fault = None }) → ReadsRecords rules limits (records ++ []) (end_fault (records ++ []) None) (record { header = None; rows = rows; fault = Some (of_the_file NoHeader) })
no_header rules limits records rows p =
    let none = nothing_read rules limits records rows p in
    let F : List (List (List ℕ)) → List RowView → Type 0 = λ rs xs. ReadsRecords rules limits (rs ++ []) (end_fault (rs ++ []) None) (record { header = None; rows = xs; fault = Some (of_the_file NoHeader) }) in
    subst (λ rs. F rs rows) (sym none.0) (subst (λ xs. F [] xs) (sym none.1) refl)

a_header : (rules : Rules) (limits : Limits) (records : List (List (List ℕ))) (header : HeaderView) (rows : List RowView) → ReadsRecords rules limits records None (record { header = Some header; rows = rows; fault = None }) → ReadsRecords rules limits (records ++ []) (end_fault (records ++ []) None) (record { header = Some header; rows = rows; fault = None })
a_header rules limits [] header rows p = absurd (some_or_none header (ap (λ (r : Read). r.header) p))
a_header rules limits (fields ∷ records) header rows p =
    subst (λ rs. ReadsRecords rules limits rs None (record { header = Some header; rows = rows; fault = None })) (sym (append-nil (fields ∷ records))) p

at_none : (rules : Rules) (limits : Limits) (bytes : List ℕ) (header : Option HeaderView) (rows : List RowView) → end_of rules bytes ≡ record { records = (cut_of rules bytes).records ++ []; fault = None } → ReadsRecords rules limits (cut_of rules bytes).records None (record { header = header; rows = rows; fault = None }) → EndsSo rules limits bytes (record { header = header; rows = rows; fault = None }) (without_more header)
at_none rules limits bytes None rows whole p = λ other.
    subst (λ c. ReadsCutEnded rules limits c (record { header = None; rows = rows; fault = Some (of_the_file NoHeader) })) (sym whole) (no_header rules limits (cut_of rules bytes).records rows p)
at_none rules limits bytes (Some header) rows whole p =
    subst (λ c. ReadsCutEnded rules limits c (record { header = Some header; rows = rows; fault = None })) (sym whole) (a_header rules limits (cut_of rules bytes).records header rows p)

-- ---- any answer

cut_at_end : (old : RowReader) (rules : Rules) (limits : Limits) (bytes : List ℕ) (fault : CutFault) (answer : Result (Option Event) TableFault) → (stands : StandsFor old rules limits bytes) → Fed.FailsAtEnd rules.format.separator bytes fault → answer ≡ Err (fault_at (number_of_next old.progress.header old.progress.before) 0 (CutOff fault)) → EndsSo rules limits bytes (read_so old.progress stands.rows) answer
cut_at_end old rules limits bytes fault answer stands f takes =
    let records = (cut_of rules bytes).records in
    let read = read_so old.progress stands.rows in
    let refusal : ℕ → TableFault = λ n. fault_at n 0 (CutOff fault) in
    let G : ℕ → Type 0 = λ n. ReadsEnded rules limits bytes (refused_by read (refusal n)) in
    let refused = last_refused rules limits records old.progress stands.rows (refusal (length records)) stands.read in
    let at_length : G (length records) = subst (λ c. ReadsCutEnded rules limits c (refused_by read (refusal (length records)))) (sym f.whole) refused in
    let number = number_of_next old.progress.header old.progress.before in
    let here : G number = subst G (sym (number_is rules limits records old.progress stands.rows stands.read)) at_length in
    subst (λ x. EndsSo rules limits bytes read x) (sym takes) (λ other. here)

ends_at : (old : RowReader) (rules : Rules) (limits : Limits) (bytes : List ℕ) (cutter : Cutter) (cut : Result (Option (List (List ℕ))) CutFault) (answer : Result (Option Event) TableFault) → (stands : StandsFor old rules limits bytes) → Fed.Ends rules.format.separator bytes cut cutter → TakesLast rules limits old.progress cut answer → EndsSo rules limits bytes (read_so old.progress stands.rows) answer
ends_at old rules limits bytes cutter (Ok None) answer stands f takes =
    subst (λ x. EndsSo rules limits bytes (read_so old.progress stands.rows) x) (sym takes) (at_none rules limits bytes old.progress.header stands.rows f.whole stands.read.reads)
ends_at old rules limits bytes cutter (Ok (Some fields)) (Ok None) stands f takes = absurd takes.1
ends_at old rules limits bytes cutter (Ok (Some fields)) (Ok (Some event)) stands f takes =
    let records = (cut_of rules bytes).records in
    let next = next_event rules limits records fields old.progress stands.rows event stands.read takes.1.0 in
    let last = subst (λ l. ReadsRecords rules limits (records ++ fields ∷ []) l (with_event (read_so old.progress stands.rows) event)) (sym (some_records records fields)) next.reads in
    (next.new, subst (λ c. ReadsCutEnded rules limits c (with_event (read_so old.progress stands.rows) event)) (sym f.whole) last)
ends_at old rules limits bytes cutter (Ok (Some fields)) (Err fault) stands f takes = λ other.
    let records = (cut_of rules bytes).records in
    subst (λ c. ReadsCutEnded rules limits c (refused_by (read_so old.progress stands.rows) fault)) (sym f.whole) (next_refused rules limits records fields old.progress stands.rows (end_fault (records ++ fields ∷ []) None) fault stands.read (takes.1 other))
ends_at old rules limits bytes cutter (Err BadQuote) answer stands f takes = cut_at_end old rules limits bytes BadQuote answer stands f takes
ends_at old rules limits bytes cutter (Err OpenQuote) answer stands f takes = cut_at_end old rules limits bytes OpenQuote answer stands f takes
ends_at old rules limits bytes cutter (Err RecordTooLong) answer stands f takes = absurd f
ends_at old rules limits bytes cutter (Err Memory) answer stands f takes =
    subst (λ x. EndsSo rules limits bytes (read_so old.progress stands.rows) x) (sym takes) (λ other. absurd (other refl))

-- by the reader's own rules and limits
pub ends_by : FilesHaveOneAnswer → (old : RowReader) (rules : Rules) (limits : Limits) (bytes : List ℕ) (cutter : Cutter) (cut : Result (Option (List (List ℕ))) CutFault) (answer : Result (Option Event) TableFault) → StandsFor old rules limits bytes → Fed.Ends rules.format.separator bytes cut cutter → TakesLast old.rules.now old.limits old.progress cut answer → Ends rules limits bytes answer
ends_by law old rules limits bytes cutter cut answer stands f takes =
    let by_rules = subst (λ (r : Rules). TakesLast r old.limits old.progress cut answer) stands.rules_are takes in
    let by_limits = subst (λ (l : Limits). TakesLast rules l old.progress cut answer) stands.limits_are by_rules in
    ends_as law old rules limits bytes answer stands (ends_at old rules limits bytes cutter cut answer stands f by_limits)
