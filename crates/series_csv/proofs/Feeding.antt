-- What a reader answers to the bytes of a file.
use Rattle.std.proofs.Common.{◌≡◌, ℕ, List, [], ◌∷◌, ◌++◌, length, Option, Some, None, Result, Ok, Err, refl, sym, ap, ◌∙◌, subst}
use Rattle.std.proofs.lemmas.List.{append-nil}
use Rattle.record_cut.specs.Ended.{Ended, so_far, fault_at_byte}
use Rattle.record_cut.specs.Records.{Cut}
use Rattle.record_cut.specs.Feeds as Fed
use Rattle.record_cut.specs.declared.cutter.Cutter.{Cutter}
use Rattle.record_cut.specs.declared.fault.CutFault.{CutFault}
use Rattle.record_cut.specs.declared.fault.CutFault.TheVariants.{BadQuote, RecordTooLong, OpenQuote, Memory}
use Rattle.rule_file.specs.declared.rules.Rules.{Rules}
use Rattle.series_rows.specs.Faults.{fault_at}
use Rattle.series_rows.specs.declared.fault.TableCause.TheVariants.{Cut as CutOff}
use Rattle.series_rows.specs.declared.fault.TableFault.{TableFault}
use Rattle.series_rows.specs.declared.limits.Limits.{Limits}
use Rattle.series_csv.specs.Read.{Read, ReadsRecords}
use Rattle.series_csv.specs.File.{cut_fault, ReadsSoFar}
use Rattle.series_csv.specs.Feeds.{with_event, IsNew, refused_by, GoesOn, Adds, Fails, Feeds}
use Rattle.series_csv.specs.StandsFor.{StandsFor, stage_after}
use Rattle.series_csv.specs.Progress.{Reads, ReadsNext, Takes, number_of_next, uncut}
use Rattle.series_csv.specs.declared.event.Event.{Event}
use Rattle.series_csv.specs.declared.progress.Progress.{Progress}
use Rattle.series_csv.specs.declared.reader.RowReader.{RowReader}
use Rattle.series_csv.specs.declared.reader.Stage.{Stage}
use Rattle.series_csv.specs.declared.reader.Stage.TheVariants.{Open, Refused}
use Rattle.series_csv.specs.Stays.{FilesHaveOneAnswer}
use Rattle.series_csv.proofs.Reached.{read_so, rows_with_event, Has, next_event, next_refused, number_is, last_refused}

-- what the records of a cut are read as
abbrev pub ReadsCutSoFar : Rules → Limits → Ended → Read → Type 0
ReadsCutSoFar rules limits cut read = ReadsRecords rules limits cut.records (cut_fault cut.records cut.fault) read

-- the cut of the bytes so far
abbrev pub cut_of : Rules → List ℕ → Ended
cut_of rules bytes = so_far rules.format.separator bytes

pub with_no_fault : (rules : Rules) (limits : Limits) (cut : Ended) (read : Read) → cut.fault ≡ None → ReadsRecords rules limits cut.records None read → ReadsCutSoFar rules limits cut read
with_no_fault rules limits cut read none p = subst (λ f. ReadsRecords rules limits cut.records (cut_fault cut.records f) read) (sym none) p

-- what is read of the bytes is what the reader has
pub read_is : FilesHaveOneAnswer → (reader : RowReader) (rules : Rules) (limits : Limits) (bytes : List ℕ) (stands : StandsFor reader rules limits bytes) (read : Read) → ReadsSoFar rules limits bytes read → read_so reader.progress stands.rows ≡ read
read_is law reader rules limits bytes stands read p =
    (law rules limits bytes).so_far (read_so reader.progress stands.rows) read (with_no_fault rules limits (cut_of rules bytes) (read_so reader.progress stands.rows) stands.no_fault stands.read.reads) p

-- a change of a reader: it goes on with the same file, and is at this stage
pub record Advances {A : Type 0} (old new : RowReader) (answer : Result A TableFault) : Type 0 where
  pub rules_are : new.rules ≡ old.rules
  pub limits_are : new.limits ≡ old.limits
  pub stage_is : new.stage ≡ stage_after answer Open

-- the same cut, the same is read
pub same_cut : (rules : Rules) (limits : Limits) (bytes longer : List ℕ) → cut_of rules longer ≡ cut_of rules bytes → (read : Read) → ReadsSoFar rules limits bytes read → ReadsSoFar rules limits longer read
same_cut rules limits bytes longer same read p = subst (λ c. ReadsCutSoFar rules limits c read) (sym same) p

-- ---- nothing is added

none_added : (rules : Rules) (bytes piece : List ℕ) → (cut_of rules bytes).fault ≡ None → cut_of rules (bytes ++ piece) ≡ record { records = (cut_of rules bytes).records ++ []; fault = None } → cut_of rules (bytes ++ piece) ≡ cut_of rules bytes
none_added rules bytes piece none grown =
    let cut = cut_of rules bytes in
    let a : ◌≡◌ {A = Ended} (record { records = cut.records ++ []; fault = None }) (record { records = cut.records; fault = None }) = ap (λ rs. record { records = rs; fault = None }) (append-nil cut.records) in
    let b : ◌≡◌ {A = Ended} (record { records = cut.records; fault = None }) (record { records = cut.records; fault = cut.fault }) = ap (λ f. record { records = cut.records; fault = f }) (sym none) in
    grown ∙ (a ∙ b)

goes_on : (old new : RowReader) (rules : Rules) (limits : Limits) (bytes piece : List ℕ) → StandsFor old rules limits bytes → Fed.GoesOn rules.format.separator bytes piece [] new.cutter → new.progress ≡ old.progress → Advances {A = Option Event} old new (Ok None) → GoesOn rules limits bytes piece new
goes_on old new rules limits bytes piece stands fed same advances =
    let cut = none_added rules bytes piece stands.no_fault fed.grown in
    let has : Has rules limits (cut_of rules bytes).records new.progress stands.rows = subst (λ p. Has rules limits (cut_of rules bytes).records p stands.rows) (sym same) stands.read in
    record {
      stands = record {
        rules_are = ap (λ r. r.now) advances.rules_are ∙ stands.rules_are;
        limits_are = advances.limits_are ∙ stands.limits_are;
        is_open = advances.stage_is;
        cuts = fed.stands;
        no_fault = ap (λ (c : Ended). c.fault) fed.grown;
        rows = stands.rows;
        read = subst (λ (c : Ended). Has rules limits c.records new.progress stands.rows) (sym cut) has;
      };
      same = same_cut rules limits bytes (bytes ++ piece) cut;
    }

-- ---- a record is added

adds : FilesHaveOneAnswer → (old new : RowReader) (rules : Rules) (limits : Limits) (bytes piece : List ℕ) (fields : List (List ℕ)) (event : Event) → StandsFor old rules limits bytes → Fed.EndsRecord rules.format.separator bytes piece fields new.cutter → Reads rules limits old.progress fields (Ok event) new.progress → Advances old new (Ok (Some event)) → Adds rules limits bytes piece event new
adds law old new rules limits bytes piece fields event stands fed reads advances =
    let cut = cut_of rules bytes in
    let next = next_event rules limits cut.records fields old.progress stands.rows event stands.read reads.0 in
    let rows = rows_with_event stands.rows event in
    let has : Has rules limits (cut.records ++ fields ∷ []) new.progress rows = subst (λ p. Has rules limits (cut.records ++ fields ∷ []) p rows) (sym reads.1) next.has in
    let G : Read → Type 0 = λ r. IsNew r event × ReadsSoFar rules limits (bytes ++ piece) (with_event r event) in
    let here : G (read_so old.progress stands.rows) = (next.new, subst (λ c. ReadsCutSoFar rules limits c (with_event (read_so old.progress stands.rows) event)) (sym fed.goes_on.grown) next.reads) in
    record {
      stands = record {
        rules_are = ap (λ r. r.now) advances.rules_are ∙ stands.rules_are;
        limits_are = advances.limits_are ∙ stands.limits_are;
        is_open = advances.stage_is;
        cuts = fed.goes_on.stands;
        no_fault = ap (λ (c : Ended). c.fault) fed.goes_on.grown;
        rows = rows;
        read = subst (λ (c : Ended). Has rules limits c.records new.progress rows) (sym fed.goes_on.grown) has;
      };
      before_last = same_cut rules limits bytes (bytes ++ Fed.front_of piece) fed.none_before;
      at_last = λ read p. subst G (read_is law old rules limits bytes stands read p) here;
    }

-- ---- a refusal

refuses_record : FilesHaveOneAnswer → (old : RowReader) (cutter : Cutter) (rules : Rules) (limits : Limits) (bytes piece : List ℕ) (fields : List (List ℕ)) (fault : TableFault) → StandsFor old rules limits bytes → Fed.EndsRecord rules.format.separator bytes piece fields cutter → ReadsNext rules limits old.progress.header old.progress.before fields (Err fault) → Fails rules limits bytes piece fault
refuses_record law old cutter rules limits bytes piece fields fault stands fed reads =
    let cut = cut_of rules bytes in
    let G : Read → Type 0 = λ r. ReadsSoFar rules limits (bytes ++ piece) (refused_by r fault) in
    let refused = next_refused rules limits cut.records fields old.progress stands.rows None fault stands.read reads in
    let here : G (read_so old.progress stands.rows) = subst (λ c. ReadsCutSoFar rules limits c (refused_by (read_so old.progress stands.rows) fault)) (sym fed.goes_on.grown) refused in
    record {
      before_last = same_cut rules limits bytes (bytes ++ Fed.front_of piece) fed.none_before;
      at_last = λ read p. subst G (read_is law old rules limits bytes stands read p) here;
    }

fails_cut : (rules : Rules) (bytes piece : List ℕ) (fault : CutFault) → Fed.FailsAt rules.format.separator bytes piece fault → cut_of rules (bytes ++ piece) ≡ record { records = (cut_of rules bytes).records; fault = Some fault }
fails_cut rules bytes piece fault fed =
    let sep = rules.format.separator in
    sym (ap (λ b. so_far sep b) (append-nil (bytes ++ piece))) ∙ ap (λ (c : Cut). record { records = c.records; fault = fault_at_byte c.onward }) (fed.stands [])

refuses_cut : FilesHaveOneAnswer → (old : RowReader) (rules : Rules) (limits : Limits) (bytes piece : List ℕ) (fault : CutFault) → StandsFor old rules limits bytes → Fed.FailsAt rules.format.separator bytes piece fault → Fails rules limits bytes piece (fault_at (number_of_next old.progress.header old.progress.before) 0 (CutOff fault))
refuses_cut law old rules limits bytes piece fault stands fed =
    let cut = cut_of rules bytes in
    let refusal : ℕ → TableFault = λ n. fault_at n 0 (CutOff fault) in
    let G : ℕ → Read → Type 0 = λ n r. ReadsSoFar rules limits (bytes ++ piece) (refused_by r (refusal n)) in
    let refused = last_refused rules limits cut.records old.progress stands.rows (refusal (length cut.records)) stands.read in
    let at_length : G (length cut.records) (read_so old.progress stands.rows) = subst (λ c. ReadsCutSoFar rules limits c (refused_by (read_so old.progress stands.rows) (refusal (length cut.records)))) (sym (fails_cut rules bytes piece fault fed)) refused in
    let number = number_of_next old.progress.header old.progress.before in
    let here : G number (read_so old.progress stands.rows) = subst (λ n. G n (read_so old.progress stands.rows)) (sym (number_is rules limits cut.records old.progress stands.rows stands.read)) at_length in
    record {
      before_last = same_cut rules limits bytes (bytes ++ Fed.front_of piece) fed.none_before;
      at_last = λ read p. subst (λ r. G number r) (read_is law old rules limits bytes stands read p) here;
    }

-- ---- any answer

fed : FilesHaveOneAnswer → (old new : RowReader) (rules : Rules) (limits : Limits) (bytes piece : List ℕ) (cut : Result (Option (List (List ℕ))) CutFault) (answer : Result (Option Event) TableFault) → StandsFor old rules limits bytes → Fed.Feeds rules.format.separator bytes piece cut new.cutter → Takes rules limits old.progress cut answer new.progress → Advances old new answer → Feeds rules limits bytes piece answer new
fed law old new rules limits bytes piece (Ok None) answer stands f takes advances =
    let a = subst (λ x. Advances old new x) takes.0 advances in
    subst (λ x. Feeds rules limits bytes piece x new) (sym takes.0) (goes_on old new rules limits bytes piece stands f takes.1 a)
fed law old new rules limits bytes piece (Ok (Some fields)) (Ok None) stands f takes advances = absurd takes
fed law old new rules limits bytes piece (Ok (Some fields)) (Ok (Some event)) stands f takes advances =
    adds law old new rules limits bytes piece fields event stands f takes advances
fed law old new rules limits bytes piece (Ok (Some fields)) (Err fault) stands f takes advances =
    λ other. refuses_record law old new.cutter rules limits bytes piece fields fault stands f (takes other)
fed law old new rules limits bytes piece (Err BadQuote) answer stands f takes advances =
    subst (λ x. Feeds rules limits bytes piece x new) (sym takes) (λ other. refuses_cut law old rules limits bytes piece BadQuote stands f)
fed law old new rules limits bytes piece (Err RecordTooLong) answer stands f takes advances =
    subst (λ x. Feeds rules limits bytes piece x new) (sym takes) (λ other. refuses_cut law old rules limits bytes piece RecordTooLong stands f)
fed law old new rules limits bytes piece (Err OpenQuote) answer stands f takes advances = absurd f
fed law old new rules limits bytes piece (Err Memory) answer stands f takes advances =
    subst (λ x. Feeds rules limits bytes piece x new) (sym takes) (λ other. absurd (other refl))

-- by the reader's own rules and limits
pub fed_by : FilesHaveOneAnswer → (old new : RowReader) (rules : Rules) (limits : Limits) (bytes piece : List ℕ) (cut : Result (Option (List (List ℕ))) CutFault) (answer : Result (Option Event) TableFault) → StandsFor old rules limits bytes → Fed.Feeds rules.format.separator bytes piece cut new.cutter → Takes old.rules.now old.limits old.progress cut answer new.progress → Advances old new answer → Feeds rules limits bytes piece answer new
fed_by law old new rules limits bytes piece cut answer stands f takes advances =
    let by_rules = subst (λ (r : Rules). Takes r old.limits old.progress cut answer new.progress) stands.rules_are takes in
    let by_limits = subst (λ (l : Limits). Takes rules l old.progress cut answer new.progress) stands.limits_are by_rules in
    fed law old new rules limits bytes piece cut answer stands f by_limits advances

-- a reader that has refused stands for nothing
pub refused_stands : {A : Type 0} (reader : RowReader) (rules : Rules) (limits : Limits) (bytes : List ℕ) (fault : TableFault) → reader.stage ≡ Refused fault → StandsFor reader rules limits bytes → A
refused_stands reader rules limits bytes fault refused stands = let e : ◌≡◌ {A = Stage} Open (Refused fault) = sym stands.is_open ∙ refused in absurd cc

-- where nothing was answered, no record was cut off
pub took_all : (rules : Rules) (limits : Limits) (old new : Progress) (cut : Result (Option (List (List ℕ))) CutFault) (answer : Result (Option Event) TableFault) → answer ≡ Ok None → Takes rules limits old cut answer new → cut ≡ Ok None
took_all rules limits old new (Ok None) answer none takes = refl
took_all rules limits old new (Ok (Some fields)) (Ok None) none takes = absurd takes
took_all rules limits old new (Ok (Some fields)) (Ok (Some event)) none takes = absurd cc
took_all rules limits old new (Ok (Some fields)) (Err fault) none takes = absurd cc
took_all rules limits old new (Err fault) answer none takes = let e : ◌≡◌ {A = Result (Option Event) TableFault} (Ok None) (Err (uncut old fault)) = sym none ∙ takes in absurd cc
