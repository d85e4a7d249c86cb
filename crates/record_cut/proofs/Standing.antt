-- What a cutter stands for after some bytes.
use Rattle.std.proofs.Common.{◌≡◌, ℕ, suc, ◌+◌, ◌-◌, ◌<◌, ◌≤◌, IsTrue, List, [], ◌∷◌, ◌++◌, length, None, Ok, Err, refl, sym, ap, ◌∙◌, subst, arith, append_assoc, length-append}
use Rattle.std.proofs.lemmas.List.{append-nil}
use Rattle.words.specs.Separators.{is_separator}
use Rattle.record_cut.specs.Drafted.{Drafted}
use Rattle.record_cut.specs.Record.{Whole, Bad}
use Rattle.record_cut.specs.Records.{Cut, Fault, Rest, with_records, only, by_record, records_from, records}
use Rattle.record_cut.specs.Ended.{Ended, fault_at_byte, so_far_of, so_far}
use Rattle.record_cut.specs.Resumed.{continued, resumed, Fits, FitsPlace}
use Rattle.record_cut.specs.Moves.{GoesTo, Moves, Opens}
use Rattle.record_cut.specs.StandsFor.{StandsFor, HasBegun}
use Rattle.record_cut.specs.Feeds.{GoesOn, EndsRecord, FailsAt, Feeds}
use Rattle.record_cut.specs.declared.fault.CutFault.{CutFault}
use Rattle.record_cut.specs.declared.fault.CutFault.TheVariants.{BadQuote, RecordTooLong, OpenQuote, Memory}
use Rattle.record_cut.specs.declared.phase.Place.{Place}
use Rattle.record_cut.specs.declared.phase.Phase.{Phase}
use Rattle.record_cut.specs.declared.phase.Phase.TheVariants.{Input, MarkOne, MarkTwo, Record, RecordCr, Inside, Refused}
use Rattle.record_cut.specs.declared.phase.Move.{Move}
use Rattle.record_cut.specs.declared.phase.Move.TheVariants.{To, EndRecord}
use Rattle.record_cut.specs.declared.phase.Opening.{Opening}
use Rattle.record_cut.specs.declared.phase.Opening.TheVariants.{Read, Keep, Skip}
use Rattle.record_cut.specs.declared.cutter.Cutter.{Cutter}
use Rattle.record_cut.proofs.Cuts.{with_records-twice, by_whole, by_bad, by_long, bytes-left}
use Rattle.record_cut.proofs.Endings.{quiet}

-- a record that is begun in this phase stands for these bytes
pub record Stands (sep : ℕ) (phase : Phase) (draft : Drafted) (count : ℕ) (bytes : List ℕ) : Type 0 where
  pub fits : Fits phase draft count
  pub short : count ≤ 65536
  pub follows : (more : List ℕ) → records sep (bytes ++ more) ≡ with_records (records sep bytes).records (resumed sep phase draft count (length (bytes ++ more)) more)

-- the piece adds these records, and then comes what the new phase makes of the rest
abbrev pub Resumes : ℕ → Phase → Drafted → ℕ → List ℕ → List (List (List ℕ)) → Phase → Drafted → ℕ → Type 0
Resumes sep phase draft count piece added next new size = (all : ℕ) (more : List ℕ) → resumed sep phase draft count all (piece ++ more) ≡ with_records added (resumed sep next new size all more)

-- by the grammar, these bytes all belong to the field, and the next one stands at this place
abbrev pub RunsTo : ℕ → Place → List ℕ → Place → Type 0
RunsTo sep place run next = (old new : Drafted) → FitsPlace place old → new.fields ≡ old.fields → new.field ≡ old.field ++ run → FitsPlace next new × ((more : List ℕ) → continued sep place old (run ++ more) ≡ continued sep next new more)

-- the fault stands at the byte that comes next
abbrev pub StopsAt : ℕ → Phase → Drafted → ℕ → ℕ → CutFault → Type 0
StopsAt sep phase draft count byte fault = (all : ℕ) (more : List ℕ) → resumed sep phase draft count all (byte ∷ more) ≡ only (Fault fault (all - length (byte ∷ more)))

-- the piece has been read, which added these records
pub record StandsOn (sep : ℕ) (bytes piece : List ℕ) (added : List (List (List ℕ))) (next : Phase) (new : Drafted) (size : ℕ) : Type 0 where
  pub stands : Stands sep next new size (bytes ++ piece)
  pub grown : so_far sep (bytes ++ piece) ≡ record { records = (so_far sep bytes).records ++ added; fault = None }

now-is : (sep : ℕ) (phase : Phase) (draft : Drafted) (count : ℕ) (next : Phase) (new : Drafted) (size : ℕ) (bytes piece more : List ℕ) (added : List (List (List ℕ))) → Stands sep phase draft count bytes → Resumes sep phase draft count piece added next new size → records sep (bytes ++ (piece ++ more)) ≡ with_records ((records sep bytes).records ++ added) (resumed sep next new size (length (bytes ++ (piece ++ more))) more)
now-is sep phase draft count next new size bytes piece more added stands step =
    stands.follows (piece ++ more) ∙ ap (with_records (records sep bytes).records) (step (length (bytes ++ (piece ++ more))) more) ∙ with_records-twice (records sep bytes).records added (resumed sep next new size (length (bytes ++ (piece ++ more))) more)

follows-on : (sep : ℕ) (phase : Phase) (draft : Drafted) (count : ℕ) (next : Phase) (new : Drafted) (size : ℕ) (bytes piece more : List ℕ) (added : List (List (List ℕ))) → Stands sep phase draft count bytes → Resumes sep phase draft count piece added next new size → (records sep (bytes ++ piece)).records ≡ (records sep bytes).records ++ added → records sep ((bytes ++ piece) ++ more) ≡ with_records (records sep (bytes ++ piece)).records (resumed sep next new size (length ((bytes ++ piece) ++ more)) more)
follows-on sep phase draft count next new size bytes piece more added stands step grown =
    let P : List ℕ → Type 0 = λ text. records sep text ≡ with_records (records sep (bytes ++ piece)).records (resumed sep next new size (length text) more) in
    subst P (sym (append_assoc bytes piece more)) (now-is sep phase draft count next new size bytes piece more added stands step ∙ ap (λ first. with_records first (resumed sep next new size (length (bytes ++ (piece ++ more))) more)) (sym grown))

pub stands-on : (sep : ℕ) (phase : Phase) (draft : Drafted) (count : ℕ) (next : Phase) (new : Drafted) (size : ℕ) (bytes piece : List ℕ) (added : List (List (List ℕ))) → IsTrue (is_separator sep) → Stands sep phase draft count bytes → Fits next new size → size ≤ 65536 → Resumes sep phase draft count piece added next new size → StandsOn sep bytes piece added next new size
stands-on sep phase draft count next new size bytes piece added is stands fits short step =
    let still = quiet sep size next new is short fits (length (bytes ++ (piece ++ []))) in
    let P : List ℕ → Type 0 = λ text. records sep (bytes ++ text) ≡ with_records ((records sep bytes).records ++ added) (only (Rest still.left)) in
    let here : records sep (bytes ++ piece) ≡ with_records ((records sep bytes).records ++ added) (only (Rest still.left)) = subst P (append-nil piece) (now-is sep phase draft count next new size bytes piece [] added stands step ∙ ap (with_records ((records sep bytes).records ++ added)) still.only_rest) in
    let all_records : (records sep (bytes ++ piece)).records ≡ (records sep bytes).records ++ added = ap (λ (c : Cut). c.records) here ∙ append-nil ((records sep bytes).records ++ added) in
    let after : List (List (List ℕ)) → Ended = λ first. record { records = first; fault = None } in
    record {
      stands = record { fits = fits; short = short; follows = λ more. follows-on sep phase draft count next new size bytes piece more added stands step all_records };
      grown = ap so_far_of here ∙ ap after (append-nil ((records sep bytes).records ++ added));
    }

-- the fault stands at the byte after these, whatever follows
pub stops-at : (sep : ℕ) (phase : Phase) (draft : Drafted) (count byte : ℕ) (bytes more : List ℕ) (fault : CutFault) → Stands sep phase draft count bytes → StopsAt sep phase draft count byte fault → records sep (bytes ++ byte ∷ more) ≡ record { records = (records sep bytes).records; onward = Fault fault (length bytes) }
stops-at sep phase draft count byte bytes more fault stands step =
    let at : length (bytes ++ byte ∷ more) - length (byte ∷ more) ≡ length bytes = omega (arith, length-append bytes (byte ∷ more)) in
    let cut : List (List (List ℕ)) → ℕ → Cut = λ first offset. record { records = first; onward = Fault fault offset } in
    stands.follows (byte ∷ more) ∙ ap (with_records (records sep bytes).records) (step (length (bytes ++ byte ∷ more)) more) ∙ ap (λ first. cut first (length (bytes ++ byte ∷ more) - length (byte ∷ more))) (append-nil (records sep bytes).records) ∙ ap (cut (records sep bytes).records) at

-- no fault stands at one of these bytes
pub no_fault : (sep : ℕ) (phase : Phase) (draft : Drafted) (count : ℕ) (bytes : List ℕ) → IsTrue (is_separator sep) → Stands sep phase draft count bytes → (so_far sep bytes).fault ≡ None
no_fault sep phase draft count bytes is stands =
    let still = quiet sep count phase draft is stands.short stands.fits (length (bytes ++ [])) in
    ap (λ text. (so_far sep text).fault) (sym (append-nil bytes)) ∙ ap (λ (c : Cut). fault_at_byte c.onward) (stands.follows []) ∙ ap (λ (c : Cut). fault_at_byte c.onward) still.only_rest

-- the same of a cutter

pub held : (cutter : Cutter) (sep : ℕ) (bytes : List ℕ) → StandsFor cutter sep bytes → Stands sep cutter.phase cutter.draft cutter.count bytes
held cutter sep bytes stands = record { fits = stands.fits; short = cutter.short; follows = stands.follows }

pub holds : (cutter : Cutter) (sep : ℕ) (bytes : List ℕ) → cutter.sep ≡ sep → Stands sep cutter.phase cutter.draft cutter.count bytes → StandsFor cutter sep bytes
holds cutter sep bytes same stands = record { separator = same; fits = stands.fits; follows = stands.follows }

pub same-sep : (old : Cutter) (sep : ℕ) (bytes : List ℕ) (P : ℕ → Type 0) → (StandsFor old old.sep bytes → P old.sep) → StandsFor old sep bytes → P sep
same-sep old sep bytes P at_own stands =
    let Q : ℕ → Type 0 = λ s. StandsFor old s bytes in
    subst P stands.separator (at_own (subst Q (sym stands.separator) stands))

pub stands-no_fault : (cutter : Cutter) (sep : ℕ) (bytes : List ℕ) → StandsFor cutter sep bytes → (so_far sep bytes).fault ≡ None
stands-no_fault cutter sep bytes = same-sep cutter sep bytes (λ s. (so_far s bytes).fault ≡ None) (λ stands. no_fault cutter.sep cutter.phase cutter.draft cutter.count bytes cutter.separates (held cutter cutter.sep bytes stands))

pub goes-on : (old new : Cutter) (bytes piece : List ℕ) (added : List (List (List ℕ))) → StandsFor old old.sep bytes → new.sep ≡ old.sep → Fits new.phase new.draft new.count → Resumes old.sep old.phase old.draft old.count piece added new.phase new.draft new.count → GoesOn old.sep bytes piece added new
goes-on old new bytes piece added stands same fits step =
    let on = stands-on old.sep old.phase old.draft old.count new.phase new.draft new.count bytes piece added old.separates (held old old.sep bytes stands) fits new.short step in
    record { stands = holds new old.sep (bytes ++ piece) same on.stands; grown = on.grown }

-- no byte has been read
pub nothing-fed : (old : Cutter) (sep : ℕ) (bytes : List ℕ) → StandsFor old sep bytes → GoesOn sep bytes [] [] old
nothing-fed old sep bytes = same-sep old sep bytes (λ s. GoesOn s bytes [] [] old) (λ stands. goes-on old old bytes [] [] stands refl stands.fits (λ all more. refl))

fails-at : (old : Cutter) (byte : ℕ) (bytes : List ℕ) (fault : CutFault) → StandsFor old old.sep bytes → StopsAt old.sep old.phase old.draft old.count byte fault → FailsAt old.sep bytes (byte ∷ []) fault
fails-at old byte bytes fault stands step =
    let at : length bytes ≡ length (bytes ++ byte ∷ []) - 1 = omega (arith, length-append bytes (byte ∷ [])) in
    let cut : ℕ → Cut = λ offset. record { records = (records old.sep bytes).records; onward = Fault fault offset } in
    record { none_before = ap (so_far old.sep) (append-nil bytes); stands = λ more. ap (records old.sep) (append_assoc bytes (byte ∷ []) more) ∙ stops-at old.sep old.phase old.draft old.count byte bytes more fault (held old old.sep bytes stands) step ∙ ap cut at }

-- each kind of byte

pub long-step : (sep byte count : ℕ) (phase : Phase) (draft : Drafted) → IsTrue (is_separator sep) → Fits phase draft count → count ≡ 65536 → StopsAt sep phase draft count byte RecordTooLong
long-step sep byte count Input draft is fits e all more = absurd (omega (arith, fits.size))
long-step sep byte count MarkOne draft is fits e all more = absurd (omega (arith, fits.size))
long-step sep byte count MarkTwo draft is fits e all more = absurd (omega (arith, fits.size))
long-step sep byte count Record draft is fits e all more = absurd (omega (arith, fits.size))
long-step sep byte count RecordCr draft is fits e all more = absurd (omega (arith, fits.size))
long-step sep byte count (Inside place) draft is fits e all more = by_long (records_from sep all) all (count + length (byte ∷ more)) (length (byte ∷ more)) (continued sep place draft (byte ∷ more)) (omega arith) (omega arith) (bytes-left sep byte place draft more is)
long-step sep byte count (Refused fault) draft is fits e all more = absurd fits

pub fed-long : (old : Cutter) (byte : ℕ) (bytes : List ℕ) → 65536 ≤ old.count → StandsFor old old.sep bytes → FailsAt old.sep bytes (byte ∷ []) RecordTooLong
fed-long old byte bytes h stands = fails-at old byte bytes RecordTooLong stands (long-step old.sep byte old.count old.phase old.draft old.separates stands.fits (omega (arith, old.short)))

-- the first bytes of a record say what the next is
abbrev pub OpensAs : Phase → ℕ → Opening → Type 0
OpensAs phase byte x = (sep : ℕ) (draft : Drafted) (count : ℕ) → IsTrue (is_separator sep) → Fits phase draft count → Opens sep phase draft count byte x

pub to-step : (sep byte count size : ℕ) (phase : Phase) (place next : Place) (draft new : Drafted) → Opens sep phase draft count byte (Read place) → GoesTo sep place draft byte next new → size ≡ count + 1 → Resumes sep phase draft count (byte ∷ []) [] (Inside next) new size
to-step sep byte count size phase place next draft new opens goes e all more =
    let long : count + length (byte ∷ more) ≡ size + length more = omega arith in
    opens.1 all more ∙ ap (by_record (records_from sep all) all (count + length (byte ∷ more))) (goes.same more) ∙ ap (λ n. by_record (records_from sep all) all n (continued sep next new more)) long

pub fed-to : (old new : Cutter) (byte : ℕ) (bytes : List ℕ) (place next : Place) (move : Move) → OpensAs old.phase byte (Read place) → (FitsPlace place old.draft → Moves old.sep place old.draft byte (Ok move) new.draft) → move ≡ To next → new.sep ≡ old.sep → new.phase ≡ Inside next → new.count ≡ old.count + 1 → StandsFor old old.sep bytes → GoesOn old.sep bytes (byte ∷ []) [] new
fed-to old new byte bytes place next move tells moves is same phase size stands =
    let opens : Opens old.sep old.phase old.draft old.count byte (Read place) = tells old.sep old.draft old.count old.separates stands.fits in
    let P : Move → Type 0 = λ m. Moves old.sep place old.draft byte (Ok m) new.draft in
    let goes : GoesTo old.sep place old.draft byte next new.draft = subst P is (moves opens.0) in
    let F : Phase → Type 0 = λ p. Fits p new.draft new.count in
    let R : Phase → Type 0 = λ p. Resumes old.sep old.phase old.draft old.count (byte ∷ []) [] p new.draft new.count in
    goes-on old new bytes (byte ∷ []) [] stands same (subst F (sym phase) goes.fits) (subst R (sym phase) (to-step old.sep byte old.count new.count old.phase place next old.draft new.draft opens goes size))

pub run-step : (sep all count size : ℕ) (place next : Place) (draft new : Drafted) (run more : List ℕ) → continued sep place draft (run ++ more) ≡ continued sep next new more → size ≡ count + length run → resumed sep (Inside place) draft count all (run ++ more) ≡ resumed sep (Inside next) new size all more
run-step sep all count size place next draft new run more goes e =
    let long : count + length (run ++ more) ≡ size + length more = omega (arith, length-append run more) in
    ap (by_record (records_from sep all) all (count + length (run ++ more))) goes ∙ ap (λ n. by_record (records_from sep all) all n (continued sep next new more)) long

-- a run of bytes that all belong to the field
pub fed-run : (old new : Cutter) (run bytes : List ℕ) (place next : Place) → old.phase ≡ Inside place → RunsTo old.sep place run next → new.draft.fields ≡ old.draft.fields → new.draft.field ≡ old.draft.field ++ run → new.sep ≡ old.sep → new.phase ≡ Inside next → new.count ≡ old.count + length run → StandsFor old old.sep bytes → GoesOn old.sep bytes run [] new
fed-run old new run bytes place next at runs e f same phase size stands =
    let F : Phase → Type 0 = λ p. Fits p old.draft old.count in
    let fits : FitsPlace place old.draft = subst F at stands.fits in
    let passes = runs old.draft new.draft fits e f in
    let G : Phase → Type 0 = λ p. Fits p new.draft new.count in
    let R : Phase → Type 0 = λ p. Resumes old.sep p old.draft old.count run [] new.phase new.draft new.count in
    let S : Phase → Type 0 = λ p. Resumes old.sep (Inside place) old.draft old.count run [] p new.draft new.count in
    let step : Resumes old.sep (Inside place) old.draft old.count run [] (Inside next) new.draft new.count = λ all more. run-step old.sep all old.count new.count place next old.draft new.draft run more (passes.1 more) size in
    goes-on old new bytes run [] stands same (subst G (sym phase) passes.0) (subst R (sym at) (subst S (sym phase) step))

-- the next record begins

begun-resumes : (sep all size : ℕ) (phase : Phase) (draft : Drafted) (more : List ℕ) → phase ≡ Record → draft.field ≡ [] → records_from sep all more ≡ resumed sep phase draft size all more
begun-resumes sep all size phase draft more e f = ap (λ field. records_from sep all (field ++ more)) (sym f) ∙ ap (λ p. resumed sep p draft size all more) (sym e)

begun-fits : (new : Cutter) → HasBegun Record new → Fits new.phase new.draft new.count
begun-fits new begun =
    let F : Phase → Type 0 = λ p. Fits p new.draft new.count in
    subst F (sym begun.phase) begun.only

pub end-step : (sep byte count size : ℕ) (phase next : Phase) (place : Place) (draft mid new : Drafted) → Opens sep phase draft count byte (Read place) → ((more : List ℕ) → continued sep place draft (byte ∷ more) ≡ Whole (mid.fields ++ mid.field ∷ []) more) → count < 65536 → next ≡ Record → new.field ≡ [] → Resumes sep phase draft count (byte ∷ []) ((mid.fields ++ mid.field ∷ []) ∷ []) next new size
end-step sep byte count size phase next place draft mid new opens ended short e f all more =
    opens.1 all more ∙ ap (by_record (records_from sep all) all (count + length (byte ∷ more))) (ended more) ∙ by_whole (records_from sep all) all count byte more (mid.fields ++ mid.field ∷ []) short ∙ ap (with_records ((mid.fields ++ mid.field ∷ []) ∷ [])) (begun-resumes sep all size next new more e f)

pub fed-end : (old new : Cutter) (byte : ℕ) (bytes : List ℕ) (place : Place) (move : Move) (draft : Drafted) (fields : List (List ℕ)) → OpensAs old.phase byte (Read place) → (FitsPlace place old.draft → Moves old.sep place old.draft byte (Ok move) draft) → move ≡ EndRecord → fields ≡ draft.fields ++ (draft.field ++ []) ∷ [] → old.count < 65536 → new.sep ≡ old.sep → HasBegun Record new → StandsFor old old.sep bytes → EndsRecord old.sep bytes (byte ∷ []) fields new
fed-end old new byte bytes place move draft fields tells moves is e short same begun stands =
    let opens : Opens old.sep old.phase old.draft old.count byte (Read place) = tells old.sep old.draft old.count old.separates stands.fits in
    let P : Move → Type 0 = λ m. Moves old.sep place old.draft byte (Ok m) draft in
    let ended : Moves old.sep place old.draft byte (Ok EndRecord) draft = subst P is (moves opens.0) in
    let same_fields : draft.fields ++ draft.field ∷ [] ≡ fields = sym (e ∙ ap (λ field. draft.fields ++ field ∷ []) (append-nil draft.field)) in
    let R : List (List ℕ) → Type 0 = λ all_fields. Resumes old.sep old.phase old.draft old.count (byte ∷ []) (all_fields ∷ []) new.phase new.draft new.count in
    let step : Resumes old.sep old.phase old.draft old.count (byte ∷ []) (fields ∷ []) new.phase new.draft new.count = subst R same_fields (end-step old.sep byte old.count new.count old.phase new.phase place old.draft draft new.draft opens ended short begun.phase begun.only.field) in
    record {
      goes_on = goes-on old new bytes (byte ∷ []) (fields ∷ []) stands same (begun-fits new begun) step;
      none_before = ap (so_far old.sep) (append-nil bytes);
    }

pub skip-step : (sep byte count size : ℕ) (phase next : Phase) (draft new : Drafted) → Opens sep phase draft count byte Skip → next ≡ Record → new.field ≡ [] → Resumes sep phase draft count (byte ∷ []) [] next new size
skip-step sep byte count size phase next draft new opens e f all more = opens all more ∙ begun-resumes sep all size next new more e f

pub fed-skip : (old new : Cutter) (byte : ℕ) (bytes : List ℕ) → OpensAs old.phase byte Skip → new.sep ≡ old.sep → HasBegun Record new → StandsFor old old.sep bytes → GoesOn old.sep bytes (byte ∷ []) [] new
fed-skip old new byte bytes tells same begun stands =
    let opens : Opens old.sep old.phase old.draft old.count byte Skip = tells old.sep old.draft old.count old.separates stands.fits in
    goes-on old new bytes (byte ∷ []) [] stands same (begun-fits new begun) (skip-step old.sep byte old.count new.count old.phase new.phase old.draft new.draft opens begun.phase begun.only.field)

pub fed-keep : (old new : Cutter) (byte : ℕ) (bytes : List ℕ) (next : Phase) → OpensAs old.phase byte (Keep next) → new.draft.fields ≡ old.draft.fields → new.draft.field ≡ old.draft.field ++ byte ∷ [] → new.sep ≡ old.sep → new.phase ≡ next → new.count ≡ suc old.count → StandsFor old old.sep bytes → GoesOn old.sep bytes (byte ∷ []) [] new
fed-keep old new byte bytes next tells e f same phase size stands =
    let opens : Opens old.sep old.phase old.draft old.count byte (Keep next) = tells old.sep old.draft old.count old.separates stands.fits in
    let kept = opens new.draft new.count e f size in
    let F : Phase → Type 0 = λ p. Fits p new.draft new.count in
    let R : Phase → Type 0 = λ p. Resumes old.sep old.phase old.draft old.count (byte ∷ []) [] p new.draft new.count in
    goes-on old new bytes (byte ∷ []) [] stands same (subst F (sym phase) kept.0) (subst R (sym phase) kept.1)

pub bad-step : (sep byte count : ℕ) (phase : Phase) (place : Place) (draft : Drafted) → count < 65536 → Opens sep phase draft count byte (Read place) → ((more : List ℕ) → continued sep place draft (byte ∷ more) ≡ Bad (byte ∷ more)) → StopsAt sep phase draft count byte BadQuote
bad-step sep byte count phase place draft short opens bad all more = opens.1 all more ∙ ap (by_record (records_from sep all) all (count + length (byte ∷ more))) (bad more) ∙ by_bad (records_from sep all) all count byte more short

fed-err-if : (old new : Cutter) (byte : ℕ) (bytes : List ℕ) (place : Place) (draft : Drafted) (fault : CutFault) → Opens old.sep old.phase old.draft old.count byte (Read place) → Moves old.sep place old.draft byte (Err fault) draft → old.count < 65536 → StandsFor old old.sep bytes → Feeds old.sep bytes (byte ∷ []) (Err fault) new
fed-err-if old new byte bytes place draft BadQuote opens moves short stands = fails-at old byte bytes BadQuote stands (bad-step old.sep byte old.count old.phase place old.draft short opens moves)
fed-err-if old new byte bytes place draft RecordTooLong opens moves short stands = absurd moves
fed-err-if old new byte bytes place draft OpenQuote opens moves short stands = absurd moves
fed-err-if old new byte bytes place draft Memory opens moves short stands = tt

pub fed-err : (old new : Cutter) (byte : ℕ) (bytes : List ℕ) (place : Place) (draft : Drafted) (fault : CutFault) → OpensAs old.phase byte (Read place) → (FitsPlace place old.draft → Moves old.sep place old.draft byte (Err fault) draft) → old.count < 65536 → StandsFor old old.sep bytes → Feeds old.sep bytes (byte ∷ []) (Err fault) new
fed-err old new byte bytes place draft fault tells moves short stands =
    let opens : Opens old.sep old.phase old.draft old.count byte (Read place) = tells old.sep old.draft old.count old.separates stands.fits in
    fed-err-if old new byte bytes place draft fault opens (moves opens.0) short stands

pub fed-memory : (sep : ℕ) (bytes piece : List ℕ) (fault : CutFault) (new : Cutter) → fault ≡ Memory → Feeds sep bytes piece (Err fault) new
fed-memory sep bytes piece fault new e =
    let P : CutFault → Type 0 = λ f. Feeds sep bytes piece (Err f) new in
    subst P (sym e) tt
