-- What a cutter answers at the end of the text.
use Rattle.std.proofs.Common.{◌≡◌, ℕ, ◌≤◌, IsTrue, List, [], ◌∷◌, ◌++◌, length, Option, None, Some, Err, refl, sym, ap, ◌∙◌, subst, arith}
use Rattle.std.proofs.lemmas.List.{append-nil}
use Rattle.words.specs.Separators.{is_separator}
use Rattle.record_cut.specs.Drafted.{Drafted}
use Rattle.record_cut.specs.Record.{Unended, Nothing as NoRecord, Fields, OpenField, CrAfterQuote}
use Rattle.record_cut.specs.Records.{Onward, Cut, Rest, with_records, only, text_from, records}
use Rattle.record_cut.specs.Resumed.{resumed, HasOnly, Fits}
use Rattle.record_cut.specs.Moves.{Leaves}
use Rattle.record_cut.specs.Ended.{Ended, last_record, fault_at_byte, fault_at_all}
use Rattle.record_cut.specs.StandsFor.{StandsFor, HasBegun}
use Rattle.record_cut.specs.Feeds.{Finishes, FailsAtEnd, Ends}
use Rattle.record_cut.specs.declared.fault.CutFault.{CutFault}
use Rattle.record_cut.specs.declared.fault.CutFault.TheVariants.{BadQuote, RecordTooLong, OpenQuote, Memory}
use Rattle.record_cut.specs.declared.phase.Phase.{Phase}
use Rattle.record_cut.specs.declared.phase.Phase.TheVariants.{Input}
use Rattle.record_cut.specs.declared.phase.Ending.{Ending}
use Rattle.record_cut.specs.declared.phase.Ending.TheVariants.{Nothing, Field, FieldAndCr, Refuse}
use Rattle.record_cut.specs.declared.cutter.Cutter.{Cutter}
use Rattle.record_cut.proofs.Endings.{nothing-left}
use Rattle.record_cut.proofs.Standing.{Stands, holds}

records-all : (sep : ℕ) (bytes : List ℕ) → records sep bytes ≡ text_from sep (length bytes) bytes
unfolding records
records-all sep bytes = refl

none-yet : (sep : ℕ) → (records sep []).records ≡ []
none-yet sep = ap (λ (c : Cut). c.records) (records-all sep [] ∙ nothing-left sep 0)

begun-input : (sep all : ℕ) (phase : Phase) (draft : Drafted) (count : ℕ) (more : List ℕ) → phase ≡ Input → draft.field ≡ [] → text_from sep all more ≡ resumed sep phase draft count all more
begun-input sep all phase draft count more e f = ap (λ field. text_from sep all (field ++ more)) (sym f) ∙ ap (λ p. resumed sep p draft count all more) (sym e)

pub begun-stands : (sep : ℕ) (phase : Phase) (draft : Drafted) (count : ℕ) → phase ≡ Input → HasOnly [] draft count → Stands sep phase draft count []
begun-stands sep phase draft count e only =
    let F : Phase → Type 0 = λ p. Fits p draft count in
    record {
      fits = subst F (sym e) only;
      short = omega (arith, only.size);
      follows = λ more. records-all sep more ∙ begun-input sep (length more) phase draft count more e only.field ∙ ap (λ first. with_records first (resumed sep phase draft count (length more) more)) (sym (none-yet sep));
    }

pub fresh : (new : Cutter) (sep : ℕ) → new.sep ≡ sep → HasBegun Input new → StandsFor new sep []
fresh new sep same begun = holds new sep [] same (begun-stands sep new.phase new.draft new.count begun.phase begun.only)

pub left-is : (old : Cutter) (bytes : List ℕ) (left : Unended) → StandsFor old old.sep bytes → ((all : ℕ) → resumed old.sep old.phase old.draft old.count all [] ≡ only (Rest left)) → (records old.sep bytes).onward ≡ Rest left
left-is old bytes left stands leaves =
    ap (λ b. (records old.sep b).onward) (sym (append-nil bytes)) ∙ ap (λ (c : Cut). c.onward) (stands.follows []) ∙ ap (λ (c : Cut). c.onward) (leaves (length (bytes ++ [])))

-- what has ended, by how the text goes on
abbrev pub ended_by : List (List (List ℕ)) → Onward → Ended
ended_by first onward = record { records = first ++ last_record onward; fault = fault_at_all onward }

finishes : (sep : ℕ) (bytes : List ℕ) (left : Unended) (last : List (List (List ℕ))) (new : Cutter) → (records sep bytes).onward ≡ Rest left → last_record (Rest left) ≡ last → fault_at_all (Rest left) ≡ None → StandsFor new sep [] → Finishes sep bytes last new
finishes sep bytes left last new e f g stands =
    let first : List (List (List ℕ)) = (records sep bytes).records in
    let whole : List (List (List ℕ)) → Option CutFault → Ended = λ more fault. record { records = first ++ more; fault = fault } in
    record {
      no_fault = ap fault_at_byte e;
      whole = ap (ended_by first) e ∙ ap (λ more. whole more (fault_at_all (Rest left))) f ∙ ap (whole last) g;
      stands = stands;
    }

fails-at-end : (sep : ℕ) (bytes : List ℕ) (left : Unended) (fault : CutFault) → (records sep bytes).onward ≡ Rest left → last_record (Rest left) ≡ [] → fault_at_all (Rest left) ≡ Some fault → FailsAtEnd sep bytes fault
fails-at-end sep bytes left fault e f g =
    let first : List (List (List ℕ)) = (records sep bytes).records in
    let whole : List (List (List ℕ)) → Option CutFault → Ended = λ all found. record { records = all; fault = found } in
    record {
      no_fault = ap fault_at_byte e;
      whole = ap (ended_by first) e ∙ ap (λ more. whole (first ++ more) (fault_at_all (Rest left))) f ∙ ap (λ all. whole all (fault_at_all (Rest left))) (append-nil first) ∙ ap (whole first) g;
    }

abbrev pub TellsEnd : Phase → Ending → Type 0
TellsEnd phase x = (sep : ℕ) (draft : Drafted) (count : ℕ) → IsTrue (is_separator sep) → count ≤ 65536 → Fits phase draft count → Leaves sep phase draft count x

pub ended-nothing : (old new : Cutter) (bytes : List ℕ) → TellsEnd old.phase Nothing → new.sep ≡ old.sep → HasBegun Input new → StandsFor old old.sep bytes → Finishes old.sep bytes [] new
ended-nothing old new bytes tells same begun stands = finishes old.sep bytes NoRecord [] new (left-is old bytes NoRecord stands (tells old.sep old.draft old.count old.separates old.short stands.fits)) refl refl (fresh new old.sep same begun)

pub ended-field : (old new : Cutter) (bytes : List ℕ) (fields : List (List ℕ)) → TellsEnd old.phase Field → fields ≡ old.draft.fields ++ (old.draft.field ++ []) ∷ [] → new.sep ≡ old.sep → HasBegun Input new → StandsFor old old.sep bytes → Finishes old.sep bytes (fields ∷ []) new
ended-field old new bytes fields tells e same begun stands =
    let same_fields : old.draft.fields ++ old.draft.field ∷ [] ≡ fields = sym (e ∙ ap (λ field. old.draft.fields ++ field ∷ []) (append-nil old.draft.field)) in
    finishes old.sep bytes (Fields fields) (fields ∷ []) new (left-is old bytes (Fields (old.draft.fields ++ old.draft.field ∷ [])) stands (tells old.sep old.draft old.count old.separates old.short stands.fits) ∙ ap (λ f. Rest (Fields f)) same_fields) refl refl (fresh new old.sep same begun)

pub ended-cr : (old new : Cutter) (bytes : List ℕ) (fields : List (List ℕ)) → TellsEnd old.phase FieldAndCr → fields ≡ old.draft.fields ++ (old.draft.field ++ 13 ∷ []) ∷ [] → new.sep ≡ old.sep → HasBegun Input new → StandsFor old old.sep bytes → Finishes old.sep bytes (fields ∷ []) new
ended-cr old new bytes fields tells e same begun stands =
    finishes old.sep bytes (Fields fields) (fields ∷ []) new (left-is old bytes (Fields (old.draft.fields ++ (old.draft.field ++ 13 ∷ []) ∷ [])) stands (tells old.sep old.draft old.count old.separates old.short stands.fits) ∙ ap (λ f. Rest (Fields f)) (sym e)) refl refl (fresh new old.sep same begun)

pub ended-refused : (old new : Cutter) (bytes : List ℕ) (fault : CutFault) → TellsEnd old.phase (Refuse fault) → StandsFor old old.sep bytes → Ends old.sep bytes (Err fault) new
ended-refused old new bytes BadQuote tells stands = fails-at-end old.sep bytes CrAfterQuote BadQuote (left-is old bytes CrAfterQuote stands (tells old.sep old.draft old.count old.separates old.short stands.fits)) refl refl
ended-refused old new bytes OpenQuote tells stands = fails-at-end old.sep bytes OpenField OpenQuote (left-is old bytes OpenField stands (tells old.sep old.draft old.count old.separates old.short stands.fits)) refl refl
ended-refused old new bytes RecordTooLong tells stands = absurd (tells old.sep old.draft old.count old.separates old.short stands.fits)
ended-refused old new bytes Memory tells stands = absurd (tells old.sep old.draft old.count old.separates old.short stands.fits)
