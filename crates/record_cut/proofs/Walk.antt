-- Each text is one that may go on, or has a fault at a byte that holds whatever follows.
use Rattle.std.proofs.Common.{◌≡◌, inl, inr, ℕ, suc, ◌+◌, ◌<◌, ◌≤◌, IsTrue, List, [], ◌∷◌, ◌++◌, length, Some, None, Ok, refl, sym, ap, ◌∙◌, subst, arith, append_assoc, length-append, add-one}
use Rattle.std.proofs.lemmas.List.{append-nil}
use Rattle.std.proofs.lemmas.Bool.{cases_lt}
use Rattle.std.proofs.lemmas.Bool.Decides.{eqb_tells}
use Rattle.words.specs.Separators.{is_separator}
use Rattle.record_cut.specs.Drafted.{Drafted}
use Rattle.record_cut.specs.Record.{Whole, Bad}
use Rattle.record_cut.specs.Records.{Cut, Fault, records_from, text_from, records}
use Rattle.record_cut.specs.Ended.{Ended, so_far_of, ended_of, so_far, Stays, FaultsStay, RecordsStay}
use Rattle.record_cut.specs.Resumed.{continued, resumed, HasOnly, Fits, FitsPlace}
use Rattle.record_cut.specs.Moves.{GoesTo, Opens}
use Rattle.record_cut.specs.declared.fault.CutFault.{CutFault}
use Rattle.record_cut.specs.declared.fault.CutFault.TheVariants.{BadQuote, RecordTooLong}
use Rattle.record_cut.specs.declared.phase.Place.{Place}
use Rattle.record_cut.specs.declared.phase.Place.TheVariants.{Field, Plain, PlainCr, Quoted, QuoteInQuoted, ClosedCr}
use Rattle.record_cut.specs.declared.phase.Phase.{Phase}
use Rattle.record_cut.specs.declared.phase.Phase.TheVariants.{Input, MarkOne, MarkTwo, Record, RecordCr, Inside, Refused}
use Rattle.record_cut.specs.declared.phase.Move.TheVariants.{To}
use Rattle.record_cut.specs.declared.phase.Opening.{Opening}
use Rattle.record_cut.specs.declared.phase.Opening.TheVariants.{Read, Keep, Skip, Refuse}
use Rattle.record_cut.proofs.Steps.{field-opens, field-plain, plain-at_sep, plain-at_quote, plain-at_line_feed, plain-at_other, plain_cr-at_line_feed, plain_cr-goes, quoted-at_other, quote-at_sep, quote-at_quote, quote-at_line_feed, quote-at_cr, quote-at_other, closed_cr-at_line_feed, closed_cr-at_other}
use Rattle.record_cut.proofs.Openings.{record-at_line_feed, record-at_other, record_cr-at_line_feed, record_cr-at_other, mark_one-at_other, mark_two-at_other, mark_two-at_last, input-opens}
use Rattle.record_cut.proofs.Standing.{Stands, Resumes, StopsAt, stands-on, stops-at, no_fault, long-step, to-step, end-step, skip-step, bad-step}
use Rattle.record_cut.proofs.Finishing.{begun-stands}

-- what a byte of a record leads to
data Moved (sep : ℕ) (place : Place) (draft : Drafted) (byte : ℕ) : Type 0 where
  Goes : (next : Place) (new : Drafted) → GoesTo sep place draft byte next new → Moved sep place draft byte
  Closes : (new : Drafted) → ((more : List ℕ) → continued sep place draft (byte ∷ more) ≡ Whole (new.fields ++ new.field ∷ []) more) → Moved sep place draft byte
  Stops : ((more : List ℕ) → continued sep place draft (byte ∷ more) ≡ Bad (byte ∷ more)) → Moved sep place draft byte

kept_with : Drafted → ℕ → Drafted
kept_with draft byte = record { fields = draft.fields; field = draft.field ++ byte ∷ [] }

ended_with : Drafted → Drafted
ended_with draft = record { fields = draft.fields ++ draft.field ∷ []; field = [] }

moved-plain : (sep byte : ℕ) (draft : Drafted) → IsTrue (is_separator sep) → Moved sep Plain draft byte
unfolding kept_with ended_with
moved-plain sep byte draft is =
    elim (eqb_tells byte sep) [
      | inl a ↦ Goes Field (ended_with draft) (plain-at_sep sep byte draft (ended_with draft) (Ok (To Field)) a.1 (refl, refl, refl))
      | inr a ↦ elim (eqb_tells byte 34) [
        | inl b ↦ Stops (λ more. rw b.1 (plain-at_quote sep draft is more))
        | inr b ↦ elim (eqb_tells byte 10) [
          | inl d ↦ Closes draft (λ more. rw d.1 (plain-at_line_feed sep draft is more))
          | inr d ↦ elim (eqb_tells byte 13) [
            | inl e ↦ Goes PlainCr draft (record { fits = tt; same = λ more. rw e.1 refl })
            | inr e ↦ Goes Plain (kept_with draft byte) (plain-at_other sep byte draft (kept_with draft byte) (Ok (To Plain)) a.1 b.1 d.1 e.1 (refl, refl, refl))
          ]
        ]
      ]
    ]

-- the same from a place at which the byte does the same
moved-from : (sep : ℕ) (place other : Place) (draft kept : Drafted) (byte : ℕ) → ((more : List ℕ) → continued sep place draft (byte ∷ more) ≡ continued sep other kept (byte ∷ more)) → Moved sep other kept byte → Moved sep place draft byte
moved-from sep place other draft kept byte same (Goes next new goes) = Goes next new (record { fits = goes.fits; same = λ more. same more ∙ goes.same more })
moved-from sep place other draft kept byte same (Closes new closes) = Closes new (λ more. same more ∙ closes more)
moved-from sep place other draft kept byte same (Stops stops) = Stops (λ more. same more ∙ stops more)

moved-field : (sep byte : ℕ) (draft : Drafted) → IsTrue (is_separator sep) → draft.field ≡ [] → Moved sep Field draft byte
moved-field sep byte draft is fits =
    elim (eqb_tells byte 34) [
      | inl a ↦ Goes Quoted draft (record { fits = tt; same = λ more. rw a.1 (field-opens sep draft more fits) })
      | inr a ↦ moved-from sep Field Plain draft draft byte (λ more. field-plain sep byte draft more fits a.1) (moved-plain sep byte draft is)
    ]

moved-plain_cr : (sep byte : ℕ) (draft : Drafted) → IsTrue (is_separator sep) → Moved sep PlainCr draft byte
unfolding kept_with
moved-plain_cr sep byte draft is =
    elim (eqb_tells byte 10) [
      | inl a ↦ Closes draft (λ more. rw a.1 (plain_cr-at_line_feed sep draft is more))
      | inr a ↦ moved-from sep PlainCr Plain draft (kept_with draft 13) byte (λ more. plain_cr-goes sep byte draft (kept_with draft 13) more is a.1 refl refl) (moved-plain sep byte (kept_with draft 13) is)
    ]

moved-quoted : (sep byte : ℕ) (draft : Drafted) → Moved sep Quoted draft byte
unfolding kept_with
moved-quoted sep byte draft =
    elim (eqb_tells byte 34) [
      | inl a ↦ Goes QuoteInQuoted draft (record { fits = tt; same = λ more. rw a.1 refl })
      | inr a ↦ Goes Quoted (kept_with draft byte) (quoted-at_other sep byte draft (kept_with draft byte) (Ok (To Quoted)) a.1 (refl, refl, refl))
    ]

moved-quote : (sep byte : ℕ) (draft : Drafted) → IsTrue (is_separator sep) → Moved sep QuoteInQuoted draft byte
unfolding kept_with ended_with
moved-quote sep byte draft is =
    elim (eqb_tells byte sep) [
      | inl a ↦ Goes Field (ended_with draft) (quote-at_sep sep byte draft (ended_with draft) (Ok (To Field)) is a.1 (refl, refl, refl))
      | inr a ↦ elim (eqb_tells byte 34) [
        | inl b ↦ Goes Quoted (kept_with draft byte) (quote-at_quote sep byte draft (kept_with draft byte) (Ok (To Quoted)) b.1 (refl, refl, refl))
        | inr b ↦ elim (eqb_tells byte 10) [
          | inl d ↦ Closes draft (λ more. rw d.1 (quote-at_line_feed sep draft is more))
          | inr d ↦ elim (eqb_tells byte 13) [
            | inl e ↦ Goes ClosedCr draft (record { fits = tt; same = λ more. rw e.1 (quote-at_cr sep draft more) })
            | inr e ↦ Stops (λ more. quote-at_other sep byte draft more a.1 b.1 d.1 e.1)
          ]
        ]
      ]
    ]

moved-closed_cr : (sep byte : ℕ) (draft : Drafted) → IsTrue (is_separator sep) → Moved sep ClosedCr draft byte
moved-closed_cr sep byte draft is =
    elim (eqb_tells byte 10) [
      | inl a ↦ Closes draft (λ more. rw a.1 (closed_cr-at_line_feed sep draft is more))
      | inr a ↦ Stops (λ more. closed_cr-at_other sep byte draft more is a.1)
    ]

moved : (sep byte : ℕ) (place : Place) (draft : Drafted) → IsTrue (is_separator sep) → FitsPlace place draft → Moved sep place draft byte
moved sep byte Field draft is fits = moved-field sep byte draft is fits
moved sep byte Plain draft is fits = moved-plain sep byte draft is
moved sep byte PlainCr draft is fits = moved-plain_cr sep byte draft is
moved sep byte Quoted draft is fits = moved-quoted sep byte draft
moved sep byte QuoteInQuoted draft is fits = moved-quote sep byte draft is
moved sep byte ClosedCr draft is fits = moved-closed_cr sep byte draft is

-- what a byte is to be taken for
record Opened (sep : ℕ) (phase : Phase) (draft : Drafted) (count byte : ℕ) : Type 0 where
  opening : Opening
  opens : Opens sep phase draft count byte opening

has_only-more : (bytes : List ℕ) (draft new : Drafted) (count size byte : ℕ) → HasOnly bytes draft count → new.fields ≡ draft.fields → new.field ≡ draft.field ++ byte ∷ [] → size ≡ suc count → HasOnly (bytes ++ byte ∷ []) new size
has_only-more bytes draft new count size byte only e f g = record {
  fields = e ∙ only.fields;
  field = f ∙ ap (λ field. field ++ byte ∷ []) only.field;
  size = g ∙ ap suc only.size ∙ sym (length-append bytes (byte ∷ []) ∙ add-one (length bytes));
}

kept-same : (f : List ℕ → Cut) (draft new : Drafted) (byte : ℕ) (more : List ℕ) → new.field ≡ draft.field ++ byte ∷ [] → f (draft.field ++ byte ∷ more) ≡ f (new.field ++ more)
kept-same f draft new byte more e = ap f (sym (append_assoc draft.field (byte ∷ []) more)) ∙ ap (λ field. f (field ++ more)) (sym e)

opened-record : (sep byte count : ℕ) (draft : Drafted) → HasOnly [] draft count → Opened sep Record draft count byte
opened-record sep byte count draft only =
    elim (eqb_tells byte 10) [
      | inl a ↦ record { opening = Skip; opens = record-at_line_feed sep byte count draft only a.1 }
      | inr a ↦ elim (eqb_tells byte 13) [
        | inl b ↦ record { opening = Keep RecordCr; opens = λ new size e f g. (rw b.1 at (has_only-more [] draft new count size byte only e f g), λ all more. kept-same (records_from sep all) draft new byte more f) }
        | inr b ↦ record { opening = Read Field; opens = record-at_other sep byte count draft only a.1 b.1 }
      ]
    ]

opened : (sep byte count : ℕ) (phase : Phase) (draft : Drafted) → IsTrue (is_separator sep) → Fits phase draft count → Opened sep phase draft count byte
opened sep byte count Input draft is fits =
    elim (eqb_tells byte 239) [
      | inl a ↦ record { opening = Keep MarkOne; opens = λ new size e f g. (rw a.1 at (has_only-more [] draft new count size byte fits e f g), λ all more. kept-same (text_from sep all) draft new byte more f) }
      | inr a ↦ let at_record = opened-record sep byte count draft fits in record { opening = at_record.opening; opens = input-opens sep byte count draft at_record.opening fits a.1 at_record.opens }
    ]
opened sep byte count MarkOne draft is fits =
    elim (eqb_tells byte 187) [
      | inl a ↦ record { opening = Keep MarkTwo; opens = λ new size e f g. (rw a.1 at (has_only-more (239 ∷ []) draft new count size byte fits e f g), λ all more. kept-same (text_from sep all) draft new byte more f) }
      | inr a ↦ record { opening = Read Plain; opens = mark_one-at_other sep byte count draft is fits a.1 }
    ]
opened sep byte count MarkTwo draft is fits =
    elim (eqb_tells byte 191) [
      | inl a ↦ record { opening = Skip; opens = mark_two-at_last sep byte count draft fits a.1 }
      | inr a ↦ record { opening = Read Plain; opens = mark_two-at_other sep byte count draft is fits a.1 }
    ]
opened sep byte count Record draft is fits = opened-record sep byte count draft fits
opened sep byte count RecordCr draft is fits =
    elim (eqb_tells byte 10) [
      | inl a ↦ record { opening = Skip; opens = record_cr-at_line_feed sep byte count draft fits a.1 }
      | inr a ↦ record { opening = Read Plain; opens = record_cr-at_other sep byte count draft is fits a.1 }
    ]
opened sep byte count (Inside place) draft is fits = record { opening = Read place; opens = (fits, λ all more. refl) }
opened sep byte count (Refused fault) draft is fits = absurd fits

-- what a byte leads to
data Stepped (sep : ℕ) (phase : Phase) (draft : Drafted) (count byte : ℕ) : Type 0 where
  Steps : (next : Phase) (new : Drafted) (size : ℕ) (added : List (List (List ℕ))) → Fits next new size → size ≤ 65536 → Resumes sep phase draft count (byte ∷ []) added next new size → Stepped sep phase draft count byte
  Fails : (fault : CutFault) → StopsAt sep phase draft count byte fault → Stepped sep phase draft count byte

nothing : Drafted
nothing = record { fields = []; field = [] }

nothing-only : HasOnly [] nothing 0
unfolding nothing
nothing-only = record { fields = refl; field = refl; size = refl }

stepped-in : (sep byte count : ℕ) (phase : Phase) (place : Place) (draft : Drafted) → count < 65536 → Opens sep phase draft count byte (Read place) → Moved sep place draft byte → Stepped sep phase draft count byte
unfolding nothing
stepped-in sep byte count phase place draft short opens (Goes next new goes) = Steps (Inside next) new (count + 1) [] goes.fits (omega arith) (to-step sep byte count (count + 1) phase place next draft new opens goes refl)
stepped-in sep byte count phase place draft short opens (Closes new closes) = Steps Record nothing 0 ((new.fields ++ new.field ∷ []) ∷ []) nothing-only (omega arith) (end-step sep byte count 0 phase Record place draft new nothing opens closes short refl refl)
stepped-in sep byte count phase place draft short opens (Stops stops) = Fails BadQuote (bad-step sep byte count phase place draft short opens stops)

stepped-by : (sep byte count : ℕ) (phase : Phase) (draft : Drafted) (opening : Opening) → IsTrue (is_separator sep) → count < 65536 → Opens sep phase draft count byte opening → Stepped sep phase draft count byte
unfolding nothing kept_with
stepped-by sep byte count phase draft (Read place) is short opens = stepped-in sep byte count phase place draft short opens (moved sep byte place draft is opens.0)
stepped-by sep byte count phase draft (Keep next) is short opens =
    let kept = opens (kept_with draft byte) (suc count) refl refl refl in
    Steps next (kept_with draft byte) (suc count) [] kept.0 (omega arith) kept.1
stepped-by sep byte count phase draft Skip is short opens = Steps Record nothing 0 [] nothing-only (omega arith) (skip-step sep byte count 0 phase Record draft nothing opens refl refl)
stepped-by sep byte count phase draft (Refuse fault) is short opens = absurd opens

stepped : (sep byte count : ℕ) (phase : Phase) (draft : Drafted) → IsTrue (is_separator sep) → count ≤ 65536 → Fits phase draft count → Stepped sep phase draft count byte
stepped sep byte count phase draft is h fits =
    elim (cases_lt count 65536) [
      | inl short ↦ let o = opened sep byte count phase draft is fits in stepped-by sep byte count phase draft o.opening is short o.opens
      | inr long ↦ Fails RecordTooLong (long-step sep byte count phase draft is fits (omega arith))
    ]

-- a text that may go on, or one with a fault at a byte
pub data Walked (sep : ℕ) (bytes : List ℕ) : Type 0 where
  MayGoOn : (phase : Phase) (draft : Drafted) (count : ℕ) → Stands sep phase draft count bytes → Walked sep bytes
  HasFault : (first : List (List (List ℕ))) (fault : CutFault) (offset : ℕ) → ((more : List ℕ) → records sep (bytes ++ more) ≡ record { records = first; onward = Fault fault offset }) → Walked sep bytes

walk-by : (sep : ℕ) (done : List ℕ) (byte : ℕ) (rest : List ℕ) (phase : Phase) (draft : Drafted) (count : ℕ) → IsTrue (is_separator sep) → Stands sep phase draft count done → ((next : Phase) (new : Drafted) (size : ℕ) → Stands sep next new size (done ++ byte ∷ []) → Walked sep ((done ++ byte ∷ []) ++ rest)) → Stepped sep phase draft count byte → Walked sep (done ++ byte ∷ rest)
walk-by sep done byte rest phase draft count is stands go (Steps next new size added fits short step) =
    let on = stands-on sep phase draft count next new size done (byte ∷ []) added is stands fits short step in
    subst (Walked sep) (append_assoc done (byte ∷ []) rest) (go next new size on.stands)
walk-by sep done byte rest phase draft count is stands go (Fails fault stops) = HasFault (records sep done).records fault (length done) (λ more. ap (records sep) (append_assoc done (byte ∷ rest) more) ∙ stops-at sep phase draft count byte done (rest ++ more) fault stands stops)

walk : (sep : ℕ) (done rest : List ℕ) (phase : Phase) (draft : Drafted) (count : ℕ) → IsTrue (is_separator sep) → Stands sep phase draft count done → Walked sep (done ++ rest)
walk sep done [] phase draft count is stands = subst (Walked sep) (sym (append-nil done)) (MayGoOn phase draft count stands)
walk sep done (byte ∷ rest) phase draft count is stands = walk-by sep done byte rest phase draft count is stands (λ next new size on. walk sep (done ++ byte ∷ []) rest next new size is on) (stepped sep byte count phase draft is stands.short stands.fits)

pub walked : (sep : ℕ) (bytes : List ℕ) → IsTrue (is_separator sep) → Walked sep bytes
walked sep bytes is = walk sep [] bytes Input nothing 0 is (begun-stands sep Input nothing 0 refl nothing-only)

-- the laws

stays : (sep : ℕ) (bytes more : List ℕ) (first : List (List (List ℕ))) (fault : CutFault) (offset : ℕ) → ((rest : List ℕ) → records sep (bytes ++ rest) ≡ record { records = first; onward = Fault fault offset }) → Stays sep bytes more
stays sep bytes more first fault offset same =
    let now : records sep bytes ≡ record { records = first; onward = Fault fault offset } = ap (records sep) (sym (append-nil bytes)) ∙ same [] in
    let of : List (List (List ℕ)) → Ended = λ all. record { records = all; fault = Some fault } in
    record {
      may_go_on = ap so_far_of (same more) ∙ ap so_far_of (sym now);
      has_ended = ap ended_of (same more) ∙ ap of (append-nil first) ∙ ap so_far_of (sym now);
    }

stays-if : (sep : ℕ) (bytes more : List ℕ) (fault : CutFault) → IsTrue (is_separator sep) → (so_far sep bytes).fault ≡ Some fault → Walked sep bytes → Stays sep bytes more
stays-if sep bytes more fault is found (MayGoOn phase draft count stands) =
    let none : (so_far sep bytes).fault ≡ None = no_fault sep phase draft count bytes is stands in
    let never : ⊥ = cc in
    absurd never
stays-if sep bytes more fault is found (HasFault first at offset same) = stays sep bytes more first at offset same

pub faults-stay : FaultsStay
faults-stay sep bytes more fault is found = stays-if sep bytes more fault is found (walked sep bytes is)

records-stay-if : (sep : ℕ) (bytes more : List ℕ) → Walked sep bytes → (later : List (List (List ℕ))) × ((so_far sep (bytes ++ more)).records ≡ (so_far sep bytes).records ++ later)
records-stay-if sep bytes more (MayGoOn phase draft count stands) = ((resumed sep phase draft count (length (bytes ++ more)) more).records, ap (λ (c : Cut). c.records) (stands.follows more))
records-stay-if sep bytes more (HasFault first fault offset same) =
    let now : (records sep bytes).records ≡ first = ap (λ text. (records sep text).records) (sym (append-nil bytes)) ∙ ap (λ (c : Cut). c.records) (same []) in
    ([], ap (λ (c : Cut). c.records) (same more) ∙ sym now ∙ sym (append-nil (records sep bytes).records))

pub records-stay : RecordsStay
records-stay sep bytes more is = records-stay-if sep bytes more (walked sep bytes is)
