-- What the end of the text leaves of a record of which a part has been read.
use Rattle.std.proofs.Common.{◌≡◌, ℕ, ◌+◌, ◌≤◌, nat_lt, false, IsTrue, List, [], ◌∷◌, ◌++◌, length, None, refl, sym, ap, ◌∙◌, arith, le-ltb}
use Rattle.words.specs.Separators.{is_separator}
use Rattle.record_cut.specs.Bytes.{after_line_break}
use Rattle.record_cut.specs.Drafted.{Drafted}
use Rattle.record_cut.specs.Field.{plain, led_by}
use Rattle.record_cut.specs.Record.{Unended, Nothing as NoRecord, Fields, OpenField, CrAfterQuote, Ends, with_fields, record_at}
use Rattle.record_cut.specs.Records.{Cut, Rest, only, by_record, records_from, text_from}
use Rattle.record_cut.specs.Resumed.{continued, resumed, HasOnly, Fits, FitsPlace, from_plain, from_quoted, from_closed}
use Rattle.record_cut.specs.Moves.{Leaves}
use Rattle.record_cut.specs.declared.fault.CutFault.TheVariants.{BadQuote, RecordTooLong, OpenQuote, Memory}
use Rattle.record_cut.specs.declared.phase.Place.{Place}
use Rattle.record_cut.specs.declared.phase.Place.TheVariants.{Field as AtField, Plain, PlainCr, Quoted, QuoteInQuoted, ClosedCr}
use Rattle.record_cut.specs.declared.phase.Phase.{Phase}
use Rattle.record_cut.specs.declared.phase.Phase.TheVariants.{Input, MarkOne, MarkTwo, Record, RecordCr, Inside, Refused}
use Rattle.record_cut.specs.declared.phase.Ending.{Ending}
use Rattle.record_cut.specs.declared.phase.Ending.TheVariants.{Nothing, Field, FieldAndCr, Refuse}
use Rattle.record_cut.proofs.Grammar.{other_byte, plain-nil, plain-cr-end, plain-other, quoted-nil, quoted-end, field-nil, after-nil, after-cr-end}
use Rattle.record_cut.proofs.Within.{record-field, records-nil}
use Rattle.record_cut.proofs.Steps.{closed-end, closed-last_cr, plain-closes, quoted-closes, plain-grows}
use Rattle.record_cut.proofs.Openings.{line-read, plain-second, plain-third, no_mark, no_mark-nil, no_mark-one, no_mark-two}

by_end : (more : List ℕ → Cut) (all size : ℕ) (unended : Unended) → size ≤ 65536 → by_record more all size (Ends unended) ≡ only (Rest unended)
by_end more all size unended h =
    let short : nat_lt 65536 size ≡ false = le-ltb 65536 size h in
    rw short refl

field-ends : (sep : ℕ) (draft : Drafted) → draft.field ≡ [] → with_fields draft.fields (record_at sep []) ≡ Ends (Fields (draft.fields ++ draft.field ∷ []))
field-ends sep draft e = ap (with_fields draft.fields) (record-field sep []) ∙ rw (field-nil sep, plain-nil sep, after-nil sep) (ap (λ field. Ends (Fields (draft.fields ++ field ∷ []))) (sym e))

plain-ends : (sep : ℕ) (draft : Drafted) → from_plain sep draft [] ≡ Ends (Fields (draft.fields ++ draft.field ∷ []))
plain-ends sep draft = plain-closes sep draft [] (plain-nil sep) ∙ closed-end sep draft [] (after-nil sep)

cr-led : (sep : ℕ) → IsTrue (is_separator sep) → plain sep (13 ∷ []) ≡ led_by (13 ∷ []) (plain sep [])
cr-led sep is = plain-cr-end sep (other_byte sep 13 is refl) ∙ rw (plain-nil sep) refl

plain_cr-ends : (sep : ℕ) (draft : Drafted) → IsTrue (is_separator sep) → from_plain sep draft (13 ∷ []) ≡ Ends (Fields (draft.fields ++ (draft.field ++ 13 ∷ []) ∷ []))
plain_cr-ends sep draft is =
    let kept : Drafted = record { fields = draft.fields; field = draft.field ++ 13 ∷ [] } in
    plain-grows sep 13 draft kept [] refl refl (cr-led sep is) ∙ plain-ends sep kept

quoted-ends : (sep : ℕ) (draft : Drafted) → from_quoted sep draft [] ≡ Ends OpenField
unfolding from_quoted
quoted-ends sep draft = rw quoted-nil refl

quote-ends : (sep : ℕ) (draft : Drafted) → from_quoted sep draft (34 ∷ []) ≡ Ends (Fields (draft.fields ++ draft.field ∷ []))
quote-ends sep draft = quoted-closes sep draft (34 ∷ []) [] quoted-end ∙ closed-end sep draft [] (after-nil sep)

closed_cr-ends : (sep : ℕ) (draft : Drafted) → IsTrue (is_separator sep) → from_closed sep draft (13 ∷ []) ≡ Ends CrAfterQuote
closed_cr-ends sep draft is = closed-last_cr sep draft (13 ∷ []) (after-cr-end sep (other_byte sep 13 is refl))

inside-ends : (sep all count : ℕ) (place : Place) (draft : Drafted) (unended : Unended) → count ≤ 65536 → continued sep place draft [] ≡ Ends unended → resumed sep (Inside place) draft count all [] ≡ only (Rest unended)
inside-ends sep all count place draft unended h e = ap (by_record (records_from sep all) all (count + 0)) e ∙ by_end (records_from sep all) all (count + 0) unended (omega arith)

-- the last byte of the text is all of the record
last-byte : (sep all byte : ℕ) (rest : List ℕ) (draft : Drafted) → length (byte ∷ rest) ≤ 65536 → after_line_break (byte ∷ rest) ≡ None → record_at sep (byte ∷ rest) ≡ from_plain sep draft [] → records_from sep all (byte ∷ rest) ≡ only (Rest (Fields (draft.fields ++ draft.field ∷ [])))
last-byte sep all byte rest draft h e f = line-read sep all byte (length (byte ∷ rest)) rest (from_plain sep draft []) e refl f ∙ ap (by_record (records_from sep all) all (length (byte ∷ rest))) (plain-ends sep draft) ∙ by_end (records_from sep all) all (length (byte ∷ rest)) (Fields (draft.fields ++ draft.field ∷ [])) h

abbrev pub place-ending : Place → Ending
place-ending AtField = Field
place-ending Plain = Field
place-ending PlainCr = FieldAndCr
place-ending Quoted = Refuse OpenQuote
place-ending QuoteInQuoted = Field
place-ending ClosedCr = Refuse BadQuote

pub place-leaves : (sep count : ℕ) (place : Place) (draft : Drafted) → IsTrue (is_separator sep) → count ≤ 65536 → FitsPlace place draft → Leaves sep (Inside place) draft count (place-ending place)
place-leaves sep count AtField draft is h fits = λ all. inside-ends sep all count AtField draft _ h (field-ends sep draft fits)
place-leaves sep count Plain draft is h fits = λ all. inside-ends sep all count Plain draft _ h (plain-ends sep draft)
place-leaves sep count PlainCr draft is h fits = λ all. inside-ends sep all count PlainCr draft _ h (plain_cr-ends sep draft is)
place-leaves sep count Quoted draft is h fits = λ all. inside-ends sep all count Quoted draft _ h (quoted-ends sep draft)
place-leaves sep count QuoteInQuoted draft is h fits = λ all. inside-ends sep all count QuoteInQuoted draft _ h (quote-ends sep draft)
place-leaves sep count ClosedCr draft is h fits = λ all. inside-ends sep all count ClosedCr draft _ h (closed_cr-ends sep draft is)

pub nothing-left : (sep all : ℕ) → text_from sep all [] ≡ only (Rest NoRecord)
nothing-left sep all = no_mark sep all [] no_mark-nil ∙ records-nil sep all

pub input-leaves : (sep count : ℕ) (draft : Drafted) → HasOnly [] draft count → (all : ℕ) → text_from sep all (draft.field ++ []) ≡ only (Rest NoRecord)
input-leaves sep count draft fits all = rw fits.field (nothing-left sep all)

pub record-leaves : (sep count : ℕ) (draft : Drafted) → HasOnly [] draft count → (all : ℕ) → records_from sep all (draft.field ++ []) ≡ only (Rest NoRecord)
record-leaves sep count draft fits all = rw fits.field (records-nil sep all)

pub record_cr-leaves : (sep count : ℕ) (draft : Drafted) → IsTrue (is_separator sep) → HasOnly (13 ∷ []) draft count → (all : ℕ) → records_from sep all (draft.field ++ []) ≡ only (Rest (Fields (draft.fields ++ draft.field ∷ [])))
record_cr-leaves sep count draft is fits all = ap (λ field. records_from sep all (field ++ [])) fits.field ∙ last-byte sep all 13 [] draft (omega arith) refl (plain-second sep 13 draft [] fits.fields fits.field (λ e. cc) (cr-led sep is))

pub mark_one-leaves : (sep count : ℕ) (draft : Drafted) → IsTrue (is_separator sep) → HasOnly (239 ∷ []) draft count → (all : ℕ) → text_from sep all (draft.field ++ []) ≡ only (Rest (Fields (draft.fields ++ draft.field ∷ [])))
mark_one-leaves sep count draft is fits all = ap (λ field. text_from sep all (field ++ [])) fits.field ∙ no_mark sep all (239 ∷ []) no_mark-one ∙ last-byte sep all 239 [] draft (omega arith) refl (plain-second sep 239 draft [] fits.fields fits.field (λ e. cc) (plain-other sep 239 [] (other_byte sep 239 is refl) (λ e. cc) (λ e. cc) (λ e. cc)))

pub mark_two-leaves : (sep count : ℕ) (draft : Drafted) → IsTrue (is_separator sep) → HasOnly (239 ∷ 187 ∷ []) draft count → (all : ℕ) → text_from sep all (draft.field ++ []) ≡ only (Rest (Fields (draft.fields ++ draft.field ∷ [])))
mark_two-leaves sep count draft is fits all = ap (λ field. text_from sep all (field ++ [])) fits.field ∙ no_mark sep all (239 ∷ 187 ∷ []) no_mark-two ∙ last-byte sep all 239 (187 ∷ []) draft (omega arith) refl (plain-third sep 239 187 draft [] fits.fields fits.field (λ e. cc) (plain-other sep 239 (187 ∷ []) (other_byte sep 239 is refl) (λ e. cc) (λ e. cc) (λ e. cc)) (plain-other sep 187 [] (other_byte sep 187 is refl) (λ e. cc) (λ e. cc) (λ e. cc)))

abbrev pub phase-ending : Phase → Ending
phase-ending Input = Nothing
phase-ending MarkOne = Field
phase-ending MarkTwo = Field
phase-ending Record = Nothing
phase-ending RecordCr = Field
phase-ending (Inside place) = place-ending place
phase-ending (Refused fault) = Refuse fault

pub phase-leaves : (sep count : ℕ) (phase : Phase) (draft : Drafted) → IsTrue (is_separator sep) → count ≤ 65536 → Fits phase draft count → Leaves sep phase draft count (phase-ending phase)
phase-leaves sep count Input draft is h fits = input-leaves sep count draft fits
phase-leaves sep count MarkOne draft is h fits = mark_one-leaves sep count draft is fits
phase-leaves sep count MarkTwo draft is h fits = mark_two-leaves sep count draft is fits
phase-leaves sep count Record draft is h fits = record-leaves sep count draft fits
phase-leaves sep count RecordCr draft is h fits = record_cr-leaves sep count draft is fits
phase-leaves sep count (Inside place) draft is h fits = place-leaves sep count place draft is h fits
phase-leaves sep count (Refused fault) draft is h fits = absurd fits

-- no record and no fault, but what the end leaves
pub record IsQuiet (cut : Cut) : Type 0 where
  pub left : Unended
  pub only_rest : cut ≡ only (Rest left)

quiet-if : (sep count : ℕ) (phase : Phase) (draft : Drafted) (ending : Ending) → Leaves sep phase draft count ending → (all : ℕ) → IsQuiet (resumed sep phase draft count all [])
quiet-if sep count phase draft Nothing leaves all = record { left = _; only_rest = leaves all }
quiet-if sep count phase draft Field leaves all = record { left = _; only_rest = leaves all }
quiet-if sep count phase draft FieldAndCr leaves all = record { left = _; only_rest = leaves all }
quiet-if sep count phase draft (Refuse BadQuote) leaves all = record { left = _; only_rest = leaves all }
quiet-if sep count phase draft (Refuse OpenQuote) leaves all = record { left = _; only_rest = leaves all }
quiet-if sep count phase draft (Refuse RecordTooLong) leaves all = absurd leaves
quiet-if sep count phase draft (Refuse Memory) leaves all = absurd leaves

pub quiet : (sep count : ℕ) (phase : Phase) (draft : Drafted) → IsTrue (is_separator sep) → count ≤ 65536 → Fits phase draft count → (all : ℕ) → IsQuiet (resumed sep phase draft count all [])
quiet sep count phase draft is h fits = quiet-if sep count phase draft (phase-ending phase) (phase-leaves sep count phase draft is h fits)
