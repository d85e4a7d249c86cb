-- The first bytes of a record.
use Rattle.std.proofs.Common.{◌≡◌, ◌≢◌, ℕ, ◌+◌, IsTrue, List, [], ◌∷◌, ◌++◌, length, Some, None, refl, sym, ap, ◌∙◌, arith, ne_eqb}
use Rattle.words.specs.Separators.{is_separator}
use Rattle.record_cut.specs.Bytes.{after_line_break}
use Rattle.record_cut.specs.Drafted.{Drafted}
use Rattle.record_cut.specs.Field.{plain, led_by}
use Rattle.record_cut.specs.Record.{Nothing, Fields, OpenField, CrAfterQuote, RecordAt, Whole, Bad, Ends, with_fields, record_at}
use Rattle.record_cut.specs.Records.{by_record, records_from, without_mark, text_from}
use Rattle.record_cut.specs.Resumed.{HasOnly, from_plain}
use Rattle.record_cut.specs.Moves.{Opens}
use Rattle.record_cut.specs.declared.phase.Place.TheVariants.{Field, Plain}
use Rattle.record_cut.specs.declared.phase.Phase.TheVariants.{Input, MarkOne, MarkTwo, Record, RecordCr}
use Rattle.record_cut.specs.declared.phase.Opening.{Opening}
use Rattle.record_cut.specs.declared.phase.Opening.TheVariants.{Read, Keep, Skip, Refuse}
use Rattle.record_cut.proofs.Grammar.{other_byte, line_feed-break, cr-no_break, other-no_break, plain-cr, plain-other}
use Rattle.record_cut.proofs.Within.{records-line}
use Rattle.record_cut.proofs.Steps.{plain-grows, field-plain}

with_no_fields : (x : RecordAt) → with_fields [] x ≡ x
with_no_fields (Whole fields rest) = refl
with_no_fields (Bad from) = refl
with_no_fields (Ends (Fields fields)) = refl
with_no_fields (Ends Nothing) = refl
with_no_fields (Ends OpenField) = refl
with_no_fields (Ends CrAfterQuote) = refl

pub line-skipped : (sep all byte : ℕ) (rest more : List ℕ) → after_line_break (byte ∷ rest) ≡ Some more → records_from sep all (byte ∷ rest) ≡ records_from sep all more
line-skipped sep all byte rest more e = records-line sep all byte rest ∙ rw e refl

pub line-read : (sep all byte size : ℕ) (rest : List ℕ) (x : RecordAt) → after_line_break (byte ∷ rest) ≡ None → size ≡ length (byte ∷ rest) → record_at sep (byte ∷ rest) ≡ x → records_from sep all (byte ∷ rest) ≡ by_record (records_from sep all) all size x
line-read sep all byte size rest x e f g = records-line sep all byte rest ∙ rw (e, g, f) refl

-- an unquoted field that begins the record

plain-first : (sep byte : ℕ) (draft : Drafted) (more : List ℕ) → draft.fields ≡ [] → draft.field ≡ [] → byte ≢ 34 → record_at sep (byte ∷ more) ≡ from_plain sep draft (byte ∷ more)
plain-first sep byte draft more e f h = sym (with_no_fields (record_at sep (byte ∷ more))) ∙ ap (λ fields. with_fields fields (record_at sep (byte ∷ more))) (sym e) ∙ field-plain sep byte draft more f h

nothing_yet : Drafted
nothing_yet = record { fields = []; field = [] }

pub plain-second : (sep byte : ℕ) (draft : Drafted) (more : List ℕ) → draft.fields ≡ [] → draft.field ≡ byte ∷ [] → byte ≢ 34 → plain sep (byte ∷ more) ≡ led_by (byte ∷ []) (plain sep more) → record_at sep (byte ∷ more) ≡ from_plain sep draft more
unfolding nothing_yet
plain-second sep byte draft more e f h go = plain-first sep byte nothing_yet more refl refl h ∙ plain-grows sep byte nothing_yet draft more e f go

pub plain-third : (sep first second : ℕ) (draft : Drafted) (more : List ℕ) → draft.fields ≡ [] → draft.field ≡ first ∷ second ∷ [] → first ≢ 34 → plain sep (first ∷ second ∷ more) ≡ led_by (first ∷ []) (plain sep (second ∷ more)) → plain sep (second ∷ more) ≡ led_by (second ∷ []) (plain sep more) → record_at sep (first ∷ second ∷ more) ≡ from_plain sep draft more
plain-third sep first second draft more e f h go on =
    let one : Drafted = record { fields = []; field = first ∷ [] } in
    plain-second sep first one (second ∷ more) refl refl h go ∙ plain-grows sep second one draft more e f on

-- the mark

pub mark-first : (byte : ℕ) (more : List ℕ) → byte ≢ 239 → without_mark (byte ∷ more) ≡ byte ∷ more
unfolding without_mark
mark-first byte [] h = refl
mark-first byte (second ∷ []) h = refl
mark-first byte (second ∷ third ∷ more) h = rw (ne_eqb byte 239 h) refl

pub mark-second : (byte : ℕ) (more : List ℕ) → byte ≢ 187 → without_mark (239 ∷ byte ∷ more) ≡ 239 ∷ byte ∷ more
unfolding without_mark
mark-second byte [] h = refl
mark-second byte (third ∷ more) h = rw (ne_eqb byte 187 h) refl

pub mark-third : (byte : ℕ) (more : List ℕ) → byte ≢ 191 → without_mark (239 ∷ 187 ∷ byte ∷ more) ≡ 239 ∷ 187 ∷ byte ∷ more
unfolding without_mark
mark-third byte more h = rw (ne_eqb byte 191 h) refl

pub no_mark : (sep all : ℕ) (bytes : List ℕ) → without_mark bytes ≡ bytes → text_from sep all bytes ≡ records_from sep all bytes
unfolding text_from
no_mark sep all bytes e = ap (records_from sep all) e

pub marked : (sep all : ℕ) (more : List ℕ) → text_from sep all (239 ∷ 187 ∷ 191 ∷ more) ≡ records_from sep all more
unfolding text_from without_mark
marked sep all more = refl

-- each phase

pub record-at_line_feed : (sep byte count : ℕ) (draft : Drafted) → HasOnly [] draft count → byte ≡ 10 → (all : ℕ) (more : List ℕ) → records_from sep all (draft.field ++ byte ∷ more) ≡ records_from sep all more
record-at_line_feed sep byte count draft only e all more = rw (only.field, e) (line-skipped sep all 10 more more (line_feed-break more))

pub record-at_other : (sep byte count : ℕ) (draft : Drafted) → HasOnly [] draft count → byte ≢ 10 → byte ≢ 13 → Opens sep Record draft count byte (Read Field)
record-at_other sep byte count draft only l k =
    (only.field, λ all more. rw only.field (line-read sep all byte (count + length (byte ∷ more)) more (with_fields draft.fields (record_at sep (byte ∷ more))) (other-no_break byte more l k) (omega (arith, only.size)) (sym (with_no_fields (record_at sep (byte ∷ more))) ∙ ap (λ fields. with_fields fields (record_at sep (byte ∷ more))) (sym only.fields))))

pub record_cr-at_line_feed : (sep byte count : ℕ) (draft : Drafted) → HasOnly (13 ∷ []) draft count → byte ≡ 10 → (all : ℕ) (more : List ℕ) → records_from sep all (draft.field ++ byte ∷ more) ≡ records_from sep all more
record_cr-at_line_feed sep byte count draft only e all more = rw (only.field, e) (line-skipped sep all 13 (10 ∷ more) more refl)

pub record_cr-at_other : (sep byte count : ℕ) (draft : Drafted) → IsTrue (is_separator sep) → HasOnly (13 ∷ []) draft count → byte ≢ 10 → Opens sep RecordCr draft count byte (Read Plain)
record_cr-at_other sep byte count draft is only l =
    (tt, λ all more. ap (λ field. records_from sep all (field ++ byte ∷ more)) only.field ∙ (line-read sep all 13 (count + length (byte ∷ more)) (byte ∷ more) (from_plain sep draft (byte ∷ more)) (cr-no_break byte more l) (omega (arith, only.size)) (plain-second sep 13 draft (byte ∷ more) only.fields only.field (λ e. cc) (plain-cr sep byte more (other_byte sep 13 is refl) l))))

pub mark_one-at_other : (sep byte count : ℕ) (draft : Drafted) → IsTrue (is_separator sep) → HasOnly (239 ∷ []) draft count → byte ≢ 187 → Opens sep MarkOne draft count byte (Read Plain)
mark_one-at_other sep byte count draft is only h =
    (tt, λ all more. ap (λ field. text_from sep all (field ++ byte ∷ more)) only.field ∙ (no_mark sep all (239 ∷ byte ∷ more) (mark-second byte more h) ∙ line-read sep all 239 (count + length (byte ∷ more)) (byte ∷ more) (from_plain sep draft (byte ∷ more)) refl (omega (arith, only.size)) (plain-second sep 239 draft (byte ∷ more) only.fields only.field (λ e. cc) (plain-other sep 239 (byte ∷ more) (other_byte sep 239 is refl) (λ e. cc) (λ e. cc) (λ e. cc)))))

pub mark_two-at_other : (sep byte count : ℕ) (draft : Drafted) → IsTrue (is_separator sep) → HasOnly (239 ∷ 187 ∷ []) draft count → byte ≢ 191 → Opens sep MarkTwo draft count byte (Read Plain)
mark_two-at_other sep byte count draft is only h =
    (tt, λ all more. ap (λ field. text_from sep all (field ++ byte ∷ more)) only.field ∙ (no_mark sep all (239 ∷ 187 ∷ byte ∷ more) (mark-third byte more h) ∙ line-read sep all 239 (count + length (byte ∷ more)) (187 ∷ byte ∷ more) (from_plain sep draft (byte ∷ more)) refl (omega (arith, only.size)) (plain-third sep 239 187 draft (byte ∷ more) only.fields only.field (λ e. cc) (plain-other sep 239 (187 ∷ byte ∷ more) (other_byte sep 239 is refl) (λ e. cc) (λ e. cc) (λ e. cc)) (plain-other sep 187 (byte ∷ more) (other_byte sep 187 is refl) (λ e. cc) (λ e. cc) (λ e. cc)))))

pub mark_two-at_last : (sep byte count : ℕ) (draft : Drafted) → HasOnly (239 ∷ 187 ∷ []) draft count → byte ≡ 191 → (all : ℕ) (more : List ℕ) → text_from sep all (draft.field ++ byte ∷ more) ≡ records_from sep all more
mark_two-at_last sep byte count draft only e all more = rw (only.field, e) (marked sep all more)

opens-as : (sep byte count : ℕ) (draft : Drafted) (x : Opening) → ((all : ℕ) (more : List ℕ) → text_from sep all (draft.field ++ byte ∷ more) ≡ records_from sep all (draft.field ++ byte ∷ more)) → Opens sep Record draft count byte x → Opens sep Input draft count byte x
opens-as sep byte count draft (Read place) same opens = (opens.0, λ all more. same all more ∙ opens.1 all more)
opens-as sep byte count draft (Keep next) same opens = λ new size e f g. let kept = opens new size e f g in (kept.0, λ all more. same all more ∙ kept.1 all more)
opens-as sep byte count draft Skip same opens = λ all more. same all more ∙ opens all more
opens-as sep byte count draft (Refuse fault) same opens = opens

-- nothing has been read, and no mark begins
pub input-opens : (sep byte count : ℕ) (draft : Drafted) (x : Opening) → HasOnly [] draft count → byte ≢ 239 → Opens sep Record draft count byte x → Opens sep Input draft count byte x
input-opens sep byte count draft x only h = opens-as sep byte count draft x (λ all more. rw only.field (no_mark sep all (byte ∷ more) (mark-first byte more h)))

pub no_mark-nil : without_mark [] ≡ []
unfolding without_mark
no_mark-nil = refl

pub no_mark-one : without_mark (239 ∷ []) ≡ 239 ∷ []
unfolding without_mark
no_mark-one = refl

pub no_mark-two : without_mark (239 ∷ 187 ∷ []) ≡ 239 ∷ 187 ∷ []
unfolding without_mark
no_mark-two = refl
