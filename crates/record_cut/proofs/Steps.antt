-- One more byte in a record of which a part has been read.
use Rattle.std.proofs.Common.{◌≡◌, ◌≢◌, ℕ, IsTrue, List, [], ◌∷◌, ◌++◌, Option, Some, None, Result, Ok, Err, refl, sym, ap, ◌∙◌, subst, append_assoc}
use Rattle.std.proofs.lemmas.List.{append-nil}
use Rattle.words.specs.Separators.{is_separator}
use Rattle.record_cut.specs.Drafted.{Drafted}
use Rattle.record_cut.specs.Field.{Piece, led_by, led_if_any, quoted, plain, Line, End, LastCr, Wrong, after_field}
use Rattle.record_cut.specs.Record.{Nothing, Fields, OpenField, CrAfterQuote, RecordAt, Whole, Bad, Ends, with_fields, by_field, record_at}
use Rattle.record_cut.specs.Resumed.{from_plain, from_quoted, from_closed, continued, FitsPlace}
use Rattle.record_cut.specs.Moves.{AddsByte, EndsField, GoesTo, Moves}
use Rattle.record_cut.specs.declared.fault.CutFault.{CutFault}
use Rattle.record_cut.specs.declared.fault.CutFault.TheVariants.{BadQuote, RecordTooLong, OpenQuote, Memory}
use Rattle.record_cut.specs.declared.phase.Place.{Place}
use Rattle.record_cut.specs.declared.phase.Place.TheVariants.{Plain, PlainCr, Quoted, QuoteInQuoted, ClosedCr}
use Rattle.record_cut.specs.declared.phase.Move.{Move}
use Rattle.record_cut.specs.declared.phase.Move.TheVariants.{To, EndRecord}
use Rattle.record_cut.proofs.Grammar.{other_byte, plain-sep, plain-quote, plain-line_feed, plain-line_break, plain-cr, plain-other, quoted-two, quoted-close, quoted-other, field-quote, field-other, after-sep, after-line_feed, after-line_break, after-cr, after-other}
use Rattle.record_cut.proofs.Within.{record-field}

with_fields-twice : (first : List (List ℕ)) (value : List ℕ) (x : RecordAt) → with_fields first (with_fields (value ∷ []) x) ≡ with_fields (first ++ value ∷ []) x
with_fields-twice first value (Whole fields rest) = ap (λ f. Whole f rest) (sym (append_assoc first (value ∷ []) fields))
with_fields-twice first value (Bad from) = refl
with_fields-twice first value (Ends (Fields fields)) = ap (λ f. Ends (Fields f)) (sym (append_assoc first (value ∷ []) fields))
with_fields-twice first value (Ends Nothing) = refl
with_fields-twice first value (Ends OpenField) = refl
with_fields-twice first value (Ends CrAfterQuote) = refl

-- after a field

pub closed-sep : (sep : ℕ) (draft new : Drafted) (more : List ℕ) → new.fields ≡ draft.fields ++ draft.field ∷ [] → from_closed sep draft (sep ∷ more) ≡ with_fields new.fields (record_at sep more)
unfolding from_closed
closed-sep sep draft new more e = rw (after-sep sep more, e) (with_fields-twice draft.fields draft.field (record_at sep more))

pub closed-line : (sep : ℕ) (draft : Drafted) (bytes more : List ℕ) → after_field sep bytes ≡ Line more → from_closed sep draft bytes ≡ Whole (draft.fields ++ draft.field ∷ []) more
unfolding from_closed
closed-line sep draft bytes more e = rw e refl

pub closed-wrong : (sep : ℕ) (draft : Drafted) (bytes from : List ℕ) → after_field sep bytes ≡ Wrong from → from_closed sep draft bytes ≡ Bad from
unfolding from_closed
closed-wrong sep draft bytes from e = rw e refl

pub closed-end : (sep : ℕ) (draft : Drafted) (bytes : List ℕ) → after_field sep bytes ≡ End → from_closed sep draft bytes ≡ Ends (Fields (draft.fields ++ draft.field ∷ []))
unfolding from_closed
closed-end sep draft bytes e = rw e refl

pub closed-last_cr : (sep : ℕ) (draft : Drafted) (bytes : List ℕ) → after_field sep bytes ≡ LastCr → from_closed sep draft bytes ≡ Ends CrAfterQuote
unfolding from_closed
closed-last_cr sep draft bytes e = rw e refl

-- in a field

pub plain-closes : (sep : ℕ) (draft : Drafted) (bytes : List ℕ) → plain sep bytes ≡ record { value = []; rest = bytes } → from_plain sep draft bytes ≡ from_closed sep draft bytes
unfolding from_plain from_closed
plain-closes sep draft bytes e = rw (e, append-nil draft.field) refl

pub quoted-closes : (sep : ℕ) (draft : Drafted) (bytes rest : List ℕ) → quoted bytes ≡ Some (record { value = []; rest = rest }) → from_quoted sep draft bytes ≡ from_closed sep draft rest
unfolding from_quoted from_closed
quoted-closes sep draft bytes rest e = rw (e, append-nil draft.field) refl

led-twice : (first : List ℕ) (byte : ℕ) (piece : Piece) → led_by first (led_by (byte ∷ []) piece) ≡ led_by (first ++ byte ∷ []) piece
led-twice first byte piece = ap (λ value. record { value = value; rest = piece.rest }) (sym (append_assoc first (byte ∷ []) piece.value))

led_if_any-twice : (first : List ℕ) (byte : ℕ) (x : Option Piece) → led_if_any first (led_if_any (byte ∷ []) x) ≡ led_if_any (first ++ byte ∷ []) x
led_if_any-twice first byte (Some piece) = ap Some (led-twice first byte piece)
led_if_any-twice first byte None = refl

led_if_any-nil : (x : Option Piece) → led_if_any [] x ≡ x
led_if_any-nil (Some piece) = refl
led_if_any-nil None = refl

pub plain-grows : (sep byte : ℕ) (draft new : Drafted) (more : List ℕ) → new.fields ≡ draft.fields → new.field ≡ draft.field ++ byte ∷ [] → plain sep (byte ∷ more) ≡ led_by (byte ∷ []) (plain sep more) → from_plain sep draft (byte ∷ more) ≡ from_plain sep new more
unfolding from_plain
plain-grows sep byte draft new more e f g = rw (g, e, f) (ap (λ piece. with_fields draft.fields (by_field (record_at sep) sep (Some piece))) (led-twice draft.field byte (plain sep more)))

pub quoted-grows : (sep byte : ℕ) (draft new : Drafted) (bytes more : List ℕ) → new.fields ≡ draft.fields → new.field ≡ draft.field ++ byte ∷ [] → quoted bytes ≡ led_if_any (byte ∷ []) (quoted more) → from_quoted sep draft bytes ≡ from_quoted sep new more
unfolding from_quoted
quoted-grows sep byte draft new bytes more e f g = rw (g, e, f) (ap (λ x. with_fields draft.fields (by_field (record_at sep) sep x)) (led_if_any-twice draft.field byte (quoted more)))

pub field-opens : (sep : ℕ) (draft : Drafted) (more : List ℕ) → draft.field ≡ [] → with_fields draft.fields (record_at sep (34 ∷ more)) ≡ from_quoted sep draft more
unfolding from_quoted
field-opens sep draft more e = ap (with_fields draft.fields) (record-field sep (34 ∷ more)) ∙ rw (field-quote sep more, e, led_if_any-nil (quoted more)) refl

pub field-plain : (sep byte : ℕ) (draft : Drafted) (more : List ℕ) → draft.field ≡ [] → byte ≢ 34 → with_fields draft.fields (record_at sep (byte ∷ more)) ≡ from_plain sep draft (byte ∷ more)
unfolding from_plain
field-plain sep byte draft more e h = ap (with_fields draft.fields) (record-field sep (byte ∷ more)) ∙ rw (field-other sep byte more h, e) refl

-- moves

keeps-moves : (sep : ℕ) (place next : Place) (old new : Drafted) (byte : ℕ) (result : Result Move CutFault) → FitsPlace next new → (new.fields ≡ old.fields → new.field ≡ old.field ++ byte ∷ [] → (more : List ℕ) → continued sep place old (byte ∷ more) ≡ continued sep next new more) → AddsByte next old byte result new → Moves sep place old byte result new
keeps-moves sep place next old new byte (Ok (To at)) fits step kept =
    let P : Place → Type 0 = λ p. GoesTo sep place old byte p new in
    subst P (sym kept.0) (record { fits = fits; same = step kept.1 kept.2 })
keeps-moves sep place next old new byte (Ok EndRecord) fits step kept = absurd kept
keeps-moves sep place next old new byte (Err BadQuote) fits step kept = absurd kept
keeps-moves sep place next old new byte (Err RecordTooLong) fits step kept = absurd kept
keeps-moves sep place next old new byte (Err OpenQuote) fits step kept = absurd kept
keeps-moves sep place next old new byte (Err Memory) fits step kept = tt

ends-moves : (sep : ℕ) (place : Place) (old new : Drafted) (byte : ℕ) (result : Result Move CutFault) → (new.fields ≡ old.fields ++ old.field ∷ [] → (more : List ℕ) → continued sep place old (byte ∷ more) ≡ with_fields new.fields (record_at sep more)) → EndsField old result new → Moves sep place old byte result new
ends-moves sep place old new byte (Ok (To at)) step ended =
    let P : Place → Type 0 = λ p. GoesTo sep place old byte p new in
    subst P (sym ended.0) (record { fits = ended.2; same = step ended.1 })
ends-moves sep place old new byte (Ok EndRecord) step ended = absurd ended
ends-moves sep place old new byte (Err BadQuote) step ended = absurd ended
ends-moves sep place old new byte (Err RecordTooLong) step ended = absurd ended
ends-moves sep place old new byte (Err OpenQuote) step ended = absurd ended
ends-moves sep place old new byte (Err Memory) step ended = tt

-- at each place

pub plain-at_sep : (sep byte : ℕ) (old new : Drafted) (result : Result Move CutFault) → byte ≡ sep → EndsField old result new → Moves sep Plain old byte result new
plain-at_sep sep byte old new result e = ends-moves sep Plain old new byte result (λ f more. rw e (plain-closes sep old (sep ∷ more) (plain-sep sep more) ∙ closed-sep sep old new more f))

pub plain-at_quote : (sep : ℕ) (old : Drafted) → IsTrue (is_separator sep) → (more : List ℕ) → continued sep Plain old (34 ∷ more) ≡ Bad (34 ∷ more)
plain-at_quote sep old is more = plain-closes sep old (34 ∷ more) (plain-quote sep more) ∙ closed-wrong sep old (34 ∷ more) (34 ∷ more) (after-other sep 34 more (other_byte sep 34 is refl) (λ e. cc) (λ e. cc))

pub plain-at_line_feed : (sep : ℕ) (old : Drafted) → IsTrue (is_separator sep) → (more : List ℕ) → continued sep Plain old (10 ∷ more) ≡ Whole (old.fields ++ old.field ∷ []) more
plain-at_line_feed sep old is more = plain-closes sep old (10 ∷ more) (plain-line_feed sep more) ∙ closed-line sep old (10 ∷ more) more (after-line_feed sep more (other_byte sep 10 is refl))

pub plain-at_other : (sep byte : ℕ) (old new : Drafted) (result : Result Move CutFault) → byte ≢ sep → byte ≢ 34 → byte ≢ 10 → byte ≢ 13 → AddsByte Plain old byte result new → Moves sep Plain old byte result new
plain-at_other sep byte old new result h q l k = keeps-moves sep Plain Plain old new byte result tt (λ e f more. plain-grows sep byte old new more e f (plain-other sep byte more h q l k))

pub plain_cr-at_line_feed : (sep : ℕ) (old : Drafted) → IsTrue (is_separator sep) → (more : List ℕ) → continued sep PlainCr old (10 ∷ more) ≡ Whole (old.fields ++ old.field ∷ []) more
plain_cr-at_line_feed sep old is more = plain-closes sep old (13 ∷ 10 ∷ more) (plain-line_break sep more) ∙ closed-line sep old (13 ∷ 10 ∷ more) more (after-line_break sep more (other_byte sep 13 is refl))

-- the carriage return is a byte of the field
pub plain_cr-goes : (sep byte : ℕ) (old kept : Drafted) (more : List ℕ) → IsTrue (is_separator sep) → byte ≢ 10 → kept.fields ≡ old.fields → kept.field ≡ old.field ++ 13 ∷ [] → continued sep PlainCr old (byte ∷ more) ≡ continued sep Plain kept (byte ∷ more)
plain_cr-goes sep byte old kept more is h e f = plain-grows sep 13 old kept (byte ∷ more) e f (plain-cr sep byte more (other_byte sep 13 is refl) h)

-- moves from a place at which the byte does the same
pub moves-from : (sep : ℕ) (place other : Place) (old kept new : Drafted) (byte : ℕ) (result : Result Move CutFault) → ((more : List ℕ) → continued sep place old (byte ∷ more) ≡ continued sep other kept (byte ∷ more)) → Moves sep other kept byte result new → Moves sep place old byte result new
moves-from sep place other old kept new byte (Ok (To next)) same moves = record { fits = moves.fits; same = λ more. same more ∙ moves.same more }
moves-from sep place other old kept new byte (Ok EndRecord) same moves = λ more. same more ∙ moves more
moves-from sep place other old kept new byte (Err BadQuote) same moves = λ more. same more ∙ moves more
moves-from sep place other old kept new byte (Err RecordTooLong) same moves = moves
moves-from sep place other old kept new byte (Err OpenQuote) same moves = moves
moves-from sep place other old kept new byte (Err Memory) same moves = moves

pub quoted-at_other : (sep byte : ℕ) (old new : Drafted) (result : Result Move CutFault) → byte ≢ 34 → AddsByte Quoted old byte result new → Moves sep Quoted old byte result new
quoted-at_other sep byte old new result h = keeps-moves sep Quoted Quoted old new byte result tt (λ e f more. quoted-grows sep byte old new (byte ∷ more) more e f (quoted-other byte more h))

pub quote-at_quote : (sep byte : ℕ) (old new : Drafted) (result : Result Move CutFault) → byte ≡ 34 → AddsByte Quoted old byte result new → Moves sep QuoteInQuoted old byte result new
quote-at_quote sep byte old new result is = keeps-moves sep QuoteInQuoted Quoted old new byte result tt (λ e f more. quoted-grows sep byte old new (34 ∷ byte ∷ more) more e f (rw is (quoted-two more)))

pub quote-closes : (sep byte : ℕ) (old : Drafted) (more : List ℕ) → byte ≢ 34 → continued sep QuoteInQuoted old (byte ∷ more) ≡ from_closed sep old (byte ∷ more)
quote-closes sep byte old more h = quoted-closes sep old (34 ∷ byte ∷ more) (byte ∷ more) (quoted-close byte more h)

pub quote-at_sep : (sep byte : ℕ) (old new : Drafted) (result : Result Move CutFault) → IsTrue (is_separator sep) → byte ≡ sep → EndsField old result new → Moves sep QuoteInQuoted old byte result new
quote-at_sep sep byte old new result is e = ends-moves sep QuoteInQuoted old new byte result (λ f more. rw e (quote-closes sep sep old more (λ g. other_byte sep 34 is refl (sym g)) ∙ closed-sep sep old new more f))

pub quote-at_line_feed : (sep : ℕ) (old : Drafted) → IsTrue (is_separator sep) → (more : List ℕ) → continued sep QuoteInQuoted old (10 ∷ more) ≡ Whole (old.fields ++ old.field ∷ []) more
quote-at_line_feed sep old is more = quote-closes sep 10 old more (λ e. cc) ∙ closed-line sep old (10 ∷ more) more (after-line_feed sep more (other_byte sep 10 is refl))

pub quote-at_cr : (sep : ℕ) (old : Drafted) (more : List ℕ) → continued sep QuoteInQuoted old (13 ∷ more) ≡ continued sep ClosedCr old more
quote-at_cr sep old more = quote-closes sep 13 old more (λ e. cc)

pub quote-at_other : (sep byte : ℕ) (old : Drafted) (more : List ℕ) → byte ≢ sep → byte ≢ 34 → byte ≢ 10 → byte ≢ 13 → continued sep QuoteInQuoted old (byte ∷ more) ≡ Bad (byte ∷ more)
quote-at_other sep byte old more h q l k = quote-closes sep byte old more q ∙ closed-wrong sep old (byte ∷ more) (byte ∷ more) (after-other sep byte more h l k)

pub closed_cr-at_line_feed : (sep : ℕ) (old : Drafted) → IsTrue (is_separator sep) → (more : List ℕ) → continued sep ClosedCr old (10 ∷ more) ≡ Whole (old.fields ++ old.field ∷ []) more
closed_cr-at_line_feed sep old is more = closed-line sep old (13 ∷ 10 ∷ more) more (after-line_break sep more (other_byte sep 13 is refl))

pub closed_cr-at_other : (sep byte : ℕ) (old : Drafted) (more : List ℕ) → IsTrue (is_separator sep) → byte ≢ 10 → continued sep ClosedCr old (byte ∷ more) ≡ Bad (byte ∷ more)
closed_cr-at_other sep byte old more is h = closed-wrong sep old (13 ∷ byte ∷ more) (byte ∷ more) (after-cr sep byte more (other_byte sep 13 is refl) h)
