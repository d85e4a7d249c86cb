-- From the bytes of a record to the records of the text.
use Rattle.std.proofs.Common.{◌≡◌, inl, inr, ℕ, ◌+◌, ◌-◌, ◌<◌, nat_lt, true, false, IsTrue, List, [], ◌∷◌, ◌++◌, length, Option, Some, None, refl, sym, ap, subst, arith, append_assoc, le-ltb, lt-ltb}
use Rattle.std.proofs.lemmas.Bool.Decides.{eqb_tells}
use Rattle.words.specs.Separators.{is_separator}
use Rattle.record_cut.specs.Drafted.{Drafted}
use Rattle.record_cut.specs.Field.{Piece, led_by, led_if_any, quoted, plain, after_field}
use Rattle.record_cut.specs.Record.{RecordAt, Whole, Bad, Ends, by_what_follows, by_field, record_at}
use Rattle.record_cut.specs.Records.{Cut, Fault, with_records, only, by_record}
use Rattle.record_cut.specs.Resumed.{continued, from_plain, from_quoted, from_closed}
use Rattle.record_cut.specs.declared.fault.CutFault.TheVariants.{BadQuote, RecordTooLong}
use Rattle.record_cut.specs.declared.phase.Place.{Place}
use Rattle.record_cut.specs.declared.phase.Place.TheVariants.{Field, Plain, PlainCr, Quoted, QuoteInQuoted, ClosedCr}
use Rattle.record_cut.proofs.Grammar.{quoted-two}
use Rattle.record_cut.proofs.Within.{RecordWithin, RecordWithin-with, PieceWithin, PieceWithin-more, GoesWithin, record-within, by_field-within, follows-within, plain-within, quoted-within, after-within}
use Rattle.record_cut.proofs.Steps.{plain_cr-at_line_feed, plain_cr-goes, quote-closes, closed_cr-at_line_feed, closed_cr-at_other}

pub with_no_records : (cut : Cut) → with_records [] cut ≡ cut
with_no_records cut = refl

pub with_records-twice : (first second : List (List (List ℕ))) (cut : Cut) → with_records first (with_records second cut) ≡ with_records (first ++ second) cut
with_records-twice first second cut = ap (λ records. record { records = records; onward = cut.onward }) (sym (append_assoc first second cut.records))

-- a record that ends, is wrong or goes on at the byte after the first `count`

pub by_whole : (more : List ℕ → Cut) (all count byte : ℕ) (rest : List ℕ) (fields : List (List ℕ)) → count < 65536 → by_record more all (count + length (byte ∷ rest)) (Whole fields rest) ≡ with_records (fields ∷ []) (more rest)
by_whole more all count byte rest fields h =
    let short : nat_lt 65536 (count + length (byte ∷ rest) - length rest) ≡ false = le-ltb 65536 (count + length (byte ∷ rest) - length rest) (omega arith) in
    rw short refl

pub by_bad : (more : List ℕ → Cut) (all count byte : ℕ) (rest : List ℕ) → count < 65536 → by_record more all (count + length (byte ∷ rest)) (Bad (byte ∷ rest)) ≡ only (Fault BadQuote (all - length (byte ∷ rest)))
by_bad more all count byte rest h =
    let before : nat_lt (count + length (byte ∷ rest) - length (byte ∷ rest)) 65536 ≡ true = lt-ltb (count + length (byte ∷ rest) - length (byte ∷ rest)) 65536 (omega arith) in
    rw before refl

-- the 65,537th byte of a record, from which on so many are left
pub by_long : (more : List ℕ → Cut) (all size left : ℕ) (x : RecordAt) → size ≡ 65536 + left → 0 < left → RecordWithin left x → by_record more all size x ≡ only (Fault RecordTooLong (all - left))
by_long more all size left (Whole fields rest) e some h =
    let long : nat_lt 65536 (size - length rest) ≡ true = lt-ltb 65536 (size - length rest) (omega arith) in
    let at : size - 65536 ≡ left = omega arith in
    rw long (ap (λ n. only (Fault RecordTooLong (all - n))) at)
by_long more all size left (Bad from) e some h =
    let long : nat_lt (size - length from) 65536 ≡ false = le-ltb (size - length from) 65536 (omega arith) in
    let at : size - 65536 ≡ left = omega arith in
    rw long (ap (λ n. only (Fault RecordTooLong (all - n))) at)
by_long more all size left (Ends unended) e some h =
    let long : nat_lt 65536 size ≡ true = lt-ltb 65536 size (omega arith) in
    let at : size - 65536 ≡ left = omega arith in
    rw long (ap (λ n. only (Fault RecordTooLong (all - n))) at)

-- what the bytes that are left make of a record

goes-within : (size sep : ℕ) → GoesWithin size (record_at sep)
goes-within size sep = λ rest h. record-within sep rest

plain-left : (sep : ℕ) (draft : Drafted) (left : List ℕ) → RecordWithin (length left) (from_plain sep draft left)
unfolding from_plain
plain-left sep draft left = RecordWithin-with (length left) (length left) draft.fields (by_field (record_at sep) sep (Some (led_by draft.field (plain sep left)))) (omega arith) (by_field-within (length left) (record_at sep) sep (Some (led_by draft.field (plain sep left))) (goes-within (length left) sep) (plain-within sep left))

led-within : (size : ℕ) (bytes : List ℕ) (x : Option Piece) → PieceWithin size x → PieceWithin size (led_if_any bytes x)
led-within size bytes (Some piece) p = p
led-within size bytes None p = tt

quoted-left : (sep : ℕ) (draft : Drafted) (bytes : List ℕ) (size : ℕ) → PieceWithin size (quoted bytes) → RecordWithin size (from_quoted sep draft bytes)
unfolding from_quoted
quoted-left sep draft bytes size p = RecordWithin-with size size draft.fields (by_field (record_at sep) sep (led_if_any draft.field (quoted bytes))) (omega arith) (by_field-within size (record_at sep) sep (led_if_any draft.field (quoted bytes)) (goes-within size sep) (led-within size draft.field (quoted bytes) p))

closed-left : (sep : ℕ) (draft : Drafted) (left : List ℕ) → RecordWithin (length left) (from_closed sep draft left)
unfolding from_closed
closed-left sep draft left = RecordWithin-with (length left) (length left) draft.fields (by_what_follows (record_at sep) draft.field (after_field sep left)) (omega arith) (follows-within (length left) (record_at sep) draft.field (after_field sep left) (goes-within (length left) sep) (after-within sep left))

two-quotes : (byte : ℕ) (more : List ℕ) → byte ≡ 34 → PieceWithin (length (byte ∷ more)) (quoted (34 ∷ byte ∷ more))
two-quotes byte more e = rw (e, quoted-two more) (led-within (length (34 ∷ more)) (34 ∷ []) (quoted more) (PieceWithin-more (length more) (length (34 ∷ more)) (quoted more) (omega arith) (quoted-within more)))

pub bytes-left : (sep byte : ℕ) (place : Place) (draft : Drafted) (more : List ℕ) → IsTrue (is_separator sep) → RecordWithin (length (byte ∷ more)) (continued sep place draft (byte ∷ more))
bytes-left sep byte Field draft more is = RecordWithin-with (length (byte ∷ more)) (length (byte ∷ more)) draft.fields (record_at sep (byte ∷ more)) (omega arith) (record-within sep (byte ∷ more))
bytes-left sep byte Plain draft more is = plain-left sep draft (byte ∷ more)
bytes-left sep byte PlainCr draft more is =
    let kept : Drafted = record { fields = draft.fields; field = draft.field ++ 13 ∷ [] } in
    elim (eqb_tells byte 10) [
      | inl is_so ↦ rw is_so.1 (subst (RecordWithin (length (10 ∷ more))) (sym (plain_cr-at_line_feed sep draft is more)) (omega arith))
      | inr is_not ↦ subst (RecordWithin (length (byte ∷ more))) (sym (plain_cr-goes sep byte draft kept more is is_not.1 refl refl)) (plain-left sep kept (byte ∷ more))
    ]
bytes-left sep byte Quoted draft more is = quoted-left sep draft (byte ∷ more) (length (byte ∷ more)) (quoted-within (byte ∷ more))
bytes-left sep byte QuoteInQuoted draft more is =
    elim (eqb_tells byte 34) [
      | inl is_so ↦ quoted-left sep draft (34 ∷ byte ∷ more) (length (byte ∷ more)) (two-quotes byte more is_so.1)
      | inr is_not ↦ subst (RecordWithin (length (byte ∷ more))) (sym (quote-closes sep byte draft more is_not.1)) (closed-left sep draft (byte ∷ more))
    ]
bytes-left sep byte ClosedCr draft more is =
    elim (eqb_tells byte 10) [
      | inl is_so ↦ rw is_so.1 (subst (RecordWithin (length (10 ∷ more))) (sym (closed_cr-at_line_feed sep draft is more)) (omega arith))
      | inr is_not ↦ subst (RecordWithin (length (byte ∷ more))) (sym (closed_cr-at_other sep byte draft more is is_not.1)) (omega arith)
    ]
