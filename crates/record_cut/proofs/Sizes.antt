-- A record has a field, and no more bytes than a record may have.
use Rattle.std.proofs.Common.{◌≡◌, ℕ, zero, suc, ◌+◌, ◌-◌, ◌<◌, ◌≤◌, ◌==◌, nat_lt, Bool, true, false, cond, List, [], ◌∷◌, length, Option, Some, None, refl, arith, ltb-false}
use Rattle.std.specs.List.{AllByRecursion}
use Rattle.words.proofs.Lists.{all_append}
use Rattle.record_cut.specs.Bytes.{quote, after_line_break}
use Rattle.record_cut.specs.Field.{Piece, led_by, led_if_any, quoted, ends_plain, plain, field_at, After, Next, Line, End, LastCr, Wrong, after_field}
use Rattle.record_cut.specs.Record.{Unended, Nothing, Fields, OpenField, CrAfterQuote, RecordAt, Whole, Bad, Ends, with_fields, by_what_follows, by_field, record_within, record_at}
use Rattle.record_cut.specs.Records.{Rest, Cut, with_records, only, too_long, by_record, by_line_break, records_within, records_from, without_mark, text_from, records}
use Rattle.record_cut.specs.Ended.{last_record, ended}
use Rattle.record_cut.specs.Sizes.{size_of_fields, IsSmall}
use Rattle.record_cut.specs.declared.cutter.TheConstants.{LONGEST}
use Rattle.record_cut.proofs.Within.{AfterWithin, after-within}

-- a field and what follows it have no more bytes than this
abbrev PieceFits : ℕ → Option Piece → Type 0
PieceFits size (Some piece) = length piece.value + length piece.rest ≤ size
PieceFits size None = Unit {0}

fits-if : (size : ℕ) (b : Bool) (x y : Option Piece) → PieceFits size x → PieceFits size y → PieceFits size (cond b x y)
fits-if size true x y p q = p
fits-if size false x y p q = q

fits-led : (size more byte : ℕ) (x : Option Piece) → suc size ≤ more → PieceFits size x → PieceFits more (led_if_any (byte ∷ []) x)
fits-led size more byte (Some piece) h p = omega arith
fits-led size more byte None h p = tt

fits-more : (size more : ℕ) (x : Option Piece) → size ≤ more → PieceFits size x → PieceFits more x
fits-more size more (Some piece) h p = omega arith
fits-more size more None h p = tt

plain-if : (size : ℕ) (b : Bool) (x y : Piece) → length x.value + length x.rest ≤ size → length y.value + length y.rest ≤ size → length (cond b x y).value + length (cond b x y).rest ≤ size
plain-if size true x y p q = p
plain-if size false x y p q = q

plain-fits : (sep : ℕ) (bytes : List ℕ) → length (plain sep bytes).value + length (plain sep bytes).rest ≤ length bytes
unfolding plain
plain-fits sep [] = omega arith
plain-fits sep (byte ∷ rest) = plain-if (length (byte ∷ rest)) (ends_plain sep (byte ∷ rest)) (record { value = []; rest = byte ∷ rest }) (led_by (byte ∷ []) (plain sep rest)) (omega arith) (omega (arith, plain-fits sep rest))

quoted-fits : (bytes : List ℕ) → PieceFits (length bytes) (quoted bytes)
unfolding quoted
quoted-fits [] = tt
quoted-fits (byte ∷ []) = fits-if 1 (byte == quote) (Some (record { value = []; rest = [] })) None (omega arith) tt
quoted-fits (byte ∷ next ∷ rest) =
    let size = length (byte ∷ next ∷ rest) in
    fits-if size (byte == quote) (cond (next == quote) (led_if_any (quote ∷ []) (quoted rest)) (Some (record { value = []; rest = next ∷ rest }))) (led_if_any (byte ∷ []) (quoted (next ∷ rest)))
    (fits-if size (next == quote) (led_if_any (quote ∷ []) (quoted rest)) (Some (record { value = []; rest = next ∷ rest })) (fits-led (length rest) size quote (quoted rest) (omega arith) (quoted-fits rest)) (omega arith))
    (fits-led (length (next ∷ rest)) size byte (quoted (next ∷ rest)) (omega arith) (quoted-fits (next ∷ rest)))

field-fits : (sep : ℕ) (bytes : List ℕ) → PieceFits (length bytes) (field_at sep bytes)
unfolding field_at
field-fits sep [] = plain-fits sep []
field-fits sep (byte ∷ rest) = fits-if (length (byte ∷ rest)) (byte == quote) (quoted rest) (Some (plain sep (byte ∷ rest))) (fits-more (length rest) (length (byte ∷ rest)) (quoted rest) (omega arith) (quoted-fits rest)) (plain-fits sep (byte ∷ rest))

-- a record has a field, and with what follows it no more bytes than this
abbrev LeftFits : ℕ → Unended → Type 0
LeftFits size Nothing = Unit {0}
LeftFits size (Fields fields) = (0 < length fields) × (size_of_fields fields ≤ suc size)
LeftFits size OpenField = Unit {0}
LeftFits size CrAfterQuote = Unit {0}

abbrev RecordFits : ℕ → RecordAt → Type 0
RecordFits size (Whole fields rest) = (0 < length fields) × (size_of_fields fields + length rest ≤ size)
RecordFits size (Bad from) = Unit {0}
RecordFits size (Ends unended) = LeftFits size unended

fits-first : (size more : ℕ) (value : List ℕ) (x : RecordAt) → suc (length value) + size ≤ more → RecordFits size x → RecordFits more (with_fields (value ∷ []) x)
fits-first size more value (Whole fields rest) h p = (omega arith, omega (arith, p.1))
fits-first size more value (Bad from) h p = tt
fits-first size more value (Ends Nothing) h p = tt
fits-first size more value (Ends (Fields fields)) h p = (omega arith, omega (arith, p.1))
fits-first size more value (Ends OpenField) h p = tt
fits-first size more value (Ends CrAfterQuote) h p = tt

follows-fits : (size left : ℕ) (more : List ℕ → RecordAt) (value : List ℕ) (x : After) → ((rest : List ℕ) → RecordFits (length rest) (more rest)) → length value + left ≤ size → AfterWithin left x → RecordFits size (by_what_follows more value x)
follows-fits size left more value (Next rest) fits h p = fits-first (length rest) size value (more rest) (omega (arith, p)) (fits rest)
follows-fits size left more value (Line rest) fits h p = (omega arith, omega (arith, p))
follows-fits size left more value End fits h p = (omega arith, omega arith)
follows-fits size left more value LastCr fits h p = tt
follows-fits size left more value (Wrong from) fits h p = tt

by_field-fits : (size : ℕ) (more : List ℕ → RecordAt) (sep : ℕ) (x : Option Piece) → ((rest : List ℕ) → RecordFits (length rest) (more rest)) → PieceFits size x → RecordFits size (by_field more sep x)
by_field-fits size more sep (Some piece) fits p = follows-fits size (length piece.rest) more piece.value (after_field sep piece.rest) fits p (after-within sep piece.rest)
by_field-fits size more sep None fits p = tt

record_within-fits : (most sep : ℕ) (bytes : List ℕ) → RecordFits (length bytes) (record_within most sep bytes)
unfolding record_within
record_within-fits zero sep bytes = tt
record_within-fits (suc most) sep bytes = by_field-fits (length bytes) (record_within most sep) sep (field_at sep bytes) (record_within-fits most sep) (field-fits sep bytes)

record-fits : (sep : ℕ) (bytes : List ℕ) → RecordFits (length bytes) (record_at sep bytes)
unfolding record_at
record-fits sep bytes = record_within-fits (suc (length bytes)) sep bytes

-- the records are small, and so is the one that the end of the text ends
abbrev IsSmallCut : Cut → Type 0
IsSmallCut cut = AllByRecursion IsSmall cut.records × AllByRecursion IsSmall (last_record cut.onward)

small-if : (b : Bool) (x y : Cut) → IsSmallCut x → (b ≡ false → IsSmallCut y) → IsSmallCut (cond b x y)
small-if true x y p q = p
small-if false x y p q = q refl

bad-if : (b : Bool) (x y : Cut) → IsSmallCut x → IsSmallCut y → IsSmallCut (cond b x y)
bad-if true x y p q = p
bad-if false x y p q = q

small-left : (size : ℕ) (unended : Unended) → size ≤ LONGEST → LeftFits size unended → AllByRecursion IsSmall (last_record (Rest unended))
small-left size Nothing h p = tt
small-left size (Fields fields) h p = (record { some = p.0; short = omega (arith, p.1) }, tt)
small-left size OpenField h p = tt
small-left size CrAfterQuote h p = tt

by_record-small : (more : List ℕ → Cut) (all size : ℕ) (x : RecordAt) → ((rest : List ℕ) → IsSmallCut (more rest)) → RecordFits size x → IsSmallCut (by_record more all size x)
by_record-small more all size (Whole fields rest) small p =
    small-if (nat_lt LONGEST (size - length rest)) (too_long all size) (with_records (fields ∷ []) (more rest)) (tt, tt)
    (λ short. ((record { some = p.0; short = omega (arith, p.1, ltb-false LONGEST (size - length rest) short) }, (small rest).0), (small rest).1))
by_record-small more all size (Bad from) small p = bad-if (nat_lt (size - length from) LONGEST) _ (too_long all size) (tt, tt) (tt, tt)
by_record-small more all size (Ends unended) small p =
    small-if (nat_lt LONGEST size) (too_long all size) (only (Rest unended)) (tt, tt) (λ short. (tt, small-left size unended (ltb-false LONGEST size short) p))

by_line_break-small : (more : List ℕ → Cut) (other : Cut) (x : Option (List ℕ)) → ((rest : List ℕ) → IsSmallCut (more rest)) → IsSmallCut other → IsSmallCut (by_line_break more other x)
by_line_break-small more other (Some rest) small p = small rest
by_line_break-small more other None small p = p

records_within-small : (most sep all : ℕ) (bytes : List ℕ) → IsSmallCut (records_within most sep all bytes)
unfolding records_within
records_within-small zero sep all bytes = (tt, tt)
records_within-small (suc most) sep all [] = (tt, tt)
records_within-small (suc most) sep all (byte ∷ rest) =
    by_line_break-small (records_within most sep all) _ (after_line_break (byte ∷ rest)) (records_within-small most sep all)
    (by_record-small (records_within most sep all) all (length (byte ∷ rest)) (record_at sep (byte ∷ rest)) (records_within-small most sep all) (record-fits sep (byte ∷ rest)))

records-small : (sep : ℕ) (bytes : List ℕ) → IsSmallCut (records sep bytes)
unfolding records_from text_from records
records-small sep bytes = records_within-small (suc (length (without_mark bytes))) sep (length bytes) (without_mark bytes)

pub ended-small : (sep : ℕ) (bytes : List ℕ) → AllByRecursion IsSmall (ended sep bytes).records
ended-small sep bytes =
    let small = records-small sep bytes in
    all_append IsSmall (records sep bytes).records (last_record (records sep bytes).onward) small.0 small.1
