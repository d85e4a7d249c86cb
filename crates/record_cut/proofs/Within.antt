-- How far each part of a record goes, and that the bounds on its recursion are enough.
use Rattle.std.proofs.Common.{◌≡◌, ℕ, zero, suc, ◌<◌, ◌≤◌, ◌==◌, Bool, true, false, cond, List, [], ◌∷◌, length, Option, Some, None, refl, ap, arith}
use Rattle.record_cut.specs.Bytes.{quote, line_feed, carriage_return, after_line_feed, after_line_break}
use Rattle.record_cut.specs.Field.{Piece, led_by, led_if_any, quoted, ends_plain, plain, field_at, After, Next, Line, End, LastCr, Wrong, after_cr, after_no_break, or_break, after_field}
use Rattle.record_cut.specs.Record.{Nothing, RecordAt, Whole, Bad, Ends, with_fields, by_what_follows, by_field, record_within, record_at}
use Rattle.record_cut.specs.Records.{Cut, Rest, only, by_record, by_line_break, records_within, records_from}

-- what follows a line break is shorter than this
abbrev pub BreakWithin : ℕ → Option (List ℕ) → Type 0
BreakWithin size (Some rest) = length rest < size
BreakWithin size None = Unit {0}

abbrev pub PieceWithin : ℕ → Option Piece → Type 0
PieceWithin size (Some piece) = length piece.rest ≤ size
PieceWithin size None = Unit {0}

abbrev pub AfterWithin : ℕ → After → Type 0
AfterWithin size (Next rest) = length rest < size
AfterWithin size (Line rest) = length rest < size
AfterWithin size End = Unit {0}
AfterWithin size LastCr = Unit {0}
AfterWithin size (Wrong from) = length from ≤ size

abbrev pub RecordWithin : ℕ → RecordAt → Type 0
RecordWithin size (Whole fields rest) = length rest < size
RecordWithin size (Bad from) = length from ≤ size
RecordWithin size (Ends unended) = Unit {0}

BreakWithin-if : (size : ℕ) (b : Bool) (x y : Option (List ℕ)) → BreakWithin size x → BreakWithin size y → BreakWithin size (cond b x y)
BreakWithin-if size true x y p q = p
BreakWithin-if size false x y p q = q

BreakWithin-more : (size more : ℕ) (x : Option (List ℕ)) → size ≤ more → BreakWithin size x → BreakWithin more x
BreakWithin-more size more (Some rest) h p = omega arith
BreakWithin-more size more None h p = tt

line_feed-within : (bytes : List ℕ) → BreakWithin (length bytes) (after_line_feed bytes)
line_feed-within [] = tt
line_feed-within (byte ∷ rest) = BreakWithin-if (length (byte ∷ rest)) (byte == line_feed) (Some rest) None (omega arith) tt

pub line_break-within : (bytes : List ℕ) → BreakWithin (length bytes) (after_line_break bytes)
line_break-within [] = tt
line_break-within (byte ∷ rest) = BreakWithin-if (length (byte ∷ rest)) (byte == carriage_return) (after_line_feed rest) (after_line_feed (byte ∷ rest)) (BreakWithin-more (length rest) (length (byte ∷ rest)) (after_line_feed rest) (omega arith) (line_feed-within rest)) (line_feed-within (byte ∷ rest))

AfterWithin-if : (size : ℕ) (b : Bool) (x y : After) → AfterWithin size x → AfterWithin size y → AfterWithin size (cond b x y)
AfterWithin-if size true x y p q = p
AfterWithin-if size false x y p q = q

AfterWithin-or : (size : ℕ) (x : After) (y : Option (List ℕ)) → AfterWithin size x → BreakWithin size y → AfterWithin size (or_break x y)
AfterWithin-or size x (Some rest) p q = q
AfterWithin-or size x None p q = p

after_cr-within : (bytes : List ℕ) (size : ℕ) → length bytes ≤ size → AfterWithin size (after_cr bytes)
after_cr-within [] size h = tt
after_cr-within (byte ∷ rest) size h = h

pub after-within : (sep : ℕ) (bytes : List ℕ) → AfterWithin (length bytes) (after_field sep bytes)
unfolding after_field
after-within sep [] = tt
after-within sep (byte ∷ rest) = AfterWithin-if (length (byte ∷ rest)) (byte == sep) (Next rest) (or_break (after_no_break (byte ∷ rest)) (after_line_break (byte ∷ rest))) (omega arith) (AfterWithin-or (length (byte ∷ rest)) (after_no_break (byte ∷ rest)) (after_line_break (byte ∷ rest)) (AfterWithin-if (length (byte ∷ rest)) (byte == carriage_return) (after_cr rest) (Wrong (byte ∷ rest)) (after_cr-within rest (length (byte ∷ rest)) (omega arith)) (omega arith)) (line_break-within (byte ∷ rest)))

plain-if : (size : ℕ) (b : Bool) (x y : Piece) → length x.rest ≤ size → length y.rest ≤ size → length ((cond b x y).rest) ≤ size
plain-if size true x y p q = p
plain-if size false x y p q = q

pub plain-within : (sep : ℕ) (bytes : List ℕ) → length ((plain sep bytes).rest) ≤ length bytes
unfolding plain
plain-within sep [] = omega arith
plain-within sep (byte ∷ rest) = plain-if (length (byte ∷ rest)) (ends_plain sep (byte ∷ rest)) (record { value = []; rest = byte ∷ rest }) (led_by (byte ∷ []) (plain sep rest)) (omega arith) (omega (arith, plain-within sep rest))

PieceWithin-if : (size : ℕ) (b : Bool) (x y : Option Piece) → PieceWithin size x → PieceWithin size y → PieceWithin size (cond b x y)
PieceWithin-if size true x y p q = p
PieceWithin-if size false x y p q = q

PieceWithin-led : (size more : ℕ) (bytes : List ℕ) (x : Option Piece) → size ≤ more → PieceWithin size x → PieceWithin more (led_if_any bytes x)
PieceWithin-led size more bytes (Some piece) h p = omega arith
PieceWithin-led size more bytes None h p = tt

pub quoted-within : (bytes : List ℕ) → PieceWithin (length bytes) (quoted bytes)
unfolding quoted
quoted-within [] = tt
quoted-within (byte ∷ []) = PieceWithin-if 1 (byte == quote) (Some (record { value = []; rest = [] })) None (omega arith) tt
quoted-within (byte ∷ next ∷ rest) =
    PieceWithin-if (length (byte ∷ next ∷ rest)) (byte == quote) (cond (next == quote) (led_if_any (quote ∷ []) (quoted rest)) (Some (record { value = []; rest = next ∷ rest }))) (led_if_any (byte ∷ []) (quoted (next ∷ rest)))
    (PieceWithin-if (length (byte ∷ next ∷ rest)) (next == quote) (led_if_any (quote ∷ []) (quoted rest)) (Some (record { value = []; rest = next ∷ rest })) (PieceWithin-led (length rest) (length (byte ∷ next ∷ rest)) (quote ∷ []) (quoted rest) (omega arith) (quoted-within rest)) (omega arith))
    (PieceWithin-led (length (next ∷ rest)) (length (byte ∷ next ∷ rest)) (byte ∷ []) (quoted (next ∷ rest)) (omega arith) (quoted-within (next ∷ rest)))

pub PieceWithin-more : (size more : ℕ) (x : Option Piece) → size ≤ more → PieceWithin size x → PieceWithin more x
PieceWithin-more size more (Some piece) h p = omega arith
PieceWithin-more size more None h p = tt

pub field-within : (sep : ℕ) (bytes : List ℕ) → PieceWithin (length bytes) (field_at sep bytes)
unfolding field_at
field-within sep [] = plain-within sep []
field-within sep (byte ∷ rest) = PieceWithin-if (length (byte ∷ rest)) (byte == quote) (quoted rest) (Some (plain sep (byte ∷ rest))) (PieceWithin-more (length rest) (length (byte ∷ rest)) (quoted rest) (omega arith) (quoted-within rest)) (plain-within sep (byte ∷ rest))

pub RecordWithin-with : (size more : ℕ) (first : List (List ℕ)) (x : RecordAt) → size ≤ more → RecordWithin size x → RecordWithin more (with_fields first x)
RecordWithin-with size more first (Whole fields rest) h p = omega arith
RecordWithin-with size more first (Bad from) h p = omega arith
RecordWithin-with size more first (Ends unended) h p = tt

-- the rest of a record goes no further than its bytes
abbrev pub GoesWithin : ℕ → (List ℕ → RecordAt) → Type 0
GoesWithin size more = (rest : List ℕ) → length rest < size → RecordWithin (length rest) (more rest)

pub follows-within : (size : ℕ) (more : List ℕ → RecordAt) (value : List ℕ) (x : After) → GoesWithin size more → AfterWithin size x → RecordWithin size (by_what_follows more value x)
follows-within size more value (Next rest) g p = RecordWithin-with (length rest) size (value ∷ []) (more rest) (omega arith) (g rest p)
follows-within size more value (Line rest) g p = p
follows-within size more value End g p = tt
follows-within size more value LastCr g p = tt
follows-within size more value (Wrong from) g p = p

AfterWithin-more : (size more : ℕ) (x : After) → size ≤ more → AfterWithin size x → AfterWithin more x
AfterWithin-more size more (Next rest) h p = omega arith
AfterWithin-more size more (Line rest) h p = omega arith
AfterWithin-more size more End h p = tt
AfterWithin-more size more LastCr h p = tt
AfterWithin-more size more (Wrong from) h p = omega arith

pub by_field-within : (size : ℕ) (more : List ℕ → RecordAt) (sep : ℕ) (x : Option Piece) → GoesWithin size more → PieceWithin size x → RecordWithin size (by_field more sep x)
by_field-within size more sep (Some piece) g p = follows-within size more piece.value (after_field sep piece.rest) g (AfterWithin-more (length piece.rest) size (after_field sep piece.rest) p (after-within sep piece.rest))
by_field-within size more sep None g p = tt

pub record_within-within : (most sep : ℕ) (bytes : List ℕ) → RecordWithin (length bytes) (record_within most sep bytes)
unfolding record_within
record_within-within zero sep bytes = tt
record_within-within (suc most) sep bytes = by_field-within (length bytes) (record_within most sep) sep (field_at sep bytes) (λ rest h. record_within-within most sep rest) (field-within sep bytes)

pub record-within : (sep : ℕ) (bytes : List ℕ) → RecordWithin (length bytes) (record_at sep bytes)
unfolding record_at
record-within sep bytes = record_within-within (suc (length bytes)) sep bytes

-- two ways on that agree on what is shorter
abbrev pub Agrees : ℕ → (List ℕ → RecordAt) → (List ℕ → RecordAt) → Type 0
Agrees size f g = (rest : List ℕ) → length rest < size → f rest ≡ g rest

follows-agree : (size : ℕ) (f g : List ℕ → RecordAt) (value : List ℕ) (x : After) → Agrees size f g → AfterWithin size x → by_what_follows f value x ≡ by_what_follows g value x
follows-agree size f g value (Next rest) a p = ap (with_fields (value ∷ [])) (a rest p)
follows-agree size f g value (Line rest) a p = refl
follows-agree size f g value End a p = refl
follows-agree size f g value LastCr a p = refl
follows-agree size f g value (Wrong from) a p = refl

by_field-agree : (size : ℕ) (f g : List ℕ → RecordAt) (sep : ℕ) (x : Option Piece) → Agrees size f g → PieceWithin size x → by_field f sep x ≡ by_field g sep x
by_field-agree size f g sep (Some piece) a p = follows-agree size f g piece.value (after_field sep piece.rest) a (AfterWithin-more (length piece.rest) size (after_field sep piece.rest) p (after-within sep piece.rest))
by_field-agree size f g sep None a p = refl

-- one field more than bytes is enough
pub record_within-enough : (most some sep : ℕ) (bytes : List ℕ) → length bytes < most → length bytes < some → record_within most sep bytes ≡ record_within some sep bytes
unfolding record_within
record_within-enough zero some sep bytes h k = absurd (omega arith)
record_within-enough (suc most) zero sep bytes h k = absurd (omega arith)
record_within-enough (suc most) (suc some) sep bytes h k = by_field-agree (length bytes) (record_within most sep) (record_within some sep) sep (field_at sep bytes) (λ rest l. record_within-enough most some sep rest (omega arith) (omega arith)) (field-within sep bytes)

pub record-field : (sep : ℕ) (bytes : List ℕ) → record_at sep bytes ≡ by_field (record_at sep) sep (field_at sep bytes)
unfolding record_at record_within
record-field sep bytes = by_field-agree (length bytes) (record_within (length bytes) sep) (record_at sep) sep (field_at sep bytes) (λ rest l. record_within-enough (length bytes) (suc (length rest)) sep rest l (omega arith)) (field-within sep bytes)

abbrev pub CutsAgree : ℕ → (List ℕ → Cut) → (List ℕ → Cut) → Type 0
CutsAgree size f g = (rest : List ℕ) → length rest < size → f rest ≡ g rest

by_record-agree : (bytes : ℕ) (f g : List ℕ → Cut) (all size : ℕ) (x : RecordAt) → CutsAgree bytes f g → RecordWithin bytes x → by_record f all size x ≡ by_record g all size x
by_record-agree bytes f g all size (Whole fields rest) a p = rw (a rest p) refl
by_record-agree bytes f g all size (Bad from) a p = refl
by_record-agree bytes f g all size (Ends unended) a p = refl

by_line_break-agree : (bytes : ℕ) (f g : List ℕ → Cut) (other same : Cut) (x : Option (List ℕ)) → CutsAgree bytes f g → other ≡ same → BreakWithin bytes x → by_line_break f other x ≡ by_line_break g same x
by_line_break-agree bytes f g other same (Some rest) a e p = a rest p
by_line_break-agree bytes f g other same None a e p = e

lines-agree : (f g : List ℕ → Cut) (sep all byte : ℕ) (rest : List ℕ) → CutsAgree (length (byte ∷ rest)) f g → by_line_break f (by_record f all (length (byte ∷ rest)) (record_at sep (byte ∷ rest))) (after_line_break (byte ∷ rest)) ≡ by_line_break g (by_record g all (length (byte ∷ rest)) (record_at sep (byte ∷ rest))) (after_line_break (byte ∷ rest))
lines-agree f g sep all byte rest a = by_line_break-agree (length (byte ∷ rest)) f g _ _ (after_line_break (byte ∷ rest)) a (by_record-agree (length (byte ∷ rest)) f g all (length (byte ∷ rest)) (record_at sep (byte ∷ rest)) a (record-within sep (byte ∷ rest))) (line_break-within (byte ∷ rest))

-- one line more than bytes is enough
pub records_within-enough : (most some sep all : ℕ) (bytes : List ℕ) → length bytes < most → length bytes < some → records_within most sep all bytes ≡ records_within some sep all bytes
unfolding records_within
records_within-enough zero some sep all bytes h k = absurd (omega arith)
records_within-enough (suc most) zero sep all bytes h k = absurd (omega arith)
records_within-enough (suc most) (suc some) sep all [] h k = refl
records_within-enough (suc most) (suc some) sep all (byte ∷ rest) h k = lines-agree (records_within most sep all) (records_within some sep all) sep all byte rest (λ r l. records_within-enough most some sep all r (omega arith) (omega arith))

pub records-nil : (sep all : ℕ) → records_from sep all [] ≡ only (Rest Nothing)
unfolding records_from records_within
records-nil sep all = refl

pub records-line : (sep all byte : ℕ) (rest : List ℕ) → records_from sep all (byte ∷ rest) ≡ by_line_break (records_from sep all) (by_record (records_from sep all) all (length (byte ∷ rest)) (record_at sep (byte ∷ rest))) (after_line_break (byte ∷ rest))
unfolding records_from records_within
records-line sep all byte rest = lines-agree (records_within (length (byte ∷ rest)) sep all) (records_from sep all) sep all byte rest (λ r l. records_within-enough (length (byte ∷ rest)) (suc (length r)) sep all r l (omega arith))
