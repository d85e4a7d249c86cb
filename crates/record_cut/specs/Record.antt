-- To be believed: a record at the beginning of some bytes, a field at a time.
use Rattle.std.specs.Prelude.{ℕ, zero, suc, List, [], ◌∷◌, ◌++◌, length, Option, Some, None}
use Rattle.record_cut.specs.Field.{Piece, field_at, After, Next, Line, End, LastCr, Wrong, after_field}

-- what the end of the text leaves without a line break
pub data Unended : Type 0 where
  -- no byte
  Nothing : Unended
  -- a record with these fields
  Fields : (fields : List (List ℕ)) → Unended
  -- a quoted field that no quote closes
  OpenField : Unended
  -- a carriage return after a closing quote
  CrAfterQuote : Unended

pub data RecordAt : Type 0 where
  -- the fields, and the text after the line break
  Whole : (fields : List (List ℕ)) (rest : List ℕ) → RecordAt
  -- the text from the byte on that may not come there
  Bad : (from : List ℕ) → RecordAt
  -- the text ends before a line break
  Ends : (unended : Unended) → RecordAt

abbrev pub with_unended_fields : List (List ℕ) → Unended → Unended
with_unended_fields first (Fields fields) = Fields (first ++ fields)
with_unended_fields first Nothing = Nothing
with_unended_fields first OpenField = OpenField
with_unended_fields first CrAfterQuote = CrAfterQuote

-- the record, of which these fields come first
abbrev pub with_fields : List (List ℕ) → RecordAt → RecordAt
with_fields first (Whole fields rest) = Whole (first ++ fields) rest
with_fields first (Bad from) = Bad from
with_fields first (Ends unended) = Ends (with_unended_fields first unended)

-- the record whose first field has this value, by what stands after that field
abbrev pub by_what_follows : (List ℕ → RecordAt) → List ℕ → After → RecordAt
by_what_follows more value (Next rest) = with_fields (value ∷ []) (more rest)
by_what_follows more value (Line rest) = Whole (value ∷ []) rest
by_what_follows more value End = Ends (Fields (value ∷ []))
by_what_follows more value LastCr = Ends CrAfterQuote
by_what_follows more value (Wrong from) = Bad from

-- the record whose first field is given; `more` says how it goes on after a separator
abbrev pub by_field : (List ℕ → RecordAt) → ℕ → Option Piece → RecordAt
by_field more sep (Some piece) = by_what_follows more piece.value (after_field sep piece.rest)
by_field more sep None = Ends OpenField

-- the record, if it has at most so many fields
unfoldable pub record_within : ℕ → ℕ → List ℕ → RecordAt
record_within zero sep bytes = Ends Nothing
record_within (suc most) sep bytes = by_field (record_within most sep) sep (field_at sep bytes)

-- A separator stands after each field but the last, so a record has at most one field more than bytes.
unfoldable pub record_at : ℕ → List ℕ → RecordAt
record_at sep bytes = record_within (suc (length bytes)) sep bytes
