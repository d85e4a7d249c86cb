-- To be believed: a field at the beginning of some bytes, and what stands directly after it.
use Rattle.std.specs.Prelude.{ℕ, Bool, false, ◌==◌, ◌||◌, List, [], ◌∷◌, ◌++◌, Option, Some, None, is_some, if◌then◌else◌}
use Rattle.record_cut.specs.Bytes.{quote, carriage_return, after_line_break}

-- the bytes of a field, and the text directly after it
pub record Piece : Type 0 where
  pub value : List ℕ
  pub rest : List ℕ

-- the piece, of which these bytes come first
abbrev pub led_by : List ℕ → Piece → Piece
led_by bytes piece = record { value = bytes ++ piece.value; rest = piece.rest }

abbrev pub led_if_any : List ℕ → Option Piece → Option Piece
led_if_any bytes (Some piece) = Some (led_by bytes piece)
led_if_any bytes None = None

-- What stands after an opening quote: the field goes to the next quote that no quote follows, and two
-- quotes stand for one. None, if no quote closes it.
unfoldable pub quoted : List ℕ → Option Piece
quoted [] = None
quoted (byte ∷ []) = if byte == quote then Some (record { value = []; rest = [] }) else None
quoted (byte ∷ next ∷ rest) = if byte == quote then (if next == quote then led_if_any (quote ∷ []) (quoted rest) else Some (record { value = []; rest = next ∷ rest })) else led_if_any (byte ∷ []) (quoted (next ∷ rest))

-- the bytes begin with a separator, a quote or a line break
abbrev pub ends_plain : ℕ → List ℕ → Bool
ends_plain sep [] = false
ends_plain sep (byte ∷ rest) = byte == sep || byte == quote || is_some (after_line_break (byte ∷ rest))

-- an unquoted field: the longest piece before a separator, a quote or a line break
unfoldable pub plain : ℕ → List ℕ → Piece
plain sep [] = record { value = []; rest = [] }
plain sep (byte ∷ rest) = if ends_plain sep (byte ∷ rest) then record { value = []; rest = byte ∷ rest } else led_by (byte ∷ []) (plain sep rest)

-- The field at the beginning: quoted, if its first byte is a quote. None, if no quote closes it.
unfoldable pub field_at : ℕ → List ℕ → Option Piece
field_at sep [] = Some (plain sep [])
field_at sep (byte ∷ rest) = if byte == quote then quoted rest else Some (plain sep (byte ∷ rest))

-- what stands directly after a field
pub data After : Type 0 where
  -- a separator, and the text after it
  Next : (rest : List ℕ) → After
  -- a line break, and the text after it
  Line : (rest : List ℕ) → After
  -- no byte
  End : After
  -- a carriage return alone, as the last byte of the text
  LastCr : After
  -- a byte that may not come there; the text from that byte on
  Wrong : (from : List ℕ) → After

-- a carriage return that is no line break: the byte after it is wrong
abbrev pub after_cr : List ℕ → After
after_cr [] = LastCr
after_cr (byte ∷ rest) = Wrong (byte ∷ rest)

abbrev pub after_no_break : List ℕ → After
after_no_break [] = End
after_no_break (byte ∷ rest) = if byte == carriage_return then after_cr rest else Wrong (byte ∷ rest)

abbrev pub or_break : After → Option (List ℕ) → After
or_break other (Some rest) = Line rest
or_break other None = other

-- A separator, a line break or the end may come. An unquoted field ends before these or before a quote,
-- so that there the wrong byte is that quote.
unfoldable pub after_field : ℕ → List ℕ → After
after_field sep [] = End
after_field sep (byte ∷ rest) = if byte == sep then Next rest else or_break (after_no_break (byte ∷ rest)) (after_line_break (byte ∷ rest))
