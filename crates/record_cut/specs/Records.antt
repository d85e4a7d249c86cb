-- To be believed: the records of a text, and how it goes on after them.
use Rattle.std.specs.Prelude.{ℕ, zero, suc, ◌-◌, ◌==◌, ◌&&◌, nat_lt, List, [], ◌∷◌, ◌++◌, length, Option, Some, None, if◌then◌else◌}
use Rattle.record_cut.specs.Bytes.{after_line_break}
use Rattle.record_cut.specs.Record.{Unended, Nothing, RecordAt, Whole, Bad, Ends, record_at}
use Rattle.record_cut.specs.declared.cutter.TheConstants.{LONGEST}
use Rattle.record_cut.specs.declared.fault.CutFault.{CutFault}
use Rattle.record_cut.specs.declared.fault.CutFault.TheVariants.{BadQuote, RecordTooLong}

-- how a text goes on after its last record that has a line break
pub data Onward : Type 0 where
  -- the next record has a fault, at this offset of the text
  Fault : (fault : CutFault) (offset : ℕ) → Onward
  -- no fault stands at a byte: what the end of the text leaves
  Rest : (unended : Unended) → Onward

-- the records with their line breaks, up to the first that has a fault, and what comes after them
pub record Cut : Type 0 where
  pub records : List (List (List ℕ))
  pub onward : Onward

-- the cut, of which these records come first
abbrev pub with_records : List (List (List ℕ)) → Cut → Cut
with_records first cut = record { records = first ++ cut.records; onward = cut.onward }

abbrev pub only : Onward → Cut
only onward = record { records = []; onward = onward }

-- The text has `all` bytes, and from the first byte of this record on `size`.
abbrev pub too_long : ℕ → ℕ → Cut
too_long all size = only (Fault RecordTooLong (all - (size - LONGEST)))

-- By the record that comes next, `size` bytes before the end of the text. It is too long from its byte
-- 65,537 on; a record without an end has all bytes that follow. A wrong byte counts only before that.
abbrev pub by_record : (List ℕ → Cut) → ℕ → ℕ → RecordAt → Cut
by_record more all size (Whole fields rest) = if nat_lt LONGEST (size - length rest) then too_long all size else with_records (fields ∷ []) (more rest)
by_record more all size (Bad from) = if nat_lt (size - length from) LONGEST then only (Fault BadQuote (all - length from)) else too_long all size
by_record more all size (Ends unended) = if nat_lt LONGEST size then too_long all size else only (Rest unended)

abbrev pub by_line_break : (List ℕ → Cut) → Cut → Option (List ℕ) → Cut
by_line_break more other (Some rest) = more rest
by_line_break more other None = other

-- the cut, if it has at most so many lines; an empty line is no record
unfoldable pub records_within : ℕ → ℕ → ℕ → List ℕ → Cut
records_within zero sep all bytes = only (Rest Nothing)
records_within (suc most) sep all [] = only (Rest Nothing)
records_within (suc most) sep all (byte ∷ rest) = by_line_break (records_within most sep all) (by_record (records_within most sep all) all (length (byte ∷ rest)) (record_at sep (byte ∷ rest))) (after_line_break (byte ∷ rest))

-- A line has at least a byte, so there are no more lines than bytes.
unfoldable pub records_from : ℕ → ℕ → List ℕ → Cut
records_from sep all bytes = records_within (suc (length bytes)) sep all bytes

-- the text without the mark EF BB BF, if it begins with one
unfoldable pub without_mark : List ℕ → List ℕ
without_mark (first ∷ second ∷ third ∷ rest) = if first == 239 && second == 187 && third == 191 then rest else first ∷ second ∷ third ∷ rest
without_mark (first ∷ second ∷ []) = first ∷ second ∷ []
without_mark (first ∷ []) = first ∷ []
without_mark [] = []

-- the records that end with the last of so many bytes of a text
unfoldable pub text_from : ℕ → ℕ → List ℕ → Cut
text_from sep all bytes = records_from sep all (without_mark bytes)

-- The records of a text. For one that may go on, `records` and a fault at a byte count alone; for one
-- that has ended, also what its end leaves.
unfoldable pub records : ℕ → List ℕ → Cut
records sep bytes = text_from sep (length bytes) bytes
