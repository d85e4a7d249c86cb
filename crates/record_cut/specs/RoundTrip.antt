-- To be believed: what is written by rows is cut back into them.
use Rattle.std.specs.Prelude.{◌≡◌, ℕ, ◌<◌, ◌≤◌, IsTrue, List, [], ◌∷◌, ◌++◌, length}
use Rattle.words.specs.Separators.{is_separator}
use Rattle.record_cut.specs.Record.{Nothing}
use Rattle.record_cut.specs.Records.{Rest, records}
use Rattle.record_cut.specs.Row.{text_of_row}
use Rattle.record_cut.specs.declared.cutter.TheConstants.{LONGEST}

-- the texts of the rows, one after the other
abbrev pub text_of_rows : ℕ → List (List (List ℕ)) → List ℕ
text_of_rows sep [] = []
text_of_rows sep (row ∷ rows) = text_of_row sep row ++ text_of_rows sep rows

-- each row has a field, and a text no longer than a record may be
abbrev pub AreWithinLimits : ℕ → List (List (List ℕ)) → Type 0
AreWithinLimits sep [] = Unit {0}
AreWithinLimits sep (row ∷ rows) = (0 < length row) × (length (text_of_row sep row) ≤ LONGEST) × AreWithinLimits sep rows

-- for each separator
abbrev pub RoundTrip : Type 0
RoundTrip = (sep : ℕ) (rows : List (List (List ℕ))) → IsTrue (is_separator sep) → AreWithinLimits sep rows → records sep (text_of_rows sep rows) ≡ record { records = rows; onward = Rest Nothing }
