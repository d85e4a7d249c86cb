-- For proofs: the text of a row, column by column.
use Rattle.std.specs.Prelude.{ℕ, suc, ◌==◌, Bool, false, ℤ, List, [], ◌∷◌, ◌++◌, length, drop, if◌then◌else◌}
use Rattle.fix_point.specs.Text.{text_of_value}
use Rattle.record_cut.specs.Bytes.{line_feed}
use Rattle.record_cut.specs.Row.{text_of_first, text_of_next}
use Rattle.rule_file.specs.declared.rules.Format.{Format}
use Rattle.series_rows.specs.Row.{RowView}
use Rattle.series_rows.specs.declared.cell.RowReading.{RowReading}

-- the field in a column, as it stands in the text of a row of so many
abbrev pub text_of_column : ℕ → ℕ → ℕ → List ℕ → List ℕ
text_of_column sep width col field = if col == 1 then text_of_first sep field width else text_of_next sep field

-- the fields from a column on, and the line feed
abbrev pub text_from : ℕ → ℕ → ℕ → List (List ℕ) → List ℕ
text_from sep width col [] = line_feed ∷ []
text_from sep width col (field ∷ fields) = text_of_column sep width col field ++ text_from sep width (suc col) fields

-- the fields from a column on, with the texts of the values in the columns of the readings, which go up from there
abbrev pub merged : ℕ → ℕ → List (List ℕ) → List RowReading → List ℤ → List (List ℕ)
merged decimals col [] readings values = []
merged decimals col (field ∷ fields) [] values = field ∷ fields
merged decimals col (field ∷ fields) (reading ∷ readings) [] = field ∷ fields
merged decimals col (field ∷ fields) (reading ∷ readings) (value ∷ values) =
    if reading.col == col then text_of_value value decimals ∷ merged decimals (suc col) fields readings values
    else field ∷ merged decimals (suc col) fields (reading ∷ readings) (value ∷ values)

-- the first of the readings stands in the column
abbrev pub is_at : List RowReading → ℕ → Bool
is_at [] col = false
is_at (reading ∷ readings) col = reading.col == col

-- what is left of the text of a row with values, after so many columns and readings
abbrev pub left_to_write : Format → RowView → List ℤ → ℕ → ℕ → List ℕ
left_to_write format row values columns count =
    text_from format.separator (length row.fields) (suc columns) (merged format.decimals (suc columns) (drop columns row.fields) (drop count row.readings) (drop count values))
