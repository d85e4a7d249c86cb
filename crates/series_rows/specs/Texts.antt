-- To be believed: the texts of a header and of a row with other values.
use Rattle.std.specs.Prelude.{ℕ, ◌-◌, ℤ, List, [], ◌∷◌, slice_set}
use Rattle.fix_point.specs.Text.{text_of_value}
use Rattle.record_cut.specs.Row.{text_of_row}
use Rattle.rule_file.specs.declared.rules.Rules.{Rules}
use Rattle.series_rows.specs.Header.{HeaderView}
use Rattle.series_rows.specs.Row.{RowView}
use Rattle.series_rows.specs.declared.cell.RowReading.{RowReading}

abbrev pub header_text : Rules → HeaderView → List ℕ
header_text rules header = text_of_row rules.format.separator header.fields

-- the fields, of which those of the readings are replaced by the texts of the values
abbrev pub replaced : ℕ → List (List ℕ) → List RowReading → List ℤ → List (List ℕ)
replaced decimals fields (reading ∷ readings) (value ∷ values) =
    replaced decimals (slice_set fields (reading.col - 1) (text_of_value value decimals)) readings values
replaced decimals fields [] values = fields
replaced decimals fields (reading ∷ readings) [] = fields

-- the fields of a row, in which each reading is the text of its value
abbrev pub fields_with : Rules → RowView → List ℤ → List (List ℕ)
fields_with rules row values = replaced rules.format.decimals row.fields row.readings values

abbrev pub row_text_with : Rules → RowView → List ℤ → List ℕ
row_text_with rules row values = text_of_row rules.format.separator (fields_with rules row values)
