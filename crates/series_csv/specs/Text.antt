-- To be believed: the text of a table with a series of values.
use Rattle.std.specs.Prelude.{ℕ, ℤ, List, [], ◌∷◌, ◌++◌, length, take, drop}
use Rattle.rule_file.specs.declared.rules.Rules.{Rules}
use Rattle.series_rows.specs.Row.{RowView}
use Rattle.series_rows.specs.Texts.{header_text, row_text_with}
use Rattle.series_csv.specs.File.{TableView}

-- the texts of rows, each with the next values of the series, one for each of its readings
abbrev pub rows_text : Rules → List RowView → List ℤ → List ℕ
rows_text rules [] series = []
rows_text rules (row ∷ rows) series =
    row_text_with rules row (take (length row.readings) series) ++ rows_text rules rows (drop (length row.readings) series)

-- the text of the header, and then that of each row
abbrev pub table_text : Rules → TableView → List ℤ → List ℕ
table_text rules table series = header_text rules table.header ++ rows_text rules table.rows series
