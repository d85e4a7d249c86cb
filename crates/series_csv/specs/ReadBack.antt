-- To be believed: what is read of the text of a table with another series.
use Rattle.std.specs.Prelude.{◌≡◌, ℕ, ◌≤◌, ℤ, List, [], ◌∷◌, length, take, drop}
use Rattle.std.specs.List.{AllByRecursion}
use Rattle.record_cut.specs.declared.cutter.TheConstants.{LONGEST as LONGEST_RECORD}
use Rattle.rule_file.specs.declared.rules.Rules.{Rules}
use Rattle.series_rows.specs.ReadBack.{row_with_values}
use Rattle.series_rows.specs.Row.{RowView}
use Rattle.series_rows.specs.Texts.{header_text, row_text_with}
use Rattle.series_csv.specs.File.{TableView, Spells}
use Rattle.series_csv.specs.Readings.{values, IsSmall}
use Rattle.series_csv.specs.Text.{table_text}
use Rattle.series_csv.specs.declared.table.TheConstants.{LONGEST}

-- one value for each reading, at most 10^15 in size
pub record IsSeriesOf (table : TableView) (series : List ℤ) : Type 0 where
  pub count : length series ≡ length (values table)
  pub small : AllByRecursion IsSmall series

-- each row with its values of the series: the same times and texts, and these readings
abbrev pub rows_with : Rules → List RowView → List ℤ → List RowView
rows_with rules [] series = []
rows_with rules (row ∷ rows) series =
    row_with_values rules row (take (length row.readings) series) ∷ rows_with rules rows (drop (length row.readings) series)

abbrev pub table_with : Rules → TableView → List ℤ → TableView
table_with rules table series = record { header = table.header; rows = rows_with rules table.rows series }

-- the text of each row with its values is no longer than a record may be
abbrev pub AreShort : Rules → List RowView → List ℤ → Type 0
AreShort rules [] series = Unit {0}
AreShort rules (row ∷ rows) series =
    (length (row_text_with rules row (take (length row.readings) series)) ≤ LONGEST_RECORD) × AreShort rules rows (drop (length row.readings) series)

-- the text is within the limits of a reader
pub record IsWithinLimits (rules : Rules) (table : TableView) (series : List ℤ) : Type 0 where
  pub text : length (table_text rules table series) ≤ LONGEST
  pub header : length (header_text rules table.header) ≤ LONGEST_RECORD
  pub rows : AreShort rules table.rows series

-- A table that was read, whose text is written with a series, is read again with the same header, times and texts, and
-- with the values of the series.
abbrev pub TablesAreReadBack : Type 0
TablesAreReadBack =
    (rules : Rules) (bytes : List ℕ) (table : TableView) (series : List ℤ)
    → Spells rules bytes table → IsSeriesOf table series → IsWithinLimits rules table series
    → Spells rules (table_text rules table series) (table_with rules table series)
