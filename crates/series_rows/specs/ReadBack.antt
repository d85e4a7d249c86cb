-- To be believed: what a row is read as, whose text was written with other values.
use Rattle.std.specs.Prelude.{◌≡◌, ℕ, ◌≤◌, ℤ, List, [], ◌∷◌, length, Ok, unsigned_abs}
use Rattle.std.specs.List.{AllByRecursion}
use Rattle.fix_point.specs.declared.scale.TheConstants.{MOST_UNITS}
use Rattle.record_cut.specs.Record.{Nothing}
use Rattle.record_cut.specs.Records.{Rest, records}
use Rattle.record_cut.specs.declared.cutter.TheConstants.{LONGEST}
use Rattle.rule_file.specs.declared.rules.Rules.{Rules}
use Rattle.series_rows.specs.Before.{BeforeView}
use Rattle.series_rows.specs.Header.{HeaderView, IsHeader}
use Rattle.series_rows.specs.ReadsRow.{ReadsRow}
use Rattle.series_rows.specs.Row.{RowView}
use Rattle.series_rows.specs.Texts.{fields_with, row_text_with}
use Rattle.series_rows.specs.declared.cell.RowReading.{RowReading}
use Rattle.series_rows.specs.declared.limits.Limits.{Limits}

-- one value for each reading, at most 10^15 in size
pub record AreValuesOf (row : RowView) (values : List ℤ) : Type 0 where
  pub count : length values ≡ length row.readings
  pub small : AllByRecursion (λ value. unsigned_abs value ≤ unsigned_abs MOST_UNITS) values

-- the readings with other values
abbrev pub readings_with : List RowReading → List ℤ → List RowReading
readings_with (reading ∷ readings) (value ∷ values) = record { col = reading.col; value = value } ∷ readings_with readings values
readings_with [] values = []
readings_with (reading ∷ readings) [] = reading ∷ readings

-- the row with other values
abbrev pub row_with_values : Rules → RowView → List ℤ → RowView
row_with_values rules row values =
    record { fields = fields_with rules row values; ticks = row.ticks; time_col = row.time_col; readings = readings_with row.readings values; missing = row.missing }

-- A row that was read, with other values, is cut from its text and read again as just that: in the same place, with the
-- same time and these values.
pub record IsReadBack (rules : Rules) (header : HeaderView) (limits : Limits) (before : BeforeView) (row : RowView) (values : List ℤ) : Type 0 where
  pub cut : length (row_text_with rules row values) ≤ LONGEST → records rules.format.separator (row_text_with rules row values) ≡ record { records = fields_with rules row values ∷ []; onward = Rest Nothing }
  pub read : ReadsRow rules header limits before (fields_with rules row values) (Ok (row_with_values rules row values))
  -- and it has the same text with any other values
  pub texts : (others : List ℤ) → length others ≡ length row.readings → row_text_with rules (row_with_values rules row values) others ≡ row_text_with rules row others

abbrev pub RowsAreReadBack : Type 0
RowsAreReadBack =
    (rules : Rules) (names : List (List ℕ)) (header : HeaderView) (limits : Limits) (before : BeforeView) (fields : List (List ℕ)) (row : RowView) (values : List ℤ)
    → IsHeader rules names header → ReadsRow rules header limits before fields (Ok row) → AreValuesOf row values → IsReadBack rules header limits before row values
