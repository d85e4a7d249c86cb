-- The text of a table with a series is read again as the table with that series.
use Rattle.std.proofs.Common.{◌≡◌, inl, inr, ℕ, suc, ◌+◌, ◌<◌, ℤ, List, [], ◌∷◌, ◌++◌, length, take, drop, Option, Some, None, Result, Ok, Err, refl, sym, ap, ◌∙◌, subst, arith}
use Rattle.std.specs.List.{AllByRecursion}
use Rattle.std.proofs.lemmas.List.{append-nil, length-take-le, length-drop, take-append-drop}
use Rattle.words.proofs.Lists.{all_of_append}
use Rattle.record_cut.specs.Ended.{Ended, ended, last_record, fault_at_all}
use Rattle.record_cut.specs.Records.{Cut}
use Rattle.record_cut.specs.RoundTrip.{text_of_rows, AreWithinLimits, RoundTrip}
use Rattle.rule_file.specs.declared.rules.Rules.{Rules}
use Rattle.series_rows.specs.Before.{BeforeView, nothing_before, after_row}
use Rattle.series_rows.specs.Header.{HeaderView, IsHeader, ReadsHeader, time_column}
use Rattle.series_rows.specs.ReadBack.{RowsAreReadBack, AreValuesOf, row_with_values, readings_with}
use Rattle.series_rows.specs.Row.{RowView}
use Rattle.series_rows.specs.Texts.{header_text, fields_with, row_text_with}
use Rattle.series_rows.specs.declared.cell.RowReading.{RowReading}
use Rattle.series_rows.specs.declared.fault.TableFault.{TableFault}
use Rattle.series_rows.specs.declared.limits.Limits.TheVariants.{Whole}
use Rattle.series_csv.specs.Read.{Read, ReadsRows, ReadsRecords}
use Rattle.series_csv.specs.File.{TableView, whole, end_fault, ReadsEnded, Spells}
use Rattle.series_csv.specs.Readings.{values_of, IsSmall}
use Rattle.series_csv.specs.Text.{rows_text, table_text}
use Rattle.series_csv.specs.ReadBack.{IsSeriesOf, rows_with, table_with, AreShort, IsWithinLimits}
use Rattle.series_csv.proofs.Continuing.{some_or_none}
use Rattle.series_csv.proofs.Finishing.{ReadsCutEnded, end_of}
use Rattle.series_csv.proofs.Indexing.{length-values_of}
use Rattle.series_csv.proofs.Separators.{separates}

-- the fields of rows with their values of a series
abbrev fields_of : Rules → List RowView → List ℤ → List (List (List ℕ))
fields_of rules [] series = []
fields_of rules (row ∷ rows) series = fields_with rules row (take (length row.readings) series) ∷ fields_of rules rows (drop (length row.readings) series)

text_is : (rules : Rules) (rows : List RowView) (series : List ℤ) → rows_text rules rows series ≡ text_of_rows rules.format.separator (fields_of rules rows series)
text_is rules [] series = refl
text_is rules (row ∷ rows) series = ap (λ rest. row_text_with rules row (take (length row.readings) series) ++ rest) (text_is rules rows (drop (length row.readings) series))

length-readings_with : (readings : List RowReading) (values : List ℤ) → length (readings_with readings values) ≡ length readings
length-readings_with [] values = refl
length-readings_with (reading ∷ readings) [] = refl
length-readings_with (reading ∷ readings) (value ∷ values) = ap suc (length-readings_with readings values)

-- what stands before the next row does not depend on the values
same_after : (rules : Rules) (before : BeforeView) (row : RowView) (values : List ℤ) → after_row before (row_with_values rules row values) ≡ after_row before row
same_after rules before row values = ap (λ n. record { rows = before.rows + 1; ticks = Some row.ticks; readings = before.readings + n }) (length-readings_with row.readings values)

-- ---- the rows

record RowsBack (rules : Rules) (header : HeaderView) (before : BeforeView) (rows : List RowView) (series : List ℤ) : Type 0 where
  reads : ReadsRows rules Whole header before (fields_of rules rows series) None (rows_with rules rows series) None
  fit : AreWithinLimits rules.format.separator (fields_of rules rows series)

-- the values of a row, and those of the rows after it
pub record AreSplit (row : RowView) (rows : List RowView) (series : List ℤ) : Type 0 where
  pub first : AreValuesOf row (take (length row.readings) series)
  pub count : length (drop (length row.readings) series) ≡ length (values_of rows)
  pub small : AllByRecursion IsSmall (drop (length row.readings) series)

pub split : (row : RowView) (rows : List RowView) (series : List ℤ) → length series ≡ length (values_of (row ∷ rows)) → AllByRecursion IsSmall series → AreSplit row rows series
split row rows series count small =
    let n = length row.readings in
    let sum = length-values_of row rows in
    let all : AllByRecursion IsSmall (take n series ++ drop n series) = subst (λ vs. AllByRecursion IsSmall vs) (sym (take-append-drop n series)) small in
    let parts = all_of_append IsSmall (take n series) (drop n series) all in
    record {
      first = record { count = length-take-le n series (omega arith); small = parts.0 };
      count = length-drop n series ∙ omega arith;
      small = parts.1;
    }

header_width : (time : Option (List ℕ)) (col : ℕ) (fields : List (List ℕ)) → time_column time fields ≡ Ok col → 0 < length fields
header_width time col (field ∷ fields) found = omega arith
header_width None col [] found = cc
header_width (Some name) col [] found = cc

rows_back : RowsAreReadBack → (rules : Rules) (names : List (List ℕ)) (header : HeaderView) → IsHeader rules names header → 0 < length header.fields → (before : BeforeView) (records : List (List (List ℕ))) (last : Option TableFault) (rows : List RowView) (series : List ℤ) → ReadsRows rules Whole header before records last rows None → length series ≡ length (values_of rows) → AllByRecursion IsSmall series → AreShort rules rows series → RowsBack rules header before rows series
rows_back law rules names header is some before records last [] series p count small short = record { reads = refl; fit = tt }
rows_back law rules names header is some before [] last (row ∷ rows) series p count small short = absurd p
rows_back law rules names header is some before (fields ∷ records) last (row ∷ rows) series p count small short =
    let values = take (length row.readings) series in
    let later = drop (length row.readings) series in
    let parts = split row rows series count small in
    let back = law rules names header Whole before fields row values is p.0 parts.first in
    let rest = rows_back law rules names header is some (after_row before row) records last rows later p.1 parts.count parts.small short.1 in
    let width : length (fields_with rules row values) ≡ length header.fields = back.read.has_cells.timed.fits.width in
    record {
      reads = (back.read, subst (λ b. ReadsRows rules Whole header b (fields_of rules rows later) None (rows_with rules rows later) None) (sym (same_after rules before row values)) rest.reads);
      fit = (omega (arith, width), short.0, rest.fit);
    }

-- ---- the table

-- the records of the text, with the header first
abbrev records_of : Rules → TableView → List ℤ → List (List (List ℕ))
records_of rules table series = table.header.fields ∷ fields_of rules table.rows series

end_of_text : RoundTrip → (rules : Rules) (table : TableView) (series : List ℤ) → AreWithinLimits rules.format.separator (records_of rules table series) → end_of rules (table_text rules table series) ≡ record { records = records_of rules table series ++ []; fault = None }
end_of_text law rules table series fit =
    let sep = rules.format.separator in
    let text : table_text rules table series ≡ text_of_rows sep (records_of rules table series) = ap (λ rest. header_text rules table.header ++ rest) (text_is rules table.rows series) in
    ap (λ bytes. ended sep bytes) text
    ∙ ap (λ (c : Cut). record { records = c.records ++ last_record c.onward; fault = fault_at_all c.onward }) (law sep (records_of rules table series) (separates rules) fit)

reads_back : (rules : Rules) (table : TableView) (series : List ℤ) (end : Ended) → end ≡ record { records = records_of rules table series ++ []; fault = None } → ReadsHeader rules table.header.fields (Ok table.header) → ReadsRows rules Whole table.header nothing_before (fields_of rules table.rows series) None (rows_with rules table.rows series) None → ReadsCutEnded rules Whole end (whole (table_with rules table series))
reads_back rules table series end is header rows =
    let on = subst (λ rs. ReadsRows rules Whole table.header nothing_before rs None (rows_with rules table.rows series) None) (sym (append-nil (fields_of rules table.rows series))) rows in
    subst (λ c. ReadsCutEnded rules Whole c (whole (table_with rules table series))) (sym is) (header, on)

table_back : RoundTrip → RowsAreReadBack → (rules : Rules) (records : List (List (List ℕ))) (last : Option TableFault) (table : TableView) (series : List ℤ) → ReadsRecords rules Whole records last (whole table) → IsSeriesOf table series → IsWithinLimits rules table series → ReadsEnded rules Whole (table_text rules table series) (whole (table_with rules table series))
table_back trip law rules [] last table series p fits limits = absurd (some_or_none table.header (ap (λ (r : Read). r.header) p))
table_back trip law rules (fields ∷ records) last table series p fits limits =
    let is = p.0 in
    let some : 0 < length table.header.fields = header_width rules.format.time table.header.time_col table.header.fields (subst (λ fs. time_column rules.format.time fs ≡ Ok table.header.time_col) (sym is.fields_are) is.time) in
    let header : ReadsHeader rules table.header.fields (Ok table.header) = subst (λ fs. IsHeader rules fs table.header) (sym is.fields_are) is in
    let rows = rows_back law rules fields table.header is some nothing_before records last table.rows series p.1 fits.count fits.small limits.rows in
    reads_back rules table series (end_of rules (table_text rules table series)) (end_of_text trip rules table series (some, limits.header, rows.fit)) header rows.reads

not_refused : {fault : TableFault} (table : TableView) → ◌≡◌ {A = Result TableView TableFault} (Ok table) (Err fault) → ⊥
not_refused table e = cc

pub tables_back : RoundTrip → RowsAreReadBack → (rules : Rules) (bytes : List ℕ) (table : TableView) (series : List ℤ) → Spells rules bytes table → IsSeriesOf table series → IsWithinLimits rules table series → Spells rules (table_text rules table series) (table_with rules table series)
tables_back trip law rules bytes table series (inl long) fits limits = absurd (not_refused table long.1)
tables_back trip law rules bytes table series (inr short) fits limits =
    let end = end_of rules bytes in
    inr (limits.text, table_back trip law rules end.records (end_fault end.records end.fault) table series short.1 fits limits)
