-- To be believed: that names and places can be written in a certificate.
use Rattle.std.specs.Prelude.{ℕ, ◌≤◌, map}
use Rattle.std.specs.List.{AllByRecursion}
use Rattle.screen_model.specs.declared.bound.BoundName.{BoundName}
use Rattle.screen_model.specs.declared.limits.TheConstants.{MOST_ROWS, MOST_COLUMNS}
use Rattle.screen_model.specs.declared.place.Place.{Place}
use Rattle.screen_model.specs.Order.{Rises, name_key}
use Rattle.rule_file.specs.declared.rules.Rules.{Rules}
use Rattle.rule_file.specs.declared.rules.TheConstants.{MOST_RULES}
use Rattle.series_rows.specs.Row.{RowView}
use Rattle.series_rows.specs.declared.cell.RowReading.{RowReading}
use Rattle.series_csv.specs.File.{TableView}
use Rattle.series_csv.specs.Readings.{places}
use Rattle.bound_maker.specs.Bounds.{all_bounds}

-- The row is one of at most 200,000, and the column one of at most 256.
abbrev pub IsWritableRow : ℕ → Type 0
IsWritableRow row = (1 ≤ row) × (row ≤ MOST_ROWS)

abbrev pub IsWritableColumn : ℕ → Type 0
IsWritableColumn col = (1 ≤ col) × (col ≤ MOST_COLUMNS)

pub record IsWritablePlace (place : Place) : Type 0 where
  pub row : IsWritableRow place.row
  pub col : IsWritableColumn place.col

-- and the rule is one of at most 1,000, or rule 0
pub record IsWritableName (name : BoundName) : Type 0 where
  pub rule : name.rule ≤ MOST_RULES
  pub from : IsWritableRow name.from_row
  pub to : IsWritableRow name.to_row
  pub col : IsWritableColumn name.col

-- The names of all bounds rise strictly, by rule, from row, to row, column, and up before down. They can be written, and so
-- can the places of the readings.
pub record CanBeWritten (rules : Rules) (table : TableView) : Type 0 where
  pub rising : Rises name_key (map (λ bound. bound.name) (all_bounds rules table))
  pub names : AllByRecursion IsWritableName (map (λ bound. bound.name) (all_bounds rules table))
  pub places : AllByRecursion IsWritablePlace (places table)

-- For proofs: the readings of a row stand in such columns.
abbrev pub HasWritableColumns : RowView → Type 0
HasWritableColumns row = AllByRecursion (λ (reading : RowReading). IsWritableColumn reading.col) row.readings
