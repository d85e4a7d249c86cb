-- To be believed: the readings of a table, in the order of their rows and then of their columns.
use Rattle.std.specs.Prelude.{ℕ, zero, suc, ◌<◌, ◌≤◌, ◌⊎◌, ◌≡◌, ℤ, ◌<ℤ◌, unsigned_abs, List, [], ◌∷◌, ◌++◌, map, Option, None, slice_get}
use Rattle.std.specs.List.{AllByRecursion}
use Rattle.fix_point.specs.declared.scale.TheConstants.{MOST_UNITS}
use Rattle.screen_model.specs.declared.place.Place.{Place}
use Rattle.series_rows.specs.Row.{RowView, columns}
use Rattle.series_rows.specs.declared.cell.RowReading.{RowReading}
use Rattle.series_csv.specs.File.{TableView}

-- the row of a number, counted from 1
abbrev pub row_at : TableView → ℕ → Option RowView
row_at table zero = None
row_at table (suc r) = slice_get table.rows r

-- each row has a later time than all rows before it
abbrev pub TimesRise : List RowView → Type 0
TimesRise [] = Unit {0}
TimesRise (row ∷ rows) = AllByRecursion (λ (later : RowView). row.ticks <ℤ later.ticks) rows × TimesRise rows

-- the places in these columns of a row
abbrev pub places_in : ℕ → List ℕ → List Place
places_in number cols = map (λ col. record { row = number; col = col }) cols

-- the places of the readings of rows, of which the first has the number given
abbrev pub places_from : ℕ → List RowView → List Place
places_from number [] = []
places_from number (row ∷ rows) = places_in number (columns row.readings) ++ places_from (suc number) rows

abbrev pub places : TableView → List Place
places table = places_from 1 table.rows

-- the values of the readings of a row
abbrev pub values_in : RowView → List ℤ
values_in row = map (λ (reading : RowReading). reading.value) row.readings

abbrev pub values_of : List RowView → List ℤ
values_of [] = []
values_of (row ∷ rows) = values_in row ++ values_of rows

-- the series that was read
abbrev pub values : TableView → List ℤ
values table = values_of table.rows

-- at most 10^15 units in size
abbrev pub IsSmall : ℤ → Type 0
IsSmall value = unsigned_abs value ≤ unsigned_abs MOST_UNITS

-- the place comes later: in a later row, or in the same row further to the right
abbrev pub IsBefore : Place → Place → Type 0
IsBefore place other = (place.row < other.row) ⊎ ((place.row ≡ other.row) × (place.col < other.col))

-- each place comes before all that follow
abbrev pub AreInOrder : List Place → Type 0
AreInOrder [] = Unit {0}
AreInOrder (place ∷ places) = AllByRecursion (IsBefore place) places × AreInOrder places
