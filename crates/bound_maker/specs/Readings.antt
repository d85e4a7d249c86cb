-- To be believed: the readings of a sensor in the order of time, and the pairs of them.
use Rattle.std.specs.Prelude.{ℕ, suc, ◌==◌, ℤ, List, [], ◌∷◌, ◌++◌, map, find, Option, Some, None, option_map}
use Rattle.series_rows.specs.Row.{RowView}
use Rattle.series_rows.specs.declared.cell.RowReading.{RowReading}
use Rattle.bound_maker.specs.declared.reading.Reading.{Reading}

-- the value of the first of the readings of a row in a column, if there is one
abbrev pub value_in : ℕ → List RowReading → Option ℤ
value_in col readings = option_map (λ (reading : RowReading). reading.value) (find (λ (reading : RowReading). reading.col == col) readings)

-- the value of the reading that a row has in a column, if it has one
abbrev pub reading_in : ℕ → RowView → Option ℤ
reading_in col row = value_in col row.readings

-- a reading in the row of this number, before those of later rows
abbrev pub before_later : ℕ → RowView → Option ℤ → List Reading → List Reading
before_later number row (Some value) later = record { stamp = record { row = number; ticks = row.ticks }; value = value } ∷ later
before_later number row None later = later

-- the readings in a column of rows, of which the first has the number given
abbrev pub readings_from : ℕ → ℕ → List RowView → List Reading
readings_from number col [] = []
readings_from number col (row ∷ rows) = before_later number row (reading_in col row) (readings_from (suc number) col rows)

abbrev pub readings_of : ℕ → List RowView → List Reading
readings_of col rows = readings_from 1 col rows

-- each with each that comes after it
abbrev pub all_pairs : {A : Type 0} → List A → List (A × A)
all_pairs [] = []
all_pairs (x ∷ xs) = map (λ y. (x, y)) xs ++ all_pairs xs

-- each with the next one
abbrev pub neighbours : {A : Type 0} → List A → List (A × A)
neighbours [] = []
neighbours (x ∷ []) = []
neighbours (x ∷ y ∷ xs) = (x, y) ∷ neighbours (y ∷ xs)
