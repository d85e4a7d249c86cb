-- To be believed: readings, and what a series makes of them.
use Rattle.std.specs.Prelude.{ℕ, ◌*◌, ◌==◌, Bool, not, ℤ, ◌-ℤ◌, List, [], ◌∷◌, filter, unsigned_abs}
use Rattle.std.specs.Ordering.{int_eq}
use Rattle.screen_model.specs.declared.place.Place.{Place}
use Rattle.repair_report.specs.declared.reading.Repaired.{Repaired}

-- readings with these places, weights and values, and the values of a series
abbrev pub repaired_from : List Place → List ℕ → List ℤ → List ℤ → List Repaired
repaired_from (place ∷ places) (weight ∷ weights) (value ∷ values) (x ∷ series) =
    record { place = place; weight = weight; from = value; to = x } ∷ repaired_from places weights values series
repaired_from [] weights values series = []
repaired_from (place ∷ places) [] values series = []
repaired_from (place ∷ places) (weight ∷ weights) [] series = []
repaired_from (place ∷ places) (weight ∷ weights) (value ∷ values) [] = []

-- the series gives the reading another value
abbrev pub is_changed : Repaired → Bool
is_changed reading = not (int_eq reading.to reading.from)

-- how far the value of the series lies from the reading, times the weight
abbrev pub weighted : Repaired → ℕ
weighted reading = reading.weight * unsigned_abs (reading.to -ℤ reading.from)

-- those in a column
abbrev pub in_column : ℕ → List Repaired → List Repaired
in_column col readings = filter (λ reading. reading.place.col == col) readings
