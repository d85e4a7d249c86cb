-- To be believed: what a series costs, its change, and what it pays for the bounds that it breaks.
use Rattle.std.specs.Prelude.{◌≡◌, ℕ, ◌+◌, ◌*◌, ℤ, pos, negsuc, ◌-ℤ◌, List, [], ◌∷◌, length, map, sum, unsigned_abs}
use Rattle.screen_model.specs.declared.place.Place.{Place}
use Rattle.words.specs.Lists.{Distinct}
use Rattle.screen_model.specs.Obeys.{Priced, rise}

-- What is to be repaired: a place, a value and a weight for each reading, and the bounds.
pub record Problem : Type 0 where
  pub places : List Place
  pub values : List ℤ
  pub weights : List ℕ
  pub bounds : List Priced

-- No two readings share a place, and each has a value and a weight. An end of a bound may be a place where no reading is:
-- it counts as 0, as Zero does, and all laws hold so.
pub record IsProblem (problem : Problem) : Type 0 where
  pub distinct : Distinct problem.places
  pub valued : length problem.values ≡ length problem.places
  pub weighted : length problem.weights ≡ length problem.places

-- one value for each reading
abbrev pub IsSeries : Problem → List ℤ → Type 0
IsSeries problem series = length series ≡ length problem.places

-- the sum of the weighted distances between the values of two series, after the SCREEN paper, whose weights are 1
abbrev pub weighted_change : List ℕ → List ℤ → List ℤ → ℕ
weighted_change (weight ∷ weights) (value ∷ values) (x ∷ series) = weight * unsigned_abs (x -ℤ value) + weighted_change weights values series
weighted_change [] values series = 0
weighted_change (weight ∷ weights) [] series = 0
weighted_change (weight ∷ weights) (value ∷ values) [] = 0

abbrev pub change : Problem → List ℤ → ℕ
change problem series = weighted_change problem.weights problem.values series

-- how far a number lies above 0
abbrev pub above_zero : ℤ → ℕ
above_zero (pos n) = n
above_zero (negsuc n) = 0

-- what a bound is paid: its price for each unit by which it is broken
abbrev pub payment : List Place → List ℤ → Priced → ℕ
payment places series priced = priced.price * above_zero (rise places series priced.bound -ℤ priced.bound.limit)

abbrev pub paid : Problem → List ℤ → ℕ
paid problem series = sum (map (payment problem.places series) problem.bounds)

abbrev pub cost : Problem → List ℤ → ℕ
cost problem series = change problem series + paid problem series
