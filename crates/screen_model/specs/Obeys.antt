-- To be believed: what it means that a series obeys bounds.
use Rattle.std.specs.Prelude.{◌≡◌, ℕ, ℤ, ◌-ℤ◌, ◌≤ℤ◌, List, [], ◌∷◌, map}
use Rattle.std.specs.List.{AllByRecursion}
use Rattle.screen_model.specs.declared.place.Place.{Place}
use Rattle.screen_model.specs.declared.bound.Bound.{Bound}
use Rattle.screen_model.specs.Series.{value_at, IsEnd}

-- a bound, and what it costs to break it by a unit; 0 is no price, and the bound may not be broken
pub record Priced : Type 0 where
  pub bound : Bound
  pub price : ℕ

-- the bounds, each with the price that stands beside it; where none stands there is none
abbrev pub with_prices : List Bound → List ℕ → List Priced
with_prices (bound ∷ bounds) (price ∷ prices) = record { bound = bound; price = price } ∷ with_prices bounds prices
with_prices (bound ∷ bounds) [] = record { bound = bound; price = 0 } ∷ with_prices bounds []
with_prices [] prices = []

-- bounds that all have no price
abbrev pub without_prices : List Bound → List Priced
without_prices bounds = map (λ bound. record { bound = bound; price = 0 }) bounds

-- both ends are Zero or readings at the places
abbrev pub HasEnds : List Place → Bound → Type 0
HasEnds places bound = IsEnd places bound.first × IsEnd places bound.second

-- how far the value at the second end lies above the value at the first
abbrev pub rise : List Place → List ℤ → Bound → ℤ
rise places series bound = value_at places series bound.second -ℤ value_at places series bound.first

abbrev pub Keeps : List Place → List ℤ → Bound → Type 0
Keeps places series bound = rise places series bound ≤ℤ bound.limit

-- each bound without a price is kept
abbrev pub Obeys : List Place → List ℤ → List Priced → Type 0
Obeys places series bounds = AllByRecursion (λ priced. priced.price ≡ 0 → Keeps places series priced.bound) bounds
