-- To be believed: the problems that are solved, by the lists that tell them.
use Rattle.std.specs.Prelude.{◌≡◌, ◌≤◌, ◌*◌, ◌^◌, ℕ, ℤ, List, length, map, unsigned_abs}
use Rattle.std.specs.List.{AllByRecursion}
use Rattle.words.specs.Lists.{Distinct}
use Rattle.screen_model.specs.declared.place.Place.{Place}
use Rattle.screen_model.specs.declared.bound.Bound.{Bound}
use Rattle.screen_model.specs.declared.limits.TheConstants.{MOST_READINGS}
use Rattle.screen_model.specs.Obeys.{HasEnds, with_prices}
use Rattle.screen_model.specs.Cost.{Problem}
use Rattle.flow_core.specs.Layout.{IsRanged}
use Rattle.least_cost.specs.declared.problem.Problem.{Problem as Lists}
use Rattle.flow_core.specs.declared.limits.TheConstants.{MOST_BOUNDS, MOST_PRICE, MOST_WEIGHT, MOST_VALUE}

-- readings, each with a place, a value and a weight, and bounds, each with a price
abbrev pub problem_of : List Place → List ℤ → List ℕ → List Bound → List ℕ → Problem
problem_of places values weights bounds prices = record {
  places = places;
  values = values;
  weights = weights;
  bounds = with_prices bounds prices;
}

-- the problem of the lists that tell it
abbrev pub stated : Lists → Problem
stated lists = problem_of lists.places.now lists.values.now lists.weights.now lists.bounds.now lists.prices.now

-- There is a value and a weight for each place and a price for each bound; no two readings share a place, and no two bounds
-- a name; bounds have their ends at readings or at Zero, and two of them without a price keep each reading within 10^15;
-- and nothing is too great.
pub record AreSolvable (places : List Place) (values : List ℤ) (weights : List ℕ) (bounds : List Bound) (prices : List ℕ) : Type 0 where
  pub distinct : Distinct places
  pub named : Distinct (map (λ bound. bound.name) bounds)
  pub valued : length values ≡ length places
  pub weighted : length weights ≡ length places
  pub priced : length prices ≡ length bounds
  pub few_readings : length places ≤ MOST_READINGS
  pub few_bounds : length bounds ≤ MOST_BOUNDS
  pub ends : AllByRecursion (HasEnds places) bounds
  pub ranged : AllByRecursion (IsRanged (with_prices bounds prices)) places
  pub small_values : AllByRecursion (λ value. unsigned_abs value ≤ MOST_VALUE) values
  pub small_weights : AllByRecursion (λ weight. weight ≤ MOST_WEIGHT) weights
  pub small_prices : AllByRecursion (λ price. price ≤ MOST_PRICE) prices
  pub small_limits : AllByRecursion (λ bound. unsigned_abs bound.limit ≤ 4 * 10 ^ 15) bounds

abbrev pub IsSolvable : Lists → Type 0
IsSolvable lists = AreSolvable lists.places.now lists.values.now lists.weights.now lists.bounds.now lists.prices.now
