-- To be believed: what the results for the readings of a sensor are good for.
use Rattle.std.specs.Prelude.{◌≤◌, ℤ, ◌+ℤ◌, ◌-ℤ◌, ◌≤ℤ◌, ◌<ℤ◌, IsTrue, List, [], ◌∷◌, ◌++◌, reverse}
use Rattle.window_median.specs.LocalCost.{cost_at}
use Rattle.order_window.specs.declared.key.Key.{Key}
use Rattle.online_values.specs.Results.{Speed, greatest_step, is_within, least_step, near, result, successors}

-- a reading comes after another one, and where it lies within the window there is a whole step between them
pub record Follows (speed : Speed) (last own : Key) : Type 0 where
  pub later : last.ticks <ℤ own.ticks
  pub step : IsTrue (is_within speed last own) → least_step speed (own.ticks -ℤ last.ticks) ≤ℤ greatest_step speed (own.ticks -ℤ last.ticks)

-- each reading follows the one before
abbrev pub IsSeries : Speed → List Key → Type 0
IsSeries speed [] = Unit {0}
IsSeries speed (key ∷ []) = Unit {0}
IsSeries speed (key ∷ next ∷ keys) = Follows speed key next × IsSeries speed (next ∷ keys)

-- the same of readings of which the latest stands first
abbrev pub IsSeriesBack : Speed → List Key → Type 0
IsSeriesBack speed [] = Unit {0}
IsSeriesBack speed (key ∷ []) = Unit {0}
IsSeriesBack speed (key ∷ last ∷ keys) = Follows speed last key × IsSeriesBack speed (last ∷ keys)

-- the readings of a sensor about one of them
pub record AreReadings (speed : Speed) (earlier : List Key) (own : Key) (later : List Key) : Type 0 where
  pub min_per : 1 ≤ speed.rates.min.per
  pub max_per : 1 ≤ speed.rates.max.per
  pub before : IsSeriesBack speed (own ∷ earlier)
  pub after : IsSeries speed (own ∷ later)

-- a number is within what the steps allow after the result for the previous reading, where that lies within the window
abbrev pub IsAllowed : Speed → List Key → Key → List Key → ℤ → Type 0
IsAllowed speed [] own later v = Unit {0}
IsAllowed speed (last ∷ earlier) own later v =
    IsTrue (is_within speed last own)
    → ((result speed earlier last (own ∷ later) +ℤ least_step speed (own.ticks -ℤ last.ticks)) ≤ℤ v)
    × (v ≤ℤ (result speed earlier last (own ∷ later) +ℤ greatest_step speed (own.ticks -ℤ last.ticks)))

-- the result has the least local cost of all numbers that are allowed
abbrev pub CostsLeast : Speed → List Key → Key → List Key → Type 0
CostsLeast speed earlier own later =
    (v : ℤ) → IsAllowed speed earlier own later v
    → cost_at own.value (near speed own (successors speed own later)) (result speed earlier own later) ≤ cost_at own.value (near speed own (successors speed own later)) v

-- The result for a reading is apart from that for an earlier one, which lies within the window, by no less than the least
-- step in the time between them and by no more than the greatest. `between` are the readings between the two, the latest
-- first, and `before` those before the earlier one.
abbrev pub KeepsRates : Speed → List Key → Key → List Key → Key → List Key → Type 0
KeepsRates speed before first between own later =
    let dt = own.ticks -ℤ first.ticks in
    let change = result speed (between ++ first ∷ before) own later -ℤ result speed before first (reverse between ++ own ∷ later) in
    IsTrue (is_within speed first own) → (least_step speed dt ≤ℤ change) × (change ≤ℤ greatest_step speed dt)
