-- For proofs: the candidates of a reading in two rising orders, and the ends of their lower and upper halves.
use Rattle.std.specs.Prelude.{◌≡◌, ℕ, ◌-◌, ◌<◌, ◌≤◌, ℤ, ◌-ℤ◌, ◌≤ℤ◌, ◌⊎◌, length, slice_index_or}
use Rattle.std.specs.List.{AllByRecursion}
use Rattle.fix_point.specs.declared.rate.Rate.{Rate}
use Rattle.fix_point.specs.Rates.{ceil_step, floor_step}
use Rattle.order_window.specs.declared.key.Key.{Key}
use Rattle.order_window.specs.declared.orders.Orders.{Orders}
use Rattle.order_window.specs.Orders.{AreOrders}
use Rattle.order_window.specs.Window.{IsAfter}

-- the number from which the greatest step, or the least one, leads to a key
unfoldable pub before_floor : Rate → ℕ → Key → Key → ℤ
before_floor rate d own key = key.value -ℤ floor_step rate d (key.ticks -ℤ own.ticks)

unfoldable pub before_ceil : Rate → ℕ → Key → Key → ℤ
before_ceil rate d own key = key.value -ℤ ceil_step rate d (key.ticks -ℤ own.ticks)

-- all keys come after the reading, within the window
pub record AreAfter (own : Key) (orders : Orders) : Type 0 where
  pub kept : AreOrders orders
  pub after : AllByRecursion (IsAfter orders.span own) orders.by_time.items

-- the candidate of the key at a place of each order
abbrev pub max_at : Orders → Key → ℕ → ℤ
max_at orders own place = before_floor orders.max orders.decimals own (slice_index_or orders.by_max.items place own)

abbrev pub min_at : Orders → Key → ℕ → ℤ
min_at orders own place = before_ceil orders.min orders.decimals own (slice_index_or orders.by_min.items place own)

abbrev pub count_of : Orders → ℕ
count_of orders = length orders.by_time.items

-- Of two rising sequences of as many numbers: so many of the first one, and the others of that many from the second one,
-- are the lower half of all. None of them is greater than one of the upper half.
pub record IsSplit (first second : ℕ → ℤ) (count split : ℕ) : Type 0 where
  pub within : split ≤ count
  pub low_first : 0 < split → first (split - 1) ≤ℤ second (count - split)
  pub low_second : split < count → second ((count - 1) - split) ≤ℤ first split

-- what a search for the split has found: it is from `low` to `high`
pub record IsSplitBetween (first second : ℕ → ℤ) (count low high : ℕ) : Type 0 where
  pub order : low ≤ high
  pub within : high ≤ count
  pub low_first : 0 < low → first (low - 1) ≤ℤ second (count - low)
  pub low_second : high < count → second ((count - 1) - high) ≤ℤ first high

-- the greatest number of the lower half
pub record IsLowerEnd (first second : ℕ → ℤ) (count split : ℕ) (end : ℤ) : Type 0 where
  pub above_first : 0 < split → first (split - 1) ≤ℤ end
  pub above_second : split < count → second ((count - 1) - split) ≤ℤ end
  pub one : ((0 < split) × (end ≡ first (split - 1))) ⊎ ((split < count) × (end ≡ second ((count - 1) - split)))

-- the least number of the upper half
pub record IsUpperEnd (first second : ℕ → ℤ) (count split : ℕ) (end : ℤ) : Type 0 where
  pub below_first : split < count → end ≤ℤ first split
  pub below_second : 0 < split → end ≤ℤ second (count - split)
  pub one : ((split < count) × (end ≡ first split)) ⊎ ((0 < split) × (end ≡ second (count - split)))
