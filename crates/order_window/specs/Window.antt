-- To be believed: the keys of a window, what adds one to them, and the median of a reading before them.
use Rattle.std.specs.Prelude.{◌≡◌, ℕ, ◌≤◌, ℤ, pos, ◌-ℤ◌, ◌≤ℤ◌, ◌<ℤ◌, List, ◌∷◌, ◌++◌, All, unsigned_abs}
use Rattle.std.specs.List.{AllZip}
use Rattle.fix_point.specs.RateLimits.{RateLimits, AreSteps}
use Rattle.window_median.specs.declared.cost.Near.{Near}
use Rattle.window_median.specs.LocalCost.{candidates}
use Rattle.window_median.specs.Median.{IsMedian}
use Rattle.order_window.specs.declared.key.Key.{Key}

-- The keys in order of time, and for how many there is room; the two rates of the speed rule, with the decimals; and the
-- window of the rule, in ticks.
pub record Window : Type 0 where
  pub keys : List Key
  pub room : ℕ
  pub rates : RateLimits
  pub span : ℤ

-- the times of two keys are apart, by at most the window
pub record AreApart (span : ℤ) (key other : Key) : Type 0 where
  pub least : 1 ≤ unsigned_abs (key.ticks -ℤ other.ticks)
  pub most : pos (unsigned_abs (key.ticks -ℤ other.ticks)) ≤ℤ span

-- a key comes after another one, within the window
pub record IsAfter (span : ℤ) (own key : Key) : Type 0 where
  pub least : pos 1 ≤ℤ (key.ticks -ℤ own.ticks)
  pub most : (key.ticks -ℤ own.ticks) ≤ℤ span

-- the new keys are the old ones, and one more at its place in the order of time
pub record IsAdded (key : Key) (old new : List Key) : Type 0 where
  pub before : List Key
  pub after : List Key
  pub old_is : old ≡ before ++ after
  pub new_is : new ≡ before ++ key ∷ after
  pub earlier : All (λ other. other.ticks <ℤ key.ticks) before
  pub later : All (λ other. key.ticks <ℤ other.ticks) after

-- a key as a successor of a reading: its value, and the least and the greatest step in the time between them
pub record IsSuccessor (rates : RateLimits) (own key : Key) (near : Near) : Type 0 where
  pub value : near.value ≡ key.value
  pub steps : AreSteps rates (key.ticks -ℤ own.ticks) near.least near.most

-- the median of the candidates of a reading, of which the keys are the successors
pub record IsMedianOf (window : Window) (own : Key) (median : ℤ) : Type 0 where
  pub near : List Near
  pub successors : AllZip (IsSuccessor window.rates own) window.keys near
  pub middle : IsMedian (candidates own.value near) median
