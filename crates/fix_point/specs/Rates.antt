-- To be believed: whole steps at a rate.
use Rattle.std.specs.Prelude.{ℕ, ◌*◌, ◌^◌, ◌≤◌, ℤ, pos, neg_ℤ, ◌*ℤ◌, ◌≤ℤ◌, unsigned_abs}
use Rattle.std.specs.Int.{int_div_euclid}
use Rattle.fix_point.specs.declared.rate.Rate.{Rate}
use Rattle.fix_point.specs.declared.rate.TheConstants.{MOST_MILLIONTHS, MOST_PER, MOST_SPAN, MOST_REACH}

-- The size and the seconds of a rate are within their limits.
pub record IsRate (rate : Rate) : Type 0 where
  pub size : unsigned_abs rate.millionths ≤ MOST_MILLIONTHS
  pub per_least : 1 ≤ rate.per
  pub per_most : rate.per ≤ MOST_PER

-- in so many ticks the rate allows at most 4·10^15 units of 10^-d
abbrev pub IsInReach : ℕ → Rate → ℤ → Type 0
IsInReach d rate ticks = unsigned_abs rate.millionths * 10 ^ d * unsigned_abs ticks ≤ MOST_REACH * rate.per

-- The rate, the decimals and the ticks are within their limits, and the rate reaches no further in those ticks
-- than it may.
pub record IsWithinReach (rate : Rate) (d : ℕ) (dt : ℤ) : Type 0 where
  pub limited : IsRate rate
  pub decimals : d ≤ 6
  pub ticks_least : pos 1 ≤ℤ dt
  pub ticks_most : dt ≤ℤ pos MOST_SPAN
  pub reach : IsInReach d rate dt

-- In dt ticks a change of so many units is within the rate, which allows its millionths of a whole in each
-- `per` seconds; a unit is 10^-d, and a second has 10^9 ticks.
abbrev pub IsAtMost : Rate → ℕ → ℤ → ℤ → Type 0
IsAtMost rate d dt step = (step *ℤ pos (rate.per * 10 ^ 15)) ≤ℤ ((rate.millionths *ℤ pos (10 ^ d)) *ℤ dt)

abbrev pub IsAtLeast : Rate → ℕ → ℤ → ℤ → Type 0
IsAtLeast rate d dt step = ((rate.millionths *ℤ pos (10 ^ d)) *ℤ dt) ≤ℤ (step *ℤ pos (rate.per * 10 ^ 15))

-- the greatest whole step that is at most the rate
pub record IsFloor (rate : Rate) (d : ℕ) (dt : ℤ) (step : ℤ) : Type 0 where
  pub within : IsAtMost rate d dt step
  pub greatest : (other : ℤ) → IsAtMost rate d dt other → other ≤ℤ step

-- the least whole step that is at least the rate
pub record IsCeil (rate : Rate) (d : ℕ) (dt : ℤ) (step : ℤ) : Type 0 where
  pub within : IsAtLeast rate d dt step
  pub least : (other : ℤ) → IsAtLeast rate d dt other → step ≤ℤ other

-- the rate of the opposite change
abbrev pub opposite : Rate → Rate
opposite rate = record { millionths = neg_ℤ rate.millionths; per = rate.per }

-- The greatest whole step that is at most the rate: its change in the ticks, rounded down.
abbrev pub floor_step : Rate → ℕ → ℤ → ℤ
floor_step rate d dt = int_div_euclid ((rate.millionths *ℤ pos (10 ^ d)) *ℤ dt) (pos (rate.per * 10 ^ 15))

-- The least whole step that is at least the rate: the greatest one of the opposite rate, turned.
abbrev pub ceil_step : Rate → ℕ → ℤ → ℤ
ceil_step rate d dt = neg_ℤ (floor_step (opposite rate) d dt)
