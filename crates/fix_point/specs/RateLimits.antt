-- To be believed: the least and the greatest whole step between two rates.
use Rattle.std.specs.Prelude.{ℕ, ℤ}
use Rattle.fix_point.specs.declared.rate.Rate.{Rate}
use Rattle.fix_point.specs.Rates.{IsFloor, IsCeil, IsWithinReach}

-- a lower and an upper rate, for units of so many decimals
pub record RateLimits : Type 0 where
  pub min : Rate
  pub max : Rate
  pub decimals : ℕ

-- in so many ticks both rates reach no further than they may
pub record AreWithinReach (limits : RateLimits) (dt : ℤ) : Type 0 where
  pub min : IsWithinReach limits.min limits.decimals dt
  pub max : IsWithinReach limits.max limits.decimals dt

-- the least whole step that is at least the lower rate, and the greatest that is at most the upper one
pub record AreSteps (limits : RateLimits) (dt least greatest : ℤ) : Type 0 where
  pub ceil : IsCeil limits.min limits.decimals dt least
  pub floor : IsFloor limits.max limits.decimals dt greatest
