-- How far a number lies above 0, against the test of a bound.
use Rattle.std.proofs.Common.{◌≡◌, zero, suc, ◌<◌, ◌≤◌, ℤ, pos, negsuc, ◌-ℤ◌, ◌≤ℤ◌, ◌<ℤ◌, true, false, refl, arith}
use Rattle.std.specs.Prelude.{unsigned_abs, int_le}
use Rattle.std.proofs.lemmas.Int.{ints}
use Rattle.screen_model.specs.Cost.{above_zero}

pub above_positive : (z : ℤ) → pos 0 <ℤ z → unsigned_abs z ≡ above_zero z
above_positive (pos n) h = refl
above_positive (negsuc n) h = absurd (omega (arith, ints, h))

pub above_none : (z : ℤ) → z ≤ℤ pos 0 → above_zero z ≡ 0
above_none (pos zero) h = refl
above_none (pos (suc n)) h = absurd (omega (arith, ints, h))
above_none (negsuc n) h = refl

-- something above 0 stands above, and else nothing
pub above_is_some : (z : ℤ) → 0 < above_zero z → pos 0 <ℤ z
above_is_some (pos n) h = omega (arith, ints, h)
above_is_some (negsuc n) h = absurd (omega (arith, h))

pub above_is_none : (z : ℤ) → above_zero z ≤ 0 → z ≤ℤ pos 0
above_is_none (pos n) h = omega (arith, ints, h)
above_is_none (negsuc n) h = omega (arith, ints)

pub not_kept : (rise limit : ℤ) → 0 < above_zero (rise -ℤ limit) → int_le rise limit ≡ false
not_kept rise limit h = let above = above_is_some (rise -ℤ limit) h in grind (arith, ints)

pub kept : (rise limit : ℤ) → above_zero (rise -ℤ limit) ≤ 0 → int_le rise limit ≡ true
kept rise limit h = let below = above_is_none (rise -ℤ limit) h in grind (arith, ints)
