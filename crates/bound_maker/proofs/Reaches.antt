-- The limits of rates, of differences and of values are at most 4·10^15 in size.
use Rattle.std.proofs.Common.{◌≡◌, ℕ, ◌*◌, ◌^◌, ◌≤◌, ℤ, pos, neg_ℤ, ◌≤ℤ◌, true, refl, arith}
use Rattle.std.specs.Prelude.{unsigned_abs}
use Rattle.std.proofs.lemmas.Int.{ints}
use Rattle.words.proofs.Products.{size_within}
use Rattle.fix_point.specs.declared.rate.Rate.{Rate}
use Rattle.fix_point.specs.declared.scale.TheConstants.{MOST_UNITS}
use Rattle.fix_point.specs.Rates.{IsInReach, IsRate, IsWithinReach, ceil_step, floor_step, opposite}
use Rattle.fix_point.proofs.Rates.{ceil_of_floor, ceil_small, floor_of, reach_of_fewer, size_of_neg, step_small}
use Rattle.screen_model.specs.declared.bound.Side.{Side}
use Rattle.screen_model.specs.declared.bound.Side.TheVariants.{Up, Down}
use Rattle.rule_file.specs.Limits.{AreInReach, AreRates, IsSpan, IsUnits}
use Rattle.pair_bounds.specs.Pairs.{is_within, limit_on, rate_limit}
use Rattle.bound_maker.proofs.Chains.{lie_within}

-- at most 4·10^15 in size
abbrev pub IsLimited : ℤ → Type 0
IsLimited limit = unsigned_abs limit ≤ 4 * 10 ^ 15

-- a limit on either side
pub sides_limited : (least most : ℤ) → IsLimited least → IsLimited most → (side : Side) → IsLimited (limit_on side least most)
sides_limited least most low high Up = high
sides_limited least most low high Down = let same = size_of_neg least in omega (arith, same, low)

-- ---- rates

floor_limited : (rate : Rate) (d : ℕ) (dt : ℤ) → IsWithinReach rate d dt → IsLimited (floor_step rate d dt)
floor_limited rate d dt within = step_small rate d dt (floor_step rate d dt) within.limited.per_least within.reach (floor_of rate d dt _ _ within.limited.per_least refl refl)

ceil_limited : (rate : Rate) (d : ℕ) (dt : ℤ) → IsWithinReach rate d dt → IsLimited (ceil_step rate d dt)
ceil_limited rate d dt within = ceil_small rate d dt (ceil_step rate d dt) within (ceil_of_floor rate d dt _ (floor_of (opposite rate) d dt _ _ within.limited.per_least refl refl))

in_window : (rate : Rate) (d : ℕ) (window : ℤ) → IsRate rate → d ≤ 6 → IsSpan window → IsInReach d rate window → IsWithinReach rate d window
in_window rate d window is few span reach = record { limited = is; decimals = few; ticks_least = span.0; ticks_most = span.1; reach = reach }

pub rates_limited : (min max : Rate) (d : ℕ) (window dt : ℤ) → AreRates min max → d ≤ 6 → IsSpan window → AreInReach d min max window → pos 1 ≤ℤ dt → dt ≤ℤ window → (side : Side) → IsLimited (rate_limit min max d dt side)
rates_limited min max d window dt rates few span reach some within =
    sides_limited (ceil_step min d dt) (floor_step max d dt)
    (ceil_limited min d dt (reach_of_fewer min d window dt (in_window min d window rates.min few span reach.0) some within))
    (floor_limited max d dt (reach_of_fewer max d window dt (in_window max d window rates.max few span reach.1) some within))

later : (over dt : ℤ) → pos 1 ≤ℤ over → over ≤ℤ dt → pos 1 ≤ℤ dt
later over dt least h = omega (arith, ints, least, h)

-- where the ticks lie within the times of a rule
pub test_limited : (min max : Rate) (d : ℕ) (over window dt : ℤ) → AreRates min max → d ≤ 6 → pos 1 ≤ℤ over → IsSpan window → AreInReach d min max window → is_within over window dt ≡ true → (side : Side) → IsLimited (rate_limit min max d dt side)
test_limited min max d over window dt rates few least span reach test =
    let lies = lie_within over window dt test in
    rates_limited min max d window dt rates few span reach (later over dt least lies.low) lies.high

-- ---- units

pub units_limited : (value : ℤ) → IsUnits value → IsLimited value
units_limited value units = let small = size_within value (10 ^ 15) units.0 units.1 in omega (arith, small)

pub small_limited : (value : ℤ) → unsigned_abs value ≤ 10 ^ 15 → IsLimited value
small_limited value small = omega (arith, small)

pub opposite_limited : (value : ℤ) → IsLimited value → IsLimited (neg_ℤ value)
opposite_limited value limited = let same = size_of_neg value in omega (arith, same, limited)

pub most_limited : IsLimited MOST_UNITS
most_limited = omega arith

pub least_limited : IsLimited (neg_ℤ MOST_UNITS)
least_limited = omega arith
