-- The limits of rises, as the code computes them.
use Rattle.std.proofs.Common.{◌≡◌, ℕ, ◌*◌, ◌^◌, ◌<◌, ◌≤◌, ℤ, pos, neg_ℤ, ◌-ℤ◌, ◌≤ℤ◌, FitsSigned, to_z, of_z, refl, sym, ap, ◌∙◌, subst, arith}
use Rattle.std.specs.Prelude.{unsigned_abs, Option, Some, None, Bool, true, false, ◌&&◌, int_le, if◌then◌else◌}
use Rattle.std.specs.Int.{w64, w128}
use Rattle.std.proofs.lemmas.Bool.{false≢true}
use Rattle.std.proofs.lemmas.Int.{ints, to_z-of_z}
use Rattle.fix_point.specs.declared.rate.Rate.{Rate}
use Rattle.fix_point.specs.Rates.{IsRate, IsInReach, IsWithinReach, IsFloor, IsCeil, floor_step, ceil_step}
use Rattle.fix_point.proofs.Rates.{one_floor, one_ceil, floor_of, ceil_of_floor, reach_of_fewer, step_fits}
use Rattle.screen_model.specs.declared.bound.Bound.{Bound}
use Rattle.screen_model.specs.declared.bound.Side.{Side}
use Rattle.screen_model.specs.declared.place.Place.{Place}
use Rattle.screen_model.specs.declared.bound.Side.TheVariants.{Up, Down}
use Rattle.pair_bounds.specs.Pairs.{limit_on, rate_limit, is_within, rise_bound}

-- ---- steps

pub floor_is : (rate : Rate) (d : ℕ) (dt step : ℤ) → 1 ≤ rate.per → IsFloor rate d dt step → step ≡ floor_step rate d dt
floor_is rate d dt step some floor = one_floor rate d dt step _ floor (floor_of rate d dt _ _ some refl refl)

pub ceil_is : (rate : Rate) (d : ℕ) (dt step : ℤ) → 1 ≤ rate.per → IsCeil rate d dt step → step ≡ ceil_step rate d dt
ceil_is rate d dt step some ceil = one_ceil rate d dt step _ ceil (ceil_of_floor rate d dt _ (floor_of (record { millionths = neg_ℤ rate.millionths; per = rate.per }) d dt _ _ some refl refl))

pub up_is : (min max : Rate) (d : ℕ) (dt ticks step : ℤ) (side : Side) → 1 ≤ max.per → ticks ≡ dt → IsFloor max d ticks step → unsigned_abs step ≤ 4 * 10 ^ 15 → side ≡ Up → to_z w64 (of_z w64 step) ≡ rate_limit min max d dt side
up_is min max d dt ticks step side some same floor small is =
    to_z-of_z w64 step (step_fits step small) ∙ floor_is max d dt step some (subst (λ t. IsFloor max d t step) same floor)
    ∙ ap (λ s. limit_on s (ceil_step min d dt) (floor_step max d dt)) (sym is)

pub down_is : (min max : Rate) (d : ℕ) (dt ticks step result : ℤ) (side : Side) → 1 ≤ min.per → ticks ≡ dt → IsCeil min d ticks step → unsigned_abs step ≤ 4 * 10 ^ 15 → result ≡ neg_ℤ (to_z w64 (of_z w64 step)) → side ≡ Down → to_z w64 (of_z w64 result) ≡ rate_limit min max d dt side
down_is min max d dt ticks step result side some same ceil small turned is =
    let step_same = to_z-of_z w64 step (step_fits step small) in
    let fits : FitsSigned w64 result = omega (arith, ints, turned, step_same, small) in
    to_z-of_z w64 result fits ∙ turned ∙ ap (λ z. neg_ℤ z) (step_same ∙ ceil_is min d dt step some (subst (λ t. IsCeil min d t step) same ceil))
    ∙ ap (λ s. limit_on s (ceil_step min d dt) (floor_step max d dt)) (sym is)

-- ---- the ticks of a pair

pub elapsed_is : (window : ℤ) (ticks : ℤ) → ticks ≤ℤ window → window ≤ℤ pos (10 ^ 17) → pos 1 ≤ℤ ticks → to_z w64 (of_z w64 (to_z w128 (of_z w128 ticks))) ≡ ticks
elapsed_is window ticks most small least =
    let wide = to_z-of_z w128 ticks (omega (arith, ints, most, small, least)) in
    ap (λ t. to_z w64 (of_z w64 t)) wide ∙ to_z-of_z w64 ticks (omega (arith, ints, most, small, least))

-- ---- tests of ticks

and_left : (a b : Bool) → (a && b) ≡ true → a ≡ true
and_left true b h = refl
and_left false b h = h

and_right : (a b : Bool) → (a && b) ≡ true → b ≡ true
and_right true b h = h
and_right false b h = absurd (false≢true h)

-- the ticks lie between the two numbers
pub record AreWithin (least most ticks : ℤ) : Type 0 where
  pub low : least ≤ℤ ticks
  pub high : ticks ≤ℤ most

pub within_is : (least most ticks : ℤ) → is_within least most ticks ≡ true → AreWithin least most ticks
within_is least most ticks h = record {
  low = omega (arith, ints, and_left (int_le least ticks) (int_le ticks most) h);
  high = omega (arith, ints, and_right (int_le least ticks) (int_le ticks most) h);
}

pub drift_reach : (rate : Rate) (d : ℕ) (over window ticks seen : ℤ) → IsRate rate → d ≤ 6 → pos 1 ≤ℤ over → window ≤ℤ pos (10 ^ 17) → IsInReach d rate window → seen ≡ ticks → AreWithin over window ticks → IsWithinReach rate d seen
drift_reach rate d over window ticks seen is_rate few some span reach same within =
    let whole : IsWithinReach rate d window = record {
      limited = is_rate;
      decimals = few;
      ticks_least = omega (arith, ints, some, within.low, within.high);
      ticks_most = span;
      reach = reach;
    } in
    reach_of_fewer rate d window seen whole (omega (arith, ints, same, some, within.low)) (omega (arith, ints, same, within.high))

-- what a test of the ticks says, where the code holds the numbers as these
pub tested : (least most ticks l m t : ℤ) (r : Bool) → l ≡ least → m ≡ most → t ≡ ticks → r ≡ is_within l m t → r ≡ true → is_within least most ticks ≡ true
tested least most ticks l m t r a b e is h = ap (λ x. is_within x most ticks) (sym a) ∙ ap (λ x. is_within l x ticks) (sym b) ∙ ap (λ x. is_within l m x) (sym e) ∙ sym is ∙ h

-- what such a test chooses
pub chosen : (least most ticks : ℤ) (bound wanted : Bound) → is_within least most ticks ≡ true → bound ≡ wanted → Some bound ≡ (if is_within least most ticks then Some wanted else None)
chosen least most ticks bound wanted within same = ap (λ b. Some b) same ∙ ap (λ b. if b then Some wanted else None) (sym within)

-- the bound on a rise between two places and with a limit that the code holds as these
pub same_bound : (number : ℕ) (from to p q : Place) (limit z : ℤ) (side : Side) (bound : Bound) → bound ≡ rise_bound number p q z side → p ≡ from → q ≡ to → z ≡ limit → bound ≡ rise_bound number from to limit side
same_bound number from to p q limit z side bound is a b e =
    is ∙ ap (λ x. rise_bound number x q z side) a ∙ ap (λ x. rise_bound number from x z side) b ∙ ap (λ x. rise_bound number from to x side) e

-- a limit of numbers that the code holds as these
pub same_limit : (side : Side) (least most l m z : ℤ) → z ≡ limit_on side l m → l ≡ least → m ≡ most → z ≡ limit_on side least most
same_limit side least most l m z is a b = is ∙ ap (λ x. limit_on side x m) a ∙ ap (λ x. limit_on side least x) b
