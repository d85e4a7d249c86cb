-- Whole steps of rates.
use Rattle.std.proofs.Common.{◌≡◌, ℕ, ◌*◌, ◌^◌, ◌<◌, ◌≤◌, ℤ, pos, negsuc, neg_ℤ, ◌+ℤ◌, ◌-ℤ◌, ◌*ℤ◌, ◌≤ℤ◌, FitsSigned, to_z, of_z, sym, ap, ◌∙◌, subst, arith}
use Rattle.std.specs.Prelude.{unsigned_abs}
use Rattle.std.specs.Int.{w64, w128, int_div_euclid}
use Rattle.std.proofs.Math.IntN.{*ℤ-zero, zero-*ℤ, neg_ℤ-neg_ℤ}
use Rattle.std.proofs.Math.Nat.{mul-le-mul_left}
use Rattle.std.proofs.lemmas.Int.{ints, unsigned_abs-mul, fits_signed_mul, fits_signed_from_abs, to_z-of_z, to_z_pos}
use Rattle.words.proofs.Products.{sum_mul, mul_sum, neg_mul, within_size, size_within, size_of_minus, le_of_mul-le, at_most_floor}
use Rattle.fix_point.specs.declared.rate.Rate.{Rate}
use Rattle.fix_point.proofs.Sizes.{powers}
use Rattle.fix_point.specs.Rates.{IsInReach, IsWithinReach, IsFloor, IsCeil, opposite}

-- ---- laws of steps

same_of : (one other : ℤ) → one ≤ℤ other → other ≤ℤ one → one ≡ other
same_of one other g h = omega (arith, ints, g, h)

pub one_floor : (rate : Rate) (d : ℕ) (dt one other : ℤ) → IsFloor rate d dt one → IsFloor rate d dt other → one ≡ other
one_floor rate d dt one other x y = same_of one other (y.greatest one x.within) (x.greatest other y.within)

pub one_ceil : (rate : Rate) (d : ℕ) (dt one other : ℤ) → IsCeil rate d dt one → IsCeil rate d dt other → one ≡ other
one_ceil rate d dt one other x y = same_of one other (x.least other y.within) (y.least one x.within)

sums_within : (a b c d e f : ℤ) → a ≤ℤ c → b ≤ℤ d → e ≡ a +ℤ b → f ≡ c +ℤ d → e ≤ℤ f
sums_within a b c d e f g h i j = omega (arith, ints, g, h, i, j)

pub floors_add_up : (rate : Rate) (d : ℕ) (p q a b c : ℤ) → IsFloor rate d p a → IsFloor rate d q b → IsFloor rate d (p +ℤ q) c → (a +ℤ b) ≤ℤ c
floors_add_up rate d p q a b c x y z =
    let whole = pos (rate.per * 10 ^ 15) in
    let change = rate.millionths *ℤ pos (10 ^ d) in
    z.greatest (a +ℤ b) (sums_within (a *ℤ whole) (b *ℤ whole) (change *ℤ p) (change *ℤ q) ((a +ℤ b) *ℤ whole) (change *ℤ (p +ℤ q)) x.within y.within (sum_mul a b whole) (mul_sum change p q))

pub ceils_add_up : (rate : Rate) (d : ℕ) (p q a b c : ℤ) → IsCeil rate d p a → IsCeil rate d q b → IsCeil rate d (p +ℤ q) c → c ≤ℤ (a +ℤ b)
ceils_add_up rate d p q a b c x y z =
    let whole = pos (rate.per * 10 ^ 15) in
    let change = rate.millionths *ℤ pos (10 ^ d) in
    z.least (a +ℤ b) (sums_within (change *ℤ p) (change *ℤ q) (a *ℤ whole) (b *ℤ whole) (change *ℤ (p +ℤ q)) ((a +ℤ b) *ℤ whole) x.within y.within (mul_sum change p q) (sum_mul a b whole))

-- in no time there is no step
pub no_floor : (rate : Rate) (d : ℕ) → 1 ≤ rate.per → IsFloor rate d (pos 0) (pos 0)
no_floor rate d some =
    let whole = rate.per * 10 ^ 15 in
    let none = *ℤ-zero (rate.millionths *ℤ pos (10 ^ d)) in
    let nothing = zero-*ℤ (pos whole) in
    record {
      within = omega (arith, ints, none, nothing);
      greatest = λ other h. le_of_mul-le other 0 whole (omega (arith, some)) (omega (arith, ints, none, h));
    }

pub floor_of : (rate : Rate) (d : ℕ) (dt change step : ℤ) → 1 ≤ rate.per → change ≡ (rate.millionths *ℤ pos (10 ^ d)) *ℤ dt → step ≡ int_div_euclid change (pos (rate.per * 10 ^ 15)) → IsFloor rate d dt step
floor_of rate d dt change step some change_is step_is =
    let whole : 0 < rate.per * 10 ^ 15 = omega (arith, some) in
    let same = λ (other : ℤ) (h : (other *ℤ pos (rate.per * 10 ^ 15)) ≤ℤ change). subst (λ c. (other *ℤ pos (rate.per * 10 ^ 15)) ≤ℤ c) change_is h in
    record {
      within = same step ((at_most_floor change step (rate.per * 10 ^ 15) whole).0 (omega (arith, ints, step_is)));
      greatest = λ other h. subst (λ c. other ≤ℤ c) (sym step_is) ((at_most_floor change other (rate.per * 10 ^ 15) whole).1 (subst (λ c. (other *ℤ pos (rate.per * 10 ^ 15)) ≤ℤ c) (sym change_is) h));
    }

-- ---- sizes of steps

-- such a step is small
pub step_small : (rate : Rate) (d : ℕ) (dt step : ℤ) → 1 ≤ rate.per → IsInReach d rate dt → IsFloor rate d dt step → unsigned_abs step ≤ 4 * 10 ^ 15
step_small rate d dt step some fits floor =
    let whole : 0 < rate.per * 10 ^ 15 = omega (arith, some) in
    let change = (rate.millionths *ℤ pos (10 ^ d)) *ℤ dt in
    let size : unsigned_abs change ≡ unsigned_abs rate.millionths * 10 ^ d * unsigned_abs dt = unsigned_abs-mul (rate.millionths *ℤ pos (10 ^ d)) dt ∙ ap (λ n. n * unsigned_abs dt) (unsigned_abs-mul rate.millionths (pos (10 ^ d))) in
    let abs = within_size change (4 * 10 ^ 15 * (rate.per * 10 ^ 15)) (omega (arith, size, fits)) in
    size_within step (4 * 10 ^ 15)
    (floor.greatest (neg_ℤ (pos (4 * 10 ^ 15))) (omega (arith, ints, abs.0)))
    (le_of_mul-le step (4 * 10 ^ 15) (rate.per * 10 ^ 15) whole (omega (arith, ints, floor.within, abs.1)))

-- ---- a ceiling is the floor of the opposite rate, turned

neg_is : (z : ℤ) → neg_ℤ z ≡ pos 0 -ℤ z
neg_is z = omega (arith, ints)

neg_neg : (x y : ℤ) → y ≡ neg_ℤ x → x ≡ neg_ℤ y
neg_neg x y e = omega (arith, ints, e)

turned_le : (x y turned ceil : ℤ) → turned ≡ neg_ℤ x → ceil ≡ neg_ℤ y → x ≤ℤ y → ceil ≤ℤ turned
turned_le x y turned ceil e f h = omega (arith, ints, e, f, h)

turned_back : (x y turned ceil : ℤ) → turned ≡ neg_ℤ x → ceil ≡ neg_ℤ y → turned ≤ℤ ceil → y ≤ℤ x
turned_back x y turned ceil e f h = omega (arith, ints, e, f, h)

turn_left : (x y : ℤ) → neg_ℤ x ≤ℤ y → neg_ℤ y ≤ℤ x
turn_left x y h = omega (arith, ints, h)

turn_both : (x y : ℤ) → neg_ℤ x ≤ℤ neg_ℤ y → y ≤ℤ x
turn_both x y h = omega (arith, ints, h)

-- the change of the opposite rate
change_turned : (z : ℤ) (d : ℕ) (dt : ℤ) → (neg_ℤ z *ℤ pos (10 ^ d)) *ℤ dt ≡ neg_ℤ ((z *ℤ pos (10 ^ d)) *ℤ dt)
change_turned z d dt = ap (λ x. x *ℤ dt) (neg_mul z (pos (10 ^ d))) ∙ neg_mul (z *ℤ pos (10 ^ d)) dt

pub ceil_of_floor : (rate : Rate) (d : ℕ) (dt step : ℤ) → IsFloor (opposite rate) d dt step → IsCeil rate d dt (neg_ℤ step)
ceil_of_floor rate d dt step floor =
    let change = (rate.millionths *ℤ pos (10 ^ d)) *ℤ dt in
    let turned = (neg_ℤ rate.millionths *ℤ pos (10 ^ d)) *ℤ dt in
    let whole = pos (rate.per * 10 ^ 15) in
    let is_turned = change_turned rate.millionths d dt in
    record {
      within = turned_back (neg_ℤ step *ℤ whole) change (step *ℤ whole) turned (neg_neg (step *ℤ whole) (neg_ℤ step *ℤ whole) (neg_mul step whole)) is_turned floor.within;
      least = λ other h. turn_left other step (floor.greatest (neg_ℤ other) (turned_le change (other *ℤ whole) turned (neg_ℤ other *ℤ whole) is_turned (neg_mul other whole) h));
    }

pub no_ceil : (rate : Rate) (d : ℕ) → 1 ≤ rate.per → IsCeil rate d (pos 0) (pos 0)
no_ceil rate d some = ceil_of_floor rate d (pos 0) (pos 0) (no_floor (opposite rate) d some)

pub floor_of_ceil : (rate : Rate) (d : ℕ) (dt step : ℤ) → IsCeil rate d dt (neg_ℤ step) → IsFloor (opposite rate) d dt step
floor_of_ceil rate d dt step ceil =
    let change = (rate.millionths *ℤ pos (10 ^ d)) *ℤ dt in
    let turned = (neg_ℤ rate.millionths *ℤ pos (10 ^ d)) *ℤ dt in
    let whole = pos (rate.per * 10 ^ 15) in
    let is_turned = change_turned rate.millionths d dt in
    record {
      within = turned_le change (neg_ℤ step *ℤ whole) turned (step *ℤ whole) is_turned (neg_neg (step *ℤ whole) (neg_ℤ step *ℤ whole) (neg_mul step whole)) ceil.within;
      greatest = λ other h. turn_both step other (ceil.least (neg_ℤ other) (turned_back (neg_ℤ other *ℤ whole) change (other *ℤ whole) turned (neg_neg (other *ℤ whole) (neg_ℤ other *ℤ whole) (neg_mul other whole)) is_turned h));
    }

-- ---- the product in 128 bits

pub wide : (z r : ℤ) → FitsSigned w64 z → r ≡ to_z w64 (of_z w64 z) → to_z w128 (of_z w128 r) ≡ z
wide z r fits e = omega (arith, ints, e)

pub wide_pos : (n : ℕ) (r : ℤ) → n < 2 ^ 64 → r ≡ pos n → to_z w128 (of_z w128 r) ≡ pos n
wide_pos n r small e = omega (arith, ints, e)

pub power_small : (d : ℕ) → d ≤ 6 → 10 ^ d ≤ 10 ^ 6
power_small d h = powers d 6 h

-- the product of two numbers as the code has them
pub record IsProduct (a b product : ℤ) : Type 0 where
  pub fits : FitsSigned w128 (a *ℤ b)
  pub same : to_z w128 (of_z w128 (a *ℤ b)) ≡ product

pub product_of : (a b x y : ℤ) (m n : ℕ) → a ≡ x → b ≡ y → unsigned_abs x ≤ m → unsigned_abs y ≤ n → m * n < 2 ^ 127 → IsProduct a b (x *ℤ y)
product_of a b x y m n e f g h small =
    let fits : FitsSigned w128 (x *ℤ y) = fits_signed_mul w128 x y m n g h small in
    record {
      fits = subst (λ s. FitsSigned w128 (s *ℤ b)) (sym e) (subst (λ t. FitsSigned w128 (x *ℤ t)) (sym f) fits);
      same = ap (λ s. to_z w128 (of_z w128 (s *ℤ b))) e ∙ ap (λ t. to_z w128 (of_z w128 (x *ℤ t))) f ∙ to_z-of_z w128 (x *ℤ y) fits;
    }

pub whole_wide : (per : ℕ) (r : ℤ) → per ≤ 10 ^ 7 → r ≡ pos per → to_z w128 (of_z w128 (to_z w128 (of_z w128 r) *ℤ pos (10 ^ 15))) ≡ pos (per * 10 ^ 15)
whole_wide per r h e =
    ap (λ z. to_z w128 (of_z w128 (z *ℤ pos (10 ^ 15)))) (wide_pos per r (omega (arith, h)) e)
    ∙ to_z_pos w128 (per * 10 ^ 15) (omega (arith, h))

pub step_fits : (step : ℤ) → unsigned_abs step ≤ 4 * 10 ^ 15 → FitsSigned w64 step
step_fits step small = fits_signed_from_abs w64 step (omega (arith, small))

pub step_wide : (step : ℤ) → unsigned_abs step ≤ 4 * 10 ^ 15 → to_z w128 (of_z w128 step) ≡ step
step_wide step small = to_z-of_z w128 step (fits_signed_from_abs w128 step (omega (arith, small)))

pub change_fits : (millionths : ℤ) → unsigned_abs millionths ≤ 10 ^ 15 → FitsSigned w64 millionths
change_fits millionths h = fits_signed_from_abs w64 millionths (omega (arith, h))

pub minus_fits : (step : ℤ) → unsigned_abs step ≤ 4 * 10 ^ 15 → FitsSigned w64 (pos 0 -ℤ step)
minus_fits step small = fits_signed_from_abs w64 (pos 0 -ℤ step) (omega (arith, size_of_minus step, small))

-- the opposite rate as the code has it
pub opposite_is : (z : ℤ) → unsigned_abs z ≤ 10 ^ 15 → to_z w64 (of_z w64 (pos 0 -ℤ to_z w64 (of_z w64 z))) ≡ neg_ℤ z
opposite_is z h =
    ap (λ x. to_z w64 (of_z w64 (pos 0 -ℤ x))) (to_z-of_z w64 z (change_fits z h))
    ∙ to_z-of_z w64 (pos 0 -ℤ z) (fits_signed_from_abs w64 (pos 0 -ℤ z) (omega (arith, size_of_minus z, h)))
    ∙ sym (neg_is z)

-- the opposite step as the code has it
pub turned_is : (z : ℤ) → unsigned_abs z ≤ 4 * 10 ^ 15 → to_z w64 (of_z w64 (pos 0 -ℤ to_z w64 (of_z w64 z))) ≡ neg_ℤ z
turned_is z h =
    ap (λ x. to_z w64 (of_z w64 (pos 0 -ℤ x))) (to_z-of_z w64 z (step_fits z h))
    ∙ to_z-of_z w64 (pos 0 -ℤ z) (minus_fits z h)
    ∙ sym (neg_is z)

pub size_of_neg : (z : ℤ) → unsigned_abs (neg_ℤ z) ≡ unsigned_abs z
size_of_neg z = ap unsigned_abs (neg_is z) ∙ size_of_minus z

pub opposite_within : (rate : Rate) (d : ℕ) (dt : ℤ) → IsWithinReach rate d dt → IsWithinReach (opposite rate) d dt
opposite_within rate d dt within =
    let size = size_of_neg rate.millionths in
    record {
      limited = record { size = omega (arith, size, within.limited.size); per_least = within.limited.per_least; per_most = within.limited.per_most };
      decimals = within.decimals;
      ticks_least = within.ticks_least;
      ticks_most = within.ticks_most;
      reach = omega (arith, ap (λ n. n * 10 ^ d * unsigned_abs dt) size, within.reach);
    }

pub ceil_small : (rate : Rate) (d : ℕ) (dt step : ℤ) → IsWithinReach rate d dt → IsCeil rate d dt step → unsigned_abs step ≤ 4 * 10 ^ 15
ceil_small rate d dt step within ceil =
    let opposed = opposite_within rate d dt within in
    let floor = floor_of_ceil rate d dt (neg_ℤ step) (subst (λ s. IsCeil rate d dt s) (sym (neg_ℤ-neg_ℤ step)) ceil) in
    omega (arith, size_of_neg step, step_small (opposite rate) d dt (neg_ℤ step) opposed.limited.per_least opposed.reach floor)

-- ---- fewer ticks

size_le : (dt window : ℤ) → pos 1 ≤ℤ dt → dt ≤ℤ window → unsigned_abs dt ≤ unsigned_abs window
size_le (pos a) (pos b) some h = omega (arith, ints, h)
size_le (pos a) (negsuc b) some h = absurd (omega (arith, ints, some, h))
size_le (negsuc a) window some h = absurd (omega (arith, ints, some))

pub reach_of_fewer : (rate : Rate) (d : ℕ) (window dt : ℤ) → IsWithinReach rate d window → pos 1 ≤ℤ dt → dt ≤ℤ window → IsWithinReach rate d dt
reach_of_fewer rate d window dt within some fewer = record {
  limited = within.limited;
  decimals = within.decimals;
  ticks_least = some;
  ticks_most = omega (arith, ints, fewer, within.ticks_most);
  reach = omega (arith, mul-le-mul_left (unsigned_abs rate.millionths * 10 ^ d) (size_le dt window some fewer), within.reach);
}

-- ---- the steps as the code has them

-- a greatest step, and it is small
pub record IsSmallFloor (rate : Rate) (d : ℕ) (dt step : ℤ) : Type 0 where
  pub floor : IsFloor rate d dt step
  pub small : unsigned_abs step ≤ 4 * 10 ^ 15

pub divided_floor : (rate : Rate) (d : ℕ) (dt change per step : ℤ) → IsWithinReach rate d dt → FitsSigned w64 dt → FitsSigned w128 change
    → change ≡ (to_z w64 (of_z w64 rate.millionths) *ℤ pos (10 ^ d)) *ℤ to_z w64 (of_z w64 dt)
    → per ≡ pos rate.per
    → step ≡ int_div_euclid (to_z w128 (of_z w128 change)) (to_z w128 (of_z w128 (to_z w128 (of_z w128 per) *ℤ pos (10 ^ 15))))
    → IsSmallFloor rate d dt step
divided_floor rate d dt change per step within fits wide change_is per_is step_is =
    let same : to_z w128 (of_z w128 change) ≡ (rate.millionths *ℤ pos (10 ^ d)) *ℤ dt =
    to_z-of_z w128 change wide
    ∙ change_is
    ∙ ap (λ m. (m *ℤ pos (10 ^ d)) *ℤ to_z w64 (of_z w64 dt)) (to_z-of_z w64 rate.millionths (change_fits rate.millionths within.limited.size))
    ∙ ap (λ t. (rate.millionths *ℤ pos (10 ^ d)) *ℤ t) (to_z-of_z w64 dt fits) in
    let whole = whole_wide rate.per per within.limited.per_most per_is in
    let floor = floor_of rate d dt (to_z w128 (of_z w128 change)) step within.limited.per_least same (step_is ∙ ap (λ w. int_div_euclid (to_z w128 (of_z w128 change)) w) whole) in
    record { floor = floor; small = step_small rate d dt step within.limited.per_least within.reach floor }

pub cast_fits : (step : ℤ) → unsigned_abs step ≤ 4 * 10 ^ 15 → FitsSigned w64 (to_z w128 (of_z w128 step))
cast_fits step small = subst (λ s. FitsSigned w64 s) (sym (step_wide step small)) (step_fits step small)

pub cast_is : (step : ℤ) → unsigned_abs step ≤ 4 * 10 ^ 15 → to_z w64 (of_z w64 (to_z w128 (of_z w128 step))) ≡ step
cast_is step small = ap (λ s. to_z w64 (of_z w64 s)) (step_wide step small) ∙ to_z-of_z w64 step (step_fits step small)

pub turned_fits : (step : ℤ) → unsigned_abs step ≤ 4 * 10 ^ 15 → FitsSigned w64 (pos 0 -ℤ to_z w64 (of_z w64 step))
turned_fits step small = subst (λ s. FitsSigned w64 (pos 0 -ℤ s)) (sym (to_z-of_z w64 step (step_fits step small))) (minus_fits step small)

-- a least step, and it is small
pub record IsSmallCeil (rate : Rate) (d : ℕ) (dt step : ℤ) : Type 0 where
  pub ceil : IsCeil rate d dt step
  pub small : unsigned_abs step ≤ 4 * 10 ^ 15

pub turned_ceil : (rate : Rate) (d : ℕ) (dt millionths step ceil : ℤ) → millionths ≡ neg_ℤ rate.millionths → ceil ≡ neg_ℤ step
    → IsFloor (record { millionths = millionths; per = rate.per }) d dt step → unsigned_abs step ≤ 4 * 10 ^ 15 → IsSmallCeil rate d dt ceil
turned_ceil rate d dt millionths step ceil e f floor small = record {
  ceil = subst (λ c. IsCeil rate d dt c) (sym f) (ceil_of_floor rate d dt step (subst (λ m. IsFloor (record { millionths = m; per = rate.per }) d dt step) e floor));
  small = omega (arith, ap unsigned_abs f, size_of_neg step, small);
}
