-- Fractions with powers of ten, and the whole numbers that are taken for them.
use Rattle.std.proofs.Common.{◌≡◌, ◌⊎◌, ℕ, ◌+◌, ◌-◌, ◌*◌, ◌/◌, ◌%◌, ◌^◌, ◌<◌, ◌≤◌, min, Option, Some, None, Result, IfSome, IfNone, IfOk, IfErr, inl, inr, refl, sym, ap, ◌∙◌, subst, arith}
use Rattle.std.specs.Option.{ok_or}
use Rattle.std.proofs.Math.Nat.{pow-le-pow_right, mul-le-mul_left, mul-le-mul_right}
use Rattle.std.proofs.lemmas.Nat.{pow-add, div-add-mod', mod_below, same_from_place}
use Rattle.std.proofs.lemmas.Bool.{cases_lt, cases_eq}
use Rattle.fix_point.specs.declared.scale.Extra.{Extra}
use Rattle.fix_point.specs.declared.scale.Extra.TheVariants.{Refuse, Round}
use Rattle.fix_point.specs.declared.scale.NumFault.{NumFault}
use Rattle.fix_point.specs.declared.scale.NumFault.TheVariants.{OutOfRange}
use Rattle.fix_point.specs.Sizes.{IsNearestTo, IsTakenFor, IsSize, RefusesSize}

pub powers : (i j : ℕ) → i ≤ j → 10 ^ i ≤ 10 ^ j
powers i j h = pow-le-pow_right (omega arith) h

pub power_some : (n : ℕ) → 0 < 10 ^ n
power_some n = omega (arith, powers 0 n (omega arith))

-- ---- multiplied

pub ten_more : (size mantissa done : ℕ) → size ≡ mantissa * 10 ^ done → size * 10 ≡ mantissa * 10 ^ (done + 1)
ten_more size mantissa done e = omega (arith, e, ap (λ n. mantissa * n) (pow-add 10 done 1))

pub too_great : (size mantissa done tens most : ℕ) → size ≡ mantissa * 10 ^ done → done < tens → most / 10 < size → most < mantissa * 10 ^ tens
too_great size mantissa done tens most e h great =
    let next = ten_more size mantissa done e in
    let power = powers (done + 1) tens (omega arith) in
    omega (arith, next, mul-le-mul_left mantissa power, great)

pub too_great_first : (mantissa tens most : ℕ) → most < mantissa → most < mantissa * 10 ^ tens
too_great_first mantissa tens most h =
    let power = power_some tens in
    let more : mantissa * 1 ≤ mantissa * 10 ^ tens = mul-le-mul_left mantissa (omega arith) in
    omega (arith, more, h)

-- ---- divided

-- the power by which it is divided, or a lower one that is great enough
pub record IsPower (mantissa under power : ℕ) : Type 0 where
  pub some : 0 < power
  pub is : (power ≡ under) ⊎ ((2 * mantissa < power) × (power ≤ under))

pub is_power : (mantissa tens power : ℕ) → mantissa < 10 ^ 30 → power ≡ 10 ^ min tens 31 → IsPower mantissa (10 ^ tens) power
is_power mantissa tens power small e = elim (cases_lt 31 tens) as (λ _. IsPower mantissa (10 ^ tens) power) [
  | inl h ↦ let at : min tens 31 ≡ 31 = omega arith in
      let large = powers 31 tens (omega arith) in
      let is : power ≡ 10 ^ 31 = e ∙ ap (λ n. 10 ^ n) at in
      record { some = omega (arith, is); is = inr (omega (arith, is, small), omega (arith, is, large)) }
  | inr h ↦ let at : min tens 31 ≡ tens = omega arith in
      let is : power ≡ 10 ^ tens = e ∙ ap (λ n. 10 ^ n) at in
      record { some = omega (arith, is, power_some tens); is = inl is }
]

pub power_fits : (tens : ℕ) → 10 ^ min tens 31 ≤ 10 ^ 31
power_fits tens = powers (min tens 31) 31 (omega arith)

-- a quotient and what is left
pub record IsQuotient (mantissa power whole left : ℕ) : Type 0 where
  pub sum : whole * power + left ≡ mantissa
  pub below : left < power

pub is_quotient : (mantissa power whole left : ℕ) → 0 < power → whole ≡ mantissa / power → left ≡ mantissa % power → IsQuotient mantissa power whole left
is_quotient mantissa power whole left some e f = record {
  sum = ap (λ n. n * power + left) e ∙ ap (λ n. mantissa / power * power + n) f ∙ div-add-mod' mantissa power;
  below = omega (arith, f, mod_below mantissa power some);
}

none_whole : (mantissa power whole left : ℕ) → IsQuotient mantissa power whole left → mantissa < power → (whole ≡ 0) × (left ≡ mantissa)
none_whole mantissa power whole left q h =
    let none : whole ≡ 0 = elim (cases_eq whole 0) as (λ _. whole ≡ 0) [
      | inl e ↦ e
      | inr some ↦ let more : 1 * power ≤ whole * power = mul-le-mul_right power (omega arith) in absurd (omega (arith, q.sum, more, h))
    ]
    in
    (none, omega (arith, q.sum, ap (λ n. n * power) none))

pub fraction_when : (mantissa under power whole left size : ℕ) → IsPower mantissa under power → IsQuotient mantissa power whole left → (left ≡ 0 → ⊥) → size * under ≡ mantissa → ⊥
fraction_when mantissa under power whole left size p q some e = elim p.is as (λ _. ⊥) [
  | inl same ↦ some (sym (same_from_place size 0 whole left power p.some q.below (omega (arith, e, q.sum, ap (λ n. size * n) same))).1)
  | inr large ↦ let none = none_whole mantissa power whole left q (omega (arith, large.0)) in
      elim (cases_eq size 0) as (λ _. ⊥) [
        | inl zero ↦ some (omega (arith, none.1, e, ap (λ n. n * under) zero))
        | inr more ↦ let least : 1 * under ≤ size * under = mul-le-mul_right under (omega arith) in omega (arith, large.0, large.1, e, least)
      ]
]

pub nearest_up : (mantissa under power whole left : ℕ) → IsPower mantissa under power → IsQuotient mantissa power whole left → power - left ≤ left → IsNearestTo mantissa under (whole + 1)
nearest_up mantissa under power whole left p q half = elim p.is as (λ _. IsNearestTo mantissa under (whole + 1)) [
  | inl same ↦ let x = ap (λ n. whole * n) same in record { low = omega (arith, q.sum, q.below, half, x, same); high = omega (arith, q.sum, q.below, half, x, same) }
  | inr large ↦ let none = none_whole mantissa power whole left q (omega (arith, large.0)) in absurd (omega (arith, large.0, none.1, half))
]

pub nearest_down : (mantissa under power whole left : ℕ) → IsPower mantissa under power → IsQuotient mantissa power whole left → left < power - left → IsNearestTo mantissa under whole
nearest_down mantissa under power whole left p q half = elim p.is as (λ _. IsNearestTo mantissa under whole) [
  | inl same ↦ let x = ap (λ n. whole * n) same in record { low = omega (arith, q.sum, q.below, half, x, same); high = omega (arith, q.sum, q.below, half, x, same) }
  | inr large ↦ let none = none_whole mantissa power whole left q (omega (arith, large.0)) in
      let x = ap (λ n. n * under) none.0 in
      record { low = omega (arith, x); high = omega (arith, large.0, large.1, x) }
]

-- ---- the tens above and below

same_above : (mantissa above below size : ℕ) → below ≤ above → size ≡ mantissa * 10 ^ (above - below) → size * 10 ^ below ≡ mantissa * 10 ^ above
same_above mantissa above below size h e =
    let power : 10 ^ (above - below) * 10 ^ below ≡ 10 ^ above = sym (pow-add 10 (above - below) below) ∙ ap (λ n. 10 ^ n) (omega arith) in
    ap (λ n. n * 10 ^ below) e ∙ omega (arith, ap (λ n. mantissa * n) power)

cancel : (a b s : ℕ) → 0 < s → a * s ≡ b * s → a ≡ b
cancel a b s some e = (same_from_place a 0 b 0 s some some (omega (arith, e))).0

scaled_le : (a b s : ℕ) → a ≤ b → a * s ≤ b * s
scaled_le a b s h = mul-le-mul_right s h

scaled_lt : (a b s : ℕ) → 0 < s → a < b → a * s < b * s
scaled_lt a b s some h =
    let more : (a + 1) * s ≤ b * s = mul-le-mul_right s (omega arith) in
    omega (arith, more, some)

taken_scaled : (extra : Extra) (over under s size : ℕ) → 0 < s → IsTakenFor extra over under size → IsTakenFor extra (over * s) (under * s) size
taken_scaled Refuse over under s size some e = omega (arith, ap (λ n. n * s) e)
taken_scaled Round over under s size some near = record {
  low = omega (arith, scaled_le (2 * (size * under)) (2 * over + under) s near.low);
  high = omega (arith, scaled_lt (2 * over + under) (2 * ((size + 1) * under)) s some near.high);
}

-- tens above that are no fewer than those below
pub taken_above : (extra : Extra) (mantissa above below size : ℕ) → below ≤ above → size ≡ mantissa * 10 ^ (above - below) → IsTakenFor extra (mantissa * 10 ^ above) (10 ^ below) size
taken_above Refuse mantissa above below size h e = same_above mantissa above below size h e
taken_above Round mantissa above below size h e =
    let same = same_above mantissa above below size h e in
    let some = power_some below in
    record { low = omega (arith, same); high = omega (arith, same, some) }

-- a fraction with as many tens more above and below
pub taken_below : (extra : Extra) (mantissa above below size : ℕ) → above ≤ below → IsTakenFor extra mantissa (10 ^ (below - above)) size → IsTakenFor extra (mantissa * 10 ^ above) (10 ^ below) size
taken_below extra mantissa above below size h taken =
    let under : 10 ^ (below - above) * 10 ^ above ≡ 10 ^ below = sym (pow-add 10 (below - above) above) ∙ ap (λ n. 10 ^ n) (omega arith) in
    subst (λ n. IsTakenFor extra (mantissa * 10 ^ above) n size) under (taken_scaled extra mantissa (10 ^ (below - above)) (10 ^ above) size (power_some above) taken)

pub fraction_below : (mantissa above below size : ℕ) → above ≤ below → (size * 10 ^ (below - above) ≡ mantissa → ⊥) → size * 10 ^ below ≡ mantissa * 10 ^ above → ⊥
fraction_below mantissa above below size h fraction e =
    let under : 10 ^ (below - above) * 10 ^ above ≡ 10 ^ below = sym (pow-add 10 (below - above) above) ∙ ap (λ n. 10 ^ n) (omega arith) in
    fraction (cancel (size * 10 ^ (below - above)) mantissa (10 ^ above) (power_some above) (omega (arith, ap (λ n. size * n) under, e)))

-- what is multiplied, or refused
pub above_accepted : (extra : Extra) (mantissa above below most : ℕ) (o : Option ℕ) (r : Result ℕ NumFault) → below ≤ above → r ≡ ok_or o OutOfRange → IfSome o (λ size. size ≡ mantissa * 10 ^ (above - below)) → IfSome o (λ size. size ≤ most) → IfOk r (λ size. IsSize extra (mantissa * 10 ^ above) (10 ^ below) most size)
above_accepted extra mantissa above below most None r h e is small = subst (λ r. IfOk r (λ size. IsSize extra (mantissa * 10 ^ above) (10 ^ below) most size)) (sym e) tt
above_accepted extra mantissa above below most (Some size) r h e is small = subst (λ r. IfOk r (λ size. IsSize extra (mantissa * 10 ^ above) (10 ^ below) most size)) (sym e) (record { taken = taken_above extra mantissa above below size h is; small = small })

pub above_refused : (extra : Extra) (mantissa above below most : ℕ) (o : Option ℕ) (r : Result ℕ NumFault) → below ≤ above → r ≡ ok_or o OutOfRange → IfNone o (most < mantissa * 10 ^ (above - below)) → IfErr r (RefusesSize extra (mantissa * 10 ^ above) (10 ^ below) most)
above_refused extra mantissa above below most None r h e great = subst (λ r. IfErr r (RefusesSize extra (mantissa * 10 ^ above) (10 ^ below) most)) (sym e) (mantissa * 10 ^ (above - below), taken_above extra mantissa above below (mantissa * 10 ^ (above - below)) h refl, great)
above_refused extra mantissa above below most (Some size) r h e great = subst (λ r. IfErr r (RefusesSize extra (mantissa * 10 ^ above) (10 ^ below) most)) (sym e) tt
