-- The text of a number, written and read.
use Rattle.std.proofs.Common.{◌≡◌, ℕ, zero, suc, ◌+◌, ◌-◌, ◌*◌, ◌/◌, ◌%◌, ◌^◌, ◌<◌, ◌≤◌, true, ℤ, pos, negsuc, List, [], ◌∷◌, ◌++◌, length, refl, sym, ap, ◌∙◌, arith}
use Rattle.std.specs.Prelude.{unsigned_abs, decimal}
use Rattle.std.specs.Char.{is_ascii_digit, digit_value}
use Rattle.std.specs.Int.{IsInRange}
use Rattle.std.specs.List.{list_all}
use Rattle.std.specs.Str.Parse.{digits_value, digits_value_after, AllDigits}
use Rattle.std.proofs.Math.Nat.{mul-le-mul_right, mod-eq_of_lt}
use Rattle.std.proofs.lemmas.Bool.{and_from}
use Rattle.std.proofs.lemmas.Bool.Decides.{nat_tests}
use Rattle.std.proofs.lemmas.Fmt.{decimal_is_IsNumeral_wide, length-decimal-le_wide}
use Rattle.std.proofs.lemmas.List.{append_assoc, append-nil, length-append}
use Rattle.std.proofs.lemmas.List.Folds.{list_all-append}
use Rattle.std.proofs.lemmas.Nat.{pow-add, div-add-mod', mod_below, mod-mul-add, div_below}
use Rattle.std.proofs.lemmas.Str.Parse.{digit_from_value}
use Rattle.fix_point.specs.declared.scale.Extra.{Extra}
use Rattle.fix_point.specs.declared.scale.Extra.TheVariants.{Refuse, Round}
use Rattle.fix_point.specs.Grammar.{Sign, none, minus, sign_text, Fraction, no_point, point, fraction_text, fraction_digits, no_exponent, Parts, text_of_parts, mantissa_digits, IsNumberText}
use Rattle.fix_point.specs.Scaled.{signed, numerator, denominator, tens_below, IsExact, IsTaken, IsScaled}
use Rattle.fix_point.proofs.Run.{digit_is, value_append}
use Rattle.fix_point.proofs.Sizes.{power_some, powers}
use Rattle.fix_point.specs.Text.{places, decimals_text, minus_text, text_of_value}

-- one more digit is written
pub place_more : (text pushed before : List ℕ) (place count size digit : ℕ) → 0 < place → text ++ places place size ≡ before ++ places count size → digit ≡ size / 10 ^ (place - 1) % 10 → pushed ≡ text ++ (48 + digit) ∷ [] → pushed ++ places (place - 1) size ≡ before ++ places count size
place_more text pushed before zero count size digit some same e f = absurd (omega (arith, some))
place_more text pushed before (suc more) count size digit some same e f =
    let back : suc more - 1 ≡ more = omega arith in
    let digit_is : digit ≡ size / 10 ^ more % 10 = e ∙ ap (λ n. size / 10 ^ n % 10) back in
    ap (λ s. s ++ places (suc more - 1) size) f
    ∙ ap (λ n. (text ++ (48 + digit) ∷ []) ++ places n size) back
    ∙ append_assoc text ((48 + digit) ∷ []) (places more size)
    ∙ ap (λ d. text ++ ((48 + d) ∷ places more size)) digit_is
    ∙ same

-- a point, and then the places
pub point_more : (text pointed written : List ℕ) (count size : ℕ) → (count ≡ 0 → ⊥) → pointed ≡ text ++ 46 ∷ [] → written ≡ pointed ++ places count size → written ≡ text ++ decimals_text count size
point_more text pointed written zero size some e f = absurd (some refl)
point_more text pointed written (suc more) size some e f =
    f ∙ ap (λ s. s ++ places (suc more) size) e ∙ append_assoc text (46 ∷ []) (places (suc more) size)

-- ---- read back

in_range_digit : (c : ℕ) → IsInRange 48 57 c → is_ascii_digit c ≡ true
in_range_digit c h = grind (arith, nat_tests)

digit_byte : (digit : ℕ) → digit < 10 → is_ascii_digit (48 + digit) ≡ true
digit_byte digit h = in_range_digit (48 + digit) (omega arith, omega arith)

digit_value_byte : (digit : ℕ) → digit < 10 → digit_value (48 + digit) ≡ digit
digit_value_byte digit h = omega (arith, digit_is (48 + digit) (digit_byte digit h))

mod_more : (n m : ℕ) → n % 10 ^ (suc m) ≡ n / 10 ^ m % 10 * 10 ^ m + n % 10 ^ m
mod_more n m =
    let p = 10 ^ m in
    let some = power_some m in
    let first = div-add-mod' n p in
    let second = div-add-mod' (n / p) 10 in
    let below = mod_below n p some in
    let digit = mod_below (n / p) 10 (omega arith) in
    let low : n / p % 10 * p ≤ 9 * p = mul-le-mul_right p (omega (arith, digit)) in
    let whole : n ≡ n / p / 10 * (p * 10) + (n / p % 10 * p + n % p) = omega (arith, first, ap (λ x. x * p) second) in
    let power : 10 ^ (suc m) ≡ p * 10 = ap (λ k. 10 ^ k) (omega arith) ∙ pow-add 10 m 1 in
    ap (λ x. x % 10 ^ (suc m)) whole ∙ ap (λ w. (n / p / 10 * (p * 10) + (n / p % 10 * p + n % p)) % w) power
    ∙ mod-mul-add (n / p / 10) (p * 10) (n / p % 10 * p + n % p) (omega (arith, low, below))

value_places : (n k size : ℕ) → digits_value_after 10 n (places k size) ≡ n * 10 ^ k + size % 10 ^ k
value_places n zero size = omega (arith, mod_below size 1 (omega arith))
value_places n (suc m) size =
    let digit = mod_below (size / 10 ^ m) 10 (omega arith) in
    let byte : digit_value (48 + size / 10 ^ m % 10) ≡ size / 10 ^ m % 10 = digit_value_byte (size / 10 ^ m % 10) digit in
    let power : 10 ^ (suc m) ≡ 10 ^ m * 10 = ap (λ k. 10 ^ k) (omega arith) ∙ pow-add 10 m 1 in
    ap (λ x. digits_value_after 10 (n * 10 + x) (places m size)) byte ∙ value_places (n * 10 + size / 10 ^ m % 10) m size
    ∙ omega (arith, mod_more size m, ap (λ x. n * x) power)

length_places : (k size : ℕ) → length (places k size) ≡ k
length_places zero size = refl
length_places (suc m) size = ap suc (length_places m size)

all_places : (k size : ℕ) → list_all is_ascii_digit (places k size) ≡ true
all_places zero size = refl
all_places (suc m) size = and_from (is_ascii_digit (48 + size / 10 ^ m % 10)) (list_all is_ascii_digit (places m size)) (digit_byte (size / 10 ^ m % 10) (mod_below (size / 10 ^ m) 10 (omega arith))) (all_places m size)

all_ascii : (ds : List ℕ) → AllDigits 10 ds → list_all is_ascii_digit ds ≡ true
all_ascii [] h = refl
all_ascii (c ∷ ds) h = and_from (is_ascii_digit c) (list_all is_ascii_digit ds) (in_range_digit c (digit_from_value c h.0)) (all_ascii ds h.1)

abbrev sign_for : ℤ → Sign
sign_for (pos size) = none
sign_for (negsuc size) = minus

abbrev fraction_for : ℕ → ℕ → Fraction
fraction_for zero size = no_point
fraction_for (suc more) size = point (places (suc more) size)

abbrev parts_for : ℤ → ℕ → Parts
parts_for v d = record {
  before = [];
  sign = sign_for v;
  whole = decimal (unsigned_abs v / 10 ^ d);
  fraction = fraction_for d (unsigned_abs v % 10 ^ d);
  power = no_exponent;
  after = [];
}

minus_is : (v : ℤ) → minus_text v ≡ sign_text (sign_for v)
minus_is (pos size) = refl
minus_is (negsuc size) = refl

decimals_are : (d size : ℕ) → decimals_text d size ≡ fraction_text (fraction_for d size) ++ []
decimals_are zero size = refl
decimals_are (suc more) size = sym (append-nil (46 ∷ places (suc more) size))

digits_are : (d size : ℕ) → fraction_digits (fraction_for d size) ≡ places d size
digits_are zero size = refl
digits_are (suc more) size = refl

value_for : (v : ℤ) → v ≡ signed (sign_for v) (unsigned_abs v)
value_for (pos size) = refl
value_for (negsuc size) = refl

-- the whole part has room for its digits
whole_small : (size d : ℕ) → d ≤ 6 → size < 10 ^ 30 → size / 10 ^ d < 10 ^ (30 - d)
whole_small size d h small =
    let whole : 30 - d + d ≡ 30 = omega arith in
    let power : 10 ^ (30 - d) * 10 ^ d ≡ 10 ^ 30 = sym (pow-add 10 (30 - d) d) ∙ ap (λ k. 10 ^ k) whole in
    div_below size (10 ^ d) (10 ^ (30 - d)) (power_some d) (omega (arith, power, small))

-- what is known of the digits of a text
pub record AreDigits (v : ℤ) (d : ℕ) : Type 0 where
  pub all : list_all is_ascii_digit (mantissa_digits (parts_for v d)) ≡ true
  pub some : 1 ≤ length (mantissa_digits (parts_for v d))
  pub few : length (mantissa_digits (parts_for v d)) ≤ 30
  pub decimals : length (fraction_digits (fraction_for d (unsigned_abs v % 10 ^ d))) ≡ d
  pub value : digits_value 10 (mantissa_digits (parts_for v d)) ≡ unsigned_abs v

are_digits : (v : ℤ) (d : ℕ) → d ≤ 6 → unsigned_abs v < 10 ^ 30 → AreDigits v d
are_digits v d h small =
    let size = unsigned_abs v in
    let w = size / 10 ^ d in
    let r = size % 10 ^ d in
    let room = whole_small size d h small in
    let wide : w < 10 ^ 64 = omega (arith, room, powers (30 - d) 64 (omega arith)) in
    let numeral = decimal_is_IsNumeral_wide w wide in
    let few = length-decimal-le_wide (30 - d) w (omega arith) room wide in
    let ds = fraction_digits (fraction_for d r) in
    let is : ds ≡ places d r = digits_are d r in
    let count : length ds ≡ d = ap length is ∙ length_places d r in
    let back : r % 10 ^ d ≡ r = mod-eq_of_lt (mod_below size (10 ^ d) (power_some d)) in
    record {
      all = list_all-append is_ascii_digit (decimal w) ds ∙ and_from (list_all is_ascii_digit (decimal w)) (list_all is_ascii_digit ds) (all_ascii (decimal w) numeral.0.1) (ap (list_all is_ascii_digit) is ∙ all_places d r);
      some = omega (arith, length-append (decimal w) ds, numeral.0.0);
      few = omega (arith, length-append (decimal w) ds, count, few);
      decimals = count;
      value = value_append 0 (decimal w) ds ∙ ap (λ n. digits_value_after 10 n ds) numeral.1 ∙ ap (digits_value_after 10 w) is ∙ value_places w d r
          ∙ omega (arith, back, div-add-mod' size (10 ^ d));
    }

spelled_for : (v : ℤ) (d : ℕ) → text_of_value v d ≡ text_of_parts (parts_for v d)
spelled_for v d =
    ap (λ s. s ++ (decimal (unsigned_abs v / 10 ^ d) ++ decimals_text d (unsigned_abs v % 10 ^ d))) (minus_is v)
    ∙ ap (λ s. sign_text (sign_for v) ++ (decimal (unsigned_abs v / 10 ^ d) ++ s)) (decimals_are d (unsigned_abs v % 10 ^ d))

length_sign : (v : ℤ) → length (minus_text v) ≤ 1
length_sign (pos size) = omega arith
length_sign (negsuc size) = omega arith

length_decimals : (d size : ℕ) → length (decimals_text d size) ≤ d + 1
length_decimals zero size = omega arith
length_decimals (suc more) size = omega (arith, length_places (suc more) size)

is_number_for : (v : ℤ) (d : ℕ) → d ≤ 6 → unsigned_abs v < 10 ^ 30 → IsNumberText (text_of_value v d) (parts_for v d)
is_number_for v d h small =
    let digits = are_digits v d h small in
    let w = decimal (unsigned_abs v / 10 ^ d) in
    let r = unsigned_abs v % 10 ^ d in
    record {
      spelled = spelled_for v d;
      short = omega (arith, length-append (minus_text v) (w ++ decimals_text d r), length-append w (decimals_text d r), length-append w (fraction_digits (fraction_for d r)), length_sign v, length_decimals d r, digits.few);
      before = refl;
      after = refl;
      digits = digits.all;
      some = digits.some;
      few = digits.few;
      power = tt;
    }

exact_for : (v : ℤ) (d : ℕ) → d ≤ 6 → unsigned_abs v < 10 ^ 30 → unsigned_abs v * denominator (parts_for v d) ≡ numerator (parts_for v d) d
exact_for v d h small =
    let digits = are_digits v d h small in
    ap (λ k. unsigned_abs v * 10 ^ (k + 0)) digits.decimals ∙ ap (λ n. n * 10 ^ (d + 0)) (sym digits.value)

taken_exact : (extra : Extra) (parts : Parts) (d size : ℕ) → IsExact parts d size → IsTaken extra parts d size
taken_exact Refuse parts d size e = e
taken_exact Round parts d size e =
    let some = power_some (length (fraction_digits parts.fraction) + tens_below parts.power) in
    record { low = omega (arith, e); high = omega (arith, e, some) }

-- the text of a number is read as that number
pub read_back : (v most : ℤ) (d : ℕ) (extra : Extra) → d ≤ 6 → unsigned_abs v < 10 ^ 30 → unsigned_abs v ≤ unsigned_abs most → IsScaled (text_of_value v d) d extra most v
read_back v most d extra h small fits = record {
  parts = parts_for v d;
  number = is_number_for v d h small;
  size = unsigned_abs v;
  taken = taken_exact extra (parts_for v d) d (unsigned_abs v) (exact_for v d h small);
  value_is = value_for v;
  small = fits;
}
