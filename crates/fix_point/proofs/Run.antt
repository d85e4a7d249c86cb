-- A run of digits, and the number that it is.
use Rattle.std.proofs.Common.{◌≡◌, ℕ, ◌+◌, ◌-◌, ◌*◌, ◌^◌, ◌<◌, ◌≤◌, true, false, List, [], ◌∷◌, ◌++◌, length, get_or, take, drop, refl, sym, ap, ◌∙◌, arith}
use Rattle.std.specs.Char.{is_ascii_digit, digit_value}
use Rattle.std.specs.Str.Parse.{digits_value_after, digits_value, AllDigits}
use Rattle.std.specs.Int.{IsInRange}
use Rattle.std.specs.List.{list_all}
use Rattle.std.proofs.lemmas.Bool.{cond-true, and_parts}
use Rattle.std.proofs.lemmas.Int.Digits.{digits_value-lt}
use Rattle.std.proofs.Math.Nat.{pow-le-pow_right}
use Rattle.fix_point.proofs.Pieces.{is_cut, after_stops}
use Rattle.std.proofs.lemmas.List.{take_all}
use Rattle.std.proofs.lemmas.Bool.Decides.{nat_tests}
use Rattle.std.proofs.lemmas.Str.{digit_value_digit}
use Rattle.fix_point.specs.PartsOf.{front, after_front}

-- What is read of bytes so far, and is left of them, is what is to be read.
pub record IsPartRead (bytes : List ℕ) (before : ℕ) (rest : List ℕ) (value : ℕ) : Type 0 where
  pub left : after_front is_ascii_digit rest ≡ after_front is_ascii_digit bytes
  pub small : value < 10 ^ 30
  pub same : digits_value_after 10 before (front is_ascii_digit bytes) < 10 ^ 30 →
      digits_value_after 10 value (front is_ascii_digit rest) ≡ digits_value_after 10 before (front is_ascii_digit bytes)

pub value_grows : (n : ℕ) (ds : List ℕ) → n ≤ digits_value_after 10 n ds
value_grows n [] = omega arith
value_grows n (c ∷ ds) = omega (arith, value_grows (n * 10 + digit_value c) ds)

front_digit : (c : ℕ) (rest : List ℕ) → is_ascii_digit c ≡ true → front is_ascii_digit (c ∷ rest) ≡ c ∷ front is_ascii_digit rest
front_digit c rest h = cond-true (is_ascii_digit c) (c ∷ front is_ascii_digit rest) [] h

after_digit : (c : ℕ) (rest : List ℕ) → is_ascii_digit c ≡ true → after_front is_ascii_digit (c ∷ rest) ≡ after_front is_ascii_digit rest
after_digit c rest h = cond-true (is_ascii_digit c) (after_front is_ascii_digit rest) (c ∷ rest) h

pub digit_range : (c : ℕ) → is_ascii_digit c ≡ true → IsInRange 48 57 c
digit_range c h = grind (arith, nat_tests)

pub digit_is : (c : ℕ) → is_ascii_digit c ≡ true → digit_value c ≡ c - 48
digit_is c h =
    let r = digit_range c h in
    omega (arith, digit_value_digit c r)

take_tail : (c : ℕ) (rest : List ℕ) → take (length (c ∷ rest) - 1) (drop 1 (c ∷ rest)) ≡ rest
take_tail c rest = take_all (length (c ∷ rest) - 1) rest (omega arith)

-- a digit is left out, since there are too many
pub read_past : (bytes : List ℕ) (before c : ℕ) (rest : List ℕ) (value : ℕ) → IsPartRead bytes before (c ∷ rest) value → is_ascii_digit c ≡ true → 10 ^ 29 ≤ value → IsPartRead bytes before rest value
read_past bytes before c rest value part digit large = record {
  left = sym (after_digit c rest digit) ∙ part.left;
  small = part.small;
  same = λ h. absurd (omega (arith, h, part.same h, ap (digits_value_after 10 value) (front_digit c rest digit), value_grows (value * 10 + digit_value c) (front is_ascii_digit rest)));
}

-- how many digits are read, where the next byte is none
pub record IsCount (bytes rest : List ℕ) : Type 0 where
  pub inside : length rest ≤ length bytes
  pub count : length bytes - length rest ≡ length (front is_ascii_digit bytes)

count_of : (bytes rest : List ℕ) → after_front is_ascii_digit rest ≡ after_front is_ascii_digit bytes → after_front is_ascii_digit rest ≡ rest → IsCount bytes rest
count_of bytes rest left stops =
    let lengths = (is_cut is_ascii_digit bytes).lengths in
    let same = ap length (sym stops ∙ left) in
    record { inside = omega arith; count = omega arith }

pub count_at_end : (bytes : List ℕ) (before : ℕ) (rest : List ℕ) (value : ℕ) → IsPartRead bytes before rest value → length rest < 1 → IsCount bytes rest
count_at_end bytes before [] value part h = count_of bytes [] part.left refl
count_at_end bytes before (c ∷ rest) value part h = absurd (omega (arith, h))

pub count_at_other : (bytes : List ℕ) (before : ℕ) (rest : List ℕ) (value : ℕ) → IsPartRead bytes before rest value → 1 ≤ length rest → is_ascii_digit (get_or rest 0 0) ≡ false → IsCount bytes rest
count_at_other bytes before [] value part h other = absurd (omega (arith, h))
count_at_other bytes before (c ∷ rest) value part h other = count_of bytes (c ∷ rest) part.left (after_stops is_ascii_digit (c ∷ rest) other)

-- bytes that are all digits, as std says it
pub all_digits : (ds : List ℕ) → list_all is_ascii_digit ds ≡ true → AllDigits 10 ds
all_digits [] h = tt
all_digits (c ∷ ds) h =
    let p = and_parts (is_ascii_digit c) (list_all is_ascii_digit ds) h in
    let r = digit_range c p.0 in
    (omega (arith, digit_is c p.0, r.1), all_digits ds p.1)

pub value_append : (n : ℕ) (xs ys : List ℕ) → digits_value_after 10 n (xs ++ ys) ≡ digits_value_after 10 (digits_value_after 10 n xs) ys
value_append n [] ys = refl
value_append n (c ∷ xs) ys = value_append (n * 10 + digit_value c) xs ys

-- a number of at most k digits
pub value_small : (ds : List ℕ) (k : ℕ) → list_all is_ascii_digit ds ≡ true → length ds ≤ k → digits_value 10 ds < 10 ^ k
value_small ds k all short =
    let bound = digits_value-lt 10 ds (all_digits ds all) in
    let power : 10 ^ length ds ≤ 10 ^ k = pow-le-pow_right (omega arith) short in
    omega (arith, bound, power)

pub past_at : (bytes : List ℕ) (before : ℕ) (rest : List ℕ) (value : ℕ) → IsPartRead bytes before rest value → 1 ≤ length rest → is_ascii_digit (get_or rest 0 0) ≡ true → 10 ^ 29 ≤ value → IsPartRead bytes before (take (length rest - 1) (drop 1 rest)) value
past_at bytes before [] value part some digit large = absurd (omega (arith, some))
past_at bytes before (c ∷ rest) value part some digit large = rw (take_tail c rest) (read_past bytes before c rest value part digit large)
