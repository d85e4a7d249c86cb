-- For proofs: the only parts that a text can have, as the code finds them from the front.
use Rattle.std.specs.Prelude.{◌≡◌, ℕ, ◌+◌, ◌<◌, ◌^◌, Bool, true, false, ◌||◌, ◌==◌, ℤ, pos, neg_ℤ, if◌then◌else◌, List, [], ◌∷◌, length}
use Rattle.std.specs.Char.{is_ascii_digit}
use Rattle.std.specs.Str.Parse.{digits_value}
use Rattle.fix_point.specs.Grammar.{is_blank, Sign, none, plus, minus, Fraction, no_point, point, fraction_digits, Exponent, no_exponent, exponent, Parts, mantissa_digits}
use Rattle.fix_point.specs.Scaled.{tens_above, tens_below}
use Rattle.fix_point.specs.declared.number.Number.{Number}
use Rattle.fix_point.specs.declared.number.Tens.{Tens}

-- the members at the front that pass, and what follows them
abbrev pub front : (ℕ → Bool) → List ℕ → List ℕ
front passes [] = []
front passes (c ∷ rest) = if passes c then c ∷ front passes rest else []

abbrev pub after_front : (ℕ → Bool) → List ℕ → List ℕ
after_front passes [] = []
after_front passes (c ∷ rest) = if passes c then after_front passes rest else c ∷ rest

-- the sign at the front, and what follows it
abbrev pub sign_of : List ℕ → Sign
sign_of [] = none
sign_of (c ∷ rest) = if c == 45 then minus else (if c == 43 then plus else none)

abbrev pub after_sign : List ℕ → List ℕ
after_sign [] = []
after_sign (c ∷ rest) = if (c == 45) || (c == 43) then rest else c ∷ rest

abbrev pub is_minus : Sign → Bool
is_minus minus = true
is_minus none = false
is_minus plus = false

-- a number of this size, below 0 where it is negative
abbrev pub signed_by : Bool → ℕ → ℤ
signed_by true size = neg_ℤ (pos size)
signed_by false size = pos size

-- the point at the front with its digits, and what follows them
abbrev pub fraction_of : List ℕ → Fraction
fraction_of [] = no_point
fraction_of (c ∷ rest) = if c == 46 then point (front is_ascii_digit rest) else no_point

abbrev pub after_fraction : List ℕ → List ℕ
after_fraction [] = []
after_fraction (c ∷ rest) = if c == 46 then after_front is_ascii_digit rest else c ∷ rest

abbrev pub is_letter : ℕ → Bool
is_letter c = (c == 101) || (c == 69)

-- the exponent at the front, and what follows it
abbrev pub exponent_of : List ℕ → Exponent
exponent_of [] = no_exponent
exponent_of (c ∷ rest) = if is_letter c then exponent c (sign_of rest) (front is_ascii_digit (after_sign rest)) else no_exponent

abbrev pub after_exponent : List ℕ → List ℕ
after_exponent [] = []
after_exponent (c ∷ rest) = if is_letter c then after_front is_ascii_digit (after_sign rest) else c ∷ rest

-- what is left of a text after each of its parts
abbrev pub at_sign : List ℕ → List ℕ
at_sign text = after_front is_blank text

abbrev pub at_whole : List ℕ → List ℕ
at_whole text = after_sign (at_sign text)

abbrev pub at_fraction : List ℕ → List ℕ
at_fraction text = after_front is_ascii_digit (at_whole text)

abbrev pub at_exponent : List ℕ → List ℕ
at_exponent text = after_fraction (at_fraction text)

-- the parts of a text, if it is a number text
unfoldable pub parts_of : List ℕ → Parts
parts_of text = record {
  before = front is_blank text;
  sign = sign_of (at_sign text);
  whole = front is_ascii_digit (at_whole text);
  fraction = fraction_of (at_fraction text);
  power = exponent_of (at_exponent text);
  after = after_exponent (at_exponent text);
}

-- the tens of an exponent
pub record AreTensOf (power : Exponent) (tens : Tens) : Type 0 where
  pub above : tens.above ≡ tens_above power
  pub below : tens.below ≡ tens_below power
  pub above_small : tens.above < 1000
  pub below_small : tens.below < 1000

-- the number is that of the parts
pub record IsNumberOf (parts : Parts) (number : Number) : Type 0 where
  pub sign : number.negative ≡ is_minus parts.sign
  pub mantissa : number.mantissa ≡ digits_value 10 (mantissa_digits parts)
  pub mantissa_small : number.mantissa < 10 ^ 30
  pub above : number.tens.above ≡ tens_above parts.power
  pub below : number.tens.below ≡ length (fraction_digits parts.fraction) + tens_below parts.power
  pub above_small : number.tens.above < 1000
  pub below_small : number.tens.below < 1030
