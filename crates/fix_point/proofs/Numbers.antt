-- The numbers of a text's pieces.
use Rattle.std.proofs.Common.{◌≡◌, ℕ, ◌+◌, ◌^◌, ◌<◌, ◌≤◌, Bool, true, false, cond, eqb, IsTrue, List, [], ◌∷◌, ◌++◌, length, refl, sym, ap, ◌∙◌, subst, arith}
use Rattle.std.specs.Char.{is_ascii_digit}
use Rattle.std.specs.List.{list_all}
use Rattle.std.specs.Str.Parse.{digits_value, digits_value_after}
use Rattle.std.proofs.lemmas.Bool.{cond-true, cond-false, and_from}
use Rattle.std.proofs.lemmas.List.Folds.{list_all-append}
use Rattle.std.proofs.lemmas.List.{length-append}
use Rattle.fix_point.specs.Grammar.{is_blank, Sign, none, plus, minus, Fraction, no_point, point, fraction_text, fraction_digits, no_exponent, exponent, IsExponent, IsNumberText}
use Rattle.fix_point.specs.Scaled.{tens_above, tens_below}
use Rattle.fix_point.specs.PartsOf.{front, after_front, sign_of, after_sign, is_minus, fraction_of, is_letter, exponent_of, after_exponent, at_sign, at_whole, at_fraction, at_exponent, parts_of, AreTensOf, IsNumberOf}
use Rattle.fix_point.specs.declared.number.Number.{Number}
use Rattle.fix_point.specs.declared.number.Tens.{Tens}
use Rattle.fix_point.proofs.Pieces.{is_cut, all_from_empty, empty_from_all}
use Rattle.fix_point.proofs.Run.{value_append, value_small}
use Rattle.fix_point.proofs.Reading.{spelled}

above_is : (letter : ℕ) (sign : Sign) (digits : List ℕ) → tens_above (exponent letter sign digits) ≡ cond (is_minus sign) 0 (digits_value 10 digits)
above_is letter none digits = refl
above_is letter plus digits = refl
above_is letter minus digits = refl

below_is : (letter : ℕ) (sign : Sign) (digits : List ℕ) → tens_below (exponent letter sign digits) ≡ cond (is_minus sign) (digits_value 10 digits) 0
below_is letter none digits = refl
below_is letter plus digits = refl
below_is letter minus digits = refl

-- what is found after a letter
pub record IsExponentFound (bytes : List ℕ) (negative : Bool) (size : ℕ) : Type 0 where
  pub power : IsExponent (exponent_of bytes)
  pub small : size < 1000
  pub above : cond negative 0 size ≡ tens_above (exponent_of bytes)
  pub below : cond negative size 0 ≡ tens_below (exponent_of bytes)

found_by : (letter : ℕ) (after : List ℕ) (negative : Bool) (size count : ℕ) → IsTrue (is_letter letter) → negative ≡ is_minus (sign_of after) → count ≡ length (front is_ascii_digit (after_sign after)) → (digits_value 10 (front is_ascii_digit (after_sign after)) < 10 ^ 30 → size ≡ digits_value 10 (front is_ascii_digit (after_sign after))) → 1 ≤ count → count ≤ 3 → IsExponentFound (letter ∷ after) negative size
found_by letter after negative size count is minus_is count_is size_is some few =
    let ds = front is_ascii_digit (after_sign after) in
    let e : exponent_of (letter ∷ after) ≡ exponent letter (sign_of after) ds = cond-true (is_letter letter) (exponent letter (sign_of after) ds) no_exponent is in
    let all = (is_cut is_ascii_digit (after_sign after)).all in
    let small = value_small ds 3 all (omega (arith, count_is, few)) in
    let value : size ≡ digits_value 10 ds = size_is (omega (arith, small)) in
    record {
      power = subst IsExponent (sym e) (is, all, omega (arith, count_is, some), omega (arith, count_is, few));
      small = omega (arith, value, small);
      above = ap (λ b. cond b 0 size) minus_is ∙ ap (λ n. cond (is_minus (sign_of after)) 0 n) value ∙ sym (above_is letter (sign_of after) ds) ∙ ap tens_above (sym e);
      below = ap (λ b. cond b size 0) minus_is ∙ ap (λ n. cond (is_minus (sign_of after)) n 0) value ∙ sym (below_is letter (sign_of after) ds) ∙ ap tens_below (sym e);
    }

pub exponent_found : (bytes : List ℕ) (letter : ℕ) (after rest : List ℕ) (negative : Bool) (size count : ℕ) → bytes ≡ letter ∷ after → IsTrue (is_letter letter) → rest ≡ after_sign after → negative ≡ is_minus (sign_of after) → count ≡ length (front is_ascii_digit rest) → (digits_value 10 (front is_ascii_digit rest) < 10 ^ 30 → size ≡ digits_value 10 (front is_ascii_digit rest)) → (count ≡ 0 → ⊥) → count ≤ 3 → IsExponentFound bytes negative size
exponent_found bytes letter after rest negative size count e is rest_is minus_is count_is size_is some few =
    let count_there : count ≡ length (front is_ascii_digit (after_sign after)) = count_is ∙ ap (λ s. length (front is_ascii_digit s)) rest_is in
    let size_there : digits_value 10 (front is_ascii_digit (after_sign after)) < 10 ^ 30 → size ≡ digits_value 10 (front is_ascii_digit (after_sign after)) = subst (λ s. digits_value 10 (front is_ascii_digit s) < 10 ^ 30 → size ≡ digits_value 10 (front is_ascii_digit s)) rest_is size_is in
    subst (λ s. IsExponentFound s negative size) (sym e) (found_by letter after negative size count is minus_is count_there size_there (omega arith) few)

cond_small : (b : Bool) (n : ℕ) → n < 1000 → (cond b 0 n < 1000) × (cond b n 0 < 1000)
cond_small true n h = (omega arith, h)
cond_small false n h = (h, omega arith)

pub are_tens : (bytes : List ℕ) (negative : Bool) (size : ℕ) (tens : Tens) → IsExponentFound bytes negative size → tens.above ≡ cond negative 0 size → tens.below ≡ cond negative size 0 → AreTensOf (exponent_of bytes) tens
are_tens bytes negative size tens found above below =
    let small = cond_small negative size found.small in
    record {
      above = above ∙ found.above;
      below = below ∙ found.below;
      above_small = omega (arith, above, small.0);
      below_small = omega (arith, below, small.1);
    }

fraction_all_by : (c : ℕ) (rest : List ℕ) (is : Bool) → eqb c 46 ≡ is → list_all is_ascii_digit (fraction_digits (fraction_of (c ∷ rest))) ≡ true
fraction_all_by c rest true h = ap (λ f. list_all is_ascii_digit (fraction_digits f)) (cond-true (eqb c 46) (point (front is_ascii_digit rest)) no_point h) ∙ (is_cut is_ascii_digit rest).all
fraction_all_by c rest false h = ap (λ f. list_all is_ascii_digit (fraction_digits f)) (cond-false (eqb c 46) (point (front is_ascii_digit rest)) no_point h)

fraction_all : (bytes : List ℕ) → list_all is_ascii_digit (fraction_digits (fraction_of bytes)) ≡ true
fraction_all [] = refl
fraction_all (c ∷ rest) = fraction_all_by c rest (eqb c 46) refl

mantissa_all : (ws fs : List ℕ) → list_all is_ascii_digit ws ≡ true → list_all is_ascii_digit fs ≡ true → list_all is_ascii_digit (ws ++ fs) ≡ true
mantissa_all ws fs h g = list_all-append is_ascii_digit ws fs ∙ and_from (list_all is_ascii_digit ws) (list_all is_ascii_digit fs) h g

mantissa_is : (ws fs : List ℕ) (whole value : ℕ) → (digits_value 10 ws < 10 ^ 30 → whole ≡ digits_value 10 ws) → (digits_value_after 10 whole fs < 10 ^ 30 → value ≡ digits_value_after 10 whole fs) → list_all is_ascii_digit ws ≡ true → list_all is_ascii_digit fs ≡ true → length ws + length fs ≤ 30 → value ≡ digits_value 10 (ws ++ fs)
mantissa_is ws fs whole value whole_is value_is h g few =
    let whole_small = value_small ws 30 h (omega arith) in
    let small = value_small (ws ++ fs) 30 (mantissa_all ws fs h g) (omega (arith, length-append ws fs)) in
    let e : digits_value_after 10 whole fs ≡ digits_value 10 (ws ++ fs) = ap (λ n. digits_value_after 10 n fs) (whole_is whole_small) ∙ sym (value_append 0 ws fs) in
    value_is (omega (arith, e, small)) ∙ e

-- the digits of a text
abbrev whole_of : List ℕ → List ℕ
whole_of text = front is_ascii_digit (at_whole text)

abbrev decimals_of : List ℕ → List ℕ
decimals_of text = fraction_digits (fraction_of (at_fraction text))

pub number_found : (text : List ℕ) (number : Number) (whole : ℕ) → number.negative ≡ is_minus (sign_of (at_sign text)) → (digits_value 10 (whole_of text) < 10 ^ 30 → whole ≡ digits_value 10 (whole_of text)) → (digits_value_after 10 whole (decimals_of text) < 10 ^ 30 → number.mantissa ≡ digits_value_after 10 whole (decimals_of text)) → length (whole_of text) + length (decimals_of text) ≤ 30 → (tens : Tens) → AreTensOf (exponent_of (at_exponent text)) tens → number.mantissa < 10 ^ 30 → number.tens.above ≡ tens.above → number.tens.below ≡ length (decimals_of text) + tens.below → IsNumberOf (parts_of text) number
unfolding parts_of
number_found text number whole minus_is whole_is value_is few tens is_tens small above below = record {
  sign = minus_is;
  mantissa = mantissa_is (whole_of text) (decimals_of text) whole number.mantissa whole_is value_is (is_cut is_ascii_digit (at_whole text)).all (fraction_all (at_fraction text)) few;
  mantissa_small = small;
  above = above ∙ is_tens.above;
  below = below ∙ ap (λ n. length (decimals_of text) + n) is_tens.below;
  above_small = omega (arith, above, is_tens.above_small);
  below_small = omega (arith, below, is_tens.below_small, few);
}

-- what is tested of a text
pub record PassesTests (text : List ℕ) : Type 0 where
  pub short : length text ≤ 64
  pub some : 1 ≤ length (whole_of text) + length (decimals_of text)
  pub few : length (whole_of text) + length (decimals_of text) ≤ 30
  pub power : IsExponent (exponent_of (at_exponent text))
  pub after : after_front is_blank (after_exponent (at_exponent text)) ≡ []

pub is_number_text : (text : List ℕ) → PassesTests text → IsNumberText text (parts_of text)
unfolding parts_of
is_number_text text tests = record {
  spelled = spelled text;
  short = tests.short;
  before = (is_cut is_blank text).all;
  after = all_from_empty is_blank (after_exponent (at_exponent text)) tests.after;
  digits = mantissa_all (whole_of text) (decimals_of text) (is_cut is_ascii_digit (at_whole text)).all (fraction_all (at_fraction text));
  some = omega (arith, length-append (whole_of text) (decimals_of text), tests.some);
  few = omega (arith, length-append (whole_of text) (decimals_of text), tests.few);
  power = tests.power;
}

pub passes_tests : (text : List ℕ) → IsNumberText text (parts_of text) → PassesTests text
unfolding parts_of
passes_tests text is = record {
  short = is.short;
  some = omega (arith, length-append (whole_of text) (decimals_of text), is.some);
  few = omega (arith, length-append (whole_of text) (decimals_of text), is.few);
  power = is.power;
  after = empty_from_all is_blank (after_exponent (at_exponent text)) is.after;
}

length_fraction : (fraction : Fraction) → length (fraction_digits fraction) ≤ length (fraction_text fraction)
length_fraction no_point = omega arith
length_fraction (point digits) = omega arith

-- there are no more digits than bytes
pub digits_inside : (text : List ℕ) → length (whole_of text) + length (decimals_of text) ≤ length text
unfolding parts_of
digits_inside text =
    let lengths = simp length-append at (ap length (spelled text)) in
    omega (arith, lengths, length_fraction (fraction_of (at_fraction text)))
