-- A text has one reading.
use Rattle.std.proofs.Common.{◌≡◌, ℕ, ◌≤◌, Bool, true, false, ◌||◌, cond, eqb, List, [], ◌∷◌, ◌++◌, length, inl, inr, refl, sym, ap, ◌∙◌, subst, arith}
use Rattle.std.specs.Char.{is_ascii_digit}
use Rattle.std.specs.List.{list_all}
use Rattle.std.proofs.lemmas.Bool.{cond-true, cond-false, and_parts, or_cases, or_parts, or_left, or_right, or_from, eqb-true}
use Rattle.std.proofs.lemmas.Bool.Decides.{nat_tests}
use Rattle.std.proofs.lemmas.List.Folds.{list_all-append}
use Rattle.std.proofs.lemmas.List.{append_assoc}
use Rattle.fix_point.specs.Grammar.{is_blank, Sign, none, plus, minus, sign_text, Fraction, no_point, point, fraction_text, fraction_digits, Exponent, no_exponent, exponent, exponent_text, Parts, text_of_parts, IsExponent, IsNumberText}
use Rattle.fix_point.specs.PartsOf.{front, after_front, sign_of, after_sign, fraction_of, after_fraction, is_letter, exponent_of, after_exponent, at_sign, at_whole, at_fraction, at_exponent, parts_of}
use Rattle.fix_point.proofs.Pieces.{starts, front_append, after_append, is_cut}

-- what is no part of the text before its last blanks
pub record SkipsBlanks (test : ℕ → Bool) : Type 0 where
  pub space : test 32 ≡ false
  pub tab : test 9 ≡ false

pub record SkipsExponents (test : ℕ → Bool) : Type 0 where
  pub blanks : SkipsBlanks test
  pub small : test 101 ≡ false
  pub capital : test 69 ≡ false

abbrev is_point : ℕ → Bool
is_point c = eqb c 46

abbrev is_sign : ℕ → Bool
is_sign c = eqb c 45 || eqb c 43

at_one_of : (test : ℕ → Bool) (a b c : ℕ) → test a ≡ false → test b ≡ false → (eqb c a || eqb c b) ≡ true → test c ≡ false
at_one_of test a b c ha hb h =
    elim (or_cases (eqb c a) (eqb c b) h) as (λ _. test c ≡ false) [
      | inl e ↦ ap test (eqb-true c a e) ∙ ha
      | inr e ↦ ap test (eqb-true c b e) ∙ hb
    ]

starts_after : (test : ℕ → Bool) (after : List ℕ) → SkipsBlanks test → list_all is_blank after ≡ true → starts test after ≡ false
starts_after test [] skips h = refl
starts_after test (c ∷ after) skips h = at_one_of test 32 9 c skips.space skips.tab (and_parts (is_blank c) (list_all is_blank after) h).0

starts_exponent : (test : ℕ → Bool) (power : Exponent) (after : List ℕ) → SkipsExponents test → IsExponent power → list_all is_blank after ≡ true → starts test (exponent_text power ++ after) ≡ false
starts_exponent test no_exponent after skips is h = starts_after test after skips.blanks h
starts_exponent test (exponent letter sign digits) after skips is h = at_one_of test 101 69 letter skips.small skips.capital is.0

starts_fraction : (test : ℕ → Bool) (fraction : Fraction) (power : Exponent) (after : List ℕ) → SkipsExponents test → test 46 ≡ false → IsExponent power → list_all is_blank after ≡ true → starts test (fraction_text fraction ++ (exponent_text power ++ after)) ≡ false
starts_fraction test no_point power after skips at_point is h = starts_exponent test power after skips is h
starts_fraction test (point digits) power after skips at_point is h = at_point

starts_mantissa : (test : ℕ → Bool) (whole : List ℕ) (fraction : Fraction) (rest : List ℕ) → test 46 ≡ false → ((c : ℕ) → is_ascii_digit c ≡ true → test c ≡ false) → list_all is_ascii_digit whole ≡ true → 1 ≤ length (whole ++ fraction_digits fraction) → starts test (whole ++ (fraction_text fraction ++ rest)) ≡ false
starts_mantissa test (c ∷ whole) fraction rest at_point digit all some = digit c (and_parts (is_ascii_digit c) (list_all is_ascii_digit whole) all).0
starts_mantissa test [] no_point rest at_point digit all some = absurd (omega (arith, some))
starts_mantissa test [] (point digits) rest at_point digit all some = at_point

digit_no_blank : (c : ℕ) → is_ascii_digit c ≡ true → is_blank c ≡ false
digit_no_blank c h = grind (arith, nat_tests)

digit_no_sign : (c : ℕ) → is_ascii_digit c ≡ true → is_sign c ≡ false
digit_no_sign c h = grind (arith, nat_tests)

-- a sign, where none follows
pub record IsSignCut (sign : Sign) (rest : List ℕ) : Type 0 where
  pub sign_is : sign_of (sign_text sign ++ rest) ≡ sign
  pub rest_is : after_sign (sign_text sign ++ rest) ≡ rest

no_sign : (c : ℕ) → is_sign c ≡ false → (eqb c 45 ≡ false) × (eqb c 43 ≡ false)
no_sign c h = or_parts (eqb c 45) (eqb c 43) h

sign_cut : (sign : Sign) (rest : List ℕ) → starts is_sign rest ≡ false → IsSignCut sign rest
sign_cut plus rest h = record { sign_is = refl; rest_is = refl }
sign_cut minus rest h = record { sign_is = refl; rest_is = refl }
sign_cut none [] h = record { sign_is = refl; rest_is = refl }
sign_cut none (c ∷ rest) h =
    let apart = no_sign c h in
    record {
      sign_is = cond-false (eqb c 45) minus (cond (eqb c 43) plus none) apart.0 ∙ cond-false (eqb c 43) plus none apart.1;
      rest_is = cond-false (is_sign c) rest (c ∷ rest) h;
    }

-- an exponent, where nothing but blanks follows
pub record IsExponentCut (power : Exponent) (after : List ℕ) : Type 0 where
  pub power_is : exponent_of (exponent_text power ++ after) ≡ power
  pub after_is : after_exponent (exponent_text power ++ after) ≡ after

no_letter : (after : List ℕ) → starts is_letter after ≡ false → IsExponentCut no_exponent after
no_letter [] h = record { power_is = refl; after_is = refl }
no_letter (c ∷ after) h = record {
  power_is = cond-false (is_letter c) (exponent c (sign_of after) (front is_ascii_digit (after_sign after))) no_exponent h;
  after_is = cond-false (is_letter c) (after_front is_ascii_digit (after_sign after)) (c ∷ after) h;
}

starts_digits : (digits after : List ℕ) → list_all is_ascii_digit digits ≡ true → 1 ≤ length digits → starts is_sign (digits ++ after) ≡ false
starts_digits [] after all some = absurd (omega (arith, some))
starts_digits (c ∷ digits) after all some = digit_no_sign c (and_parts (is_ascii_digit c) (list_all is_ascii_digit digits) all).0

exponent_cut : (power : Exponent) (after : List ℕ) → IsExponent power → list_all is_blank after ≡ true → IsExponentCut power after
exponent_cut no_exponent after is h = no_letter after (starts_after is_letter after (record { space = refl; tab = refl }) h)
exponent_cut (exponent letter sign digits) after is h =
    let ends : starts is_ascii_digit after ≡ false = starts_after is_ascii_digit after (record { space = refl; tab = refl }) h in
    let cut : IsSignCut sign (digits ++ after) = sign_cut sign (digits ++ after) (starts_digits digits after is.1 is.2) in
    let joined : (sign_text sign ++ digits) ++ after ≡ sign_text sign ++ (digits ++ after) = append_assoc (sign_text sign) digits after in
    let rest : after_sign ((sign_text sign ++ digits) ++ after) ≡ digits ++ after = ap after_sign joined ∙ cut.rest_is in
    record {
      power_is = cond-true (is_letter letter) (exponent letter (sign_of ((sign_text sign ++ digits) ++ after)) (front is_ascii_digit (after_sign ((sign_text sign ++ digits) ++ after)))) no_exponent is.0
          ∙ ap (λ s. exponent letter s (front is_ascii_digit (after_sign ((sign_text sign ++ digits) ++ after)))) (ap sign_of joined ∙ cut.sign_is)
          ∙ ap (exponent letter sign) (ap (front is_ascii_digit) rest ∙ front_append is_ascii_digit digits after is.1 ends);
      after_is = cond-true (is_letter letter) (after_front is_ascii_digit (after_sign ((sign_text sign ++ digits) ++ after))) (letter ∷ ((sign_text sign ++ digits) ++ after)) is.0
          ∙ ap (after_front is_ascii_digit) rest ∙ after_append is_ascii_digit digits after is.1 ends;
    }

-- a fraction, where no digit and no point follows
pub record IsFractionCut (fraction : Fraction) (rest : List ℕ) : Type 0 where
  pub fraction_is : fraction_of (fraction_text fraction ++ rest) ≡ fraction
  pub rest_is : after_fraction (fraction_text fraction ++ rest) ≡ rest

fraction_cut : (fraction : Fraction) (rest : List ℕ) → list_all is_ascii_digit (fraction_digits fraction) ≡ true → starts is_point rest ≡ false → starts is_ascii_digit rest ≡ false → IsFractionCut fraction rest
fraction_cut no_point [] all no_dot no_digit = record { fraction_is = refl; rest_is = refl }
fraction_cut no_point (c ∷ rest) all no_dot no_digit = record {
  fraction_is = cond-false (eqb c 46) (point (front is_ascii_digit rest)) no_point no_dot;
  rest_is = cond-false (eqb c 46) (after_front is_ascii_digit rest) (c ∷ rest) no_dot;
}
fraction_cut (point digits) rest all no_dot no_digit = record {
  fraction_is = ap point (front_append is_ascii_digit digits rest all no_digit);
  rest_is = after_append is_ascii_digit digits rest all no_digit;
}

-- what the reading of a number text finds
pub record IsRead (text : List ℕ) (parts : Parts) : Type 0 where
  pub before : front is_blank text ≡ parts.before
  pub sign : sign_of (at_sign text) ≡ parts.sign
  pub whole : front is_ascii_digit (at_whole text) ≡ parts.whole
  pub fraction : fraction_of (at_fraction text) ≡ parts.fraction
  pub power : exponent_of (at_exponent text) ≡ parts.power
  pub after : after_exponent (at_exponent text) ≡ parts.after

skips_letters : (test : ℕ → Bool) → test 32 ≡ false → test 9 ≡ false → test 101 ≡ false → test 69 ≡ false → SkipsExponents test
skips_letters test a b c d = record { blanks = record { space = a; tab = b }; small = c; capital = d }

starts_sign : (sign : Sign) (rest : List ℕ) → starts is_blank rest ≡ false → starts is_blank (sign_text sign ++ rest) ≡ false
starts_sign none rest h = h
starts_sign plus rest h = refl
starts_sign minus rest h = refl

pub is_read : (text : List ℕ) (parts : Parts) → IsNumberText text parts → IsRead text parts
is_read text parts is =
    let digits = and_parts (list_all is_ascii_digit parts.whole) (list_all is_ascii_digit (fraction_digits parts.fraction)) (sym (list_all-append is_ascii_digit parts.whole (fraction_digits parts.fraction)) ∙ is.digits) in
    let tail = exponent_text parts.power ++ parts.after in
    let behind = fraction_text parts.fraction ++ tail in
    let mantissa = parts.whole ++ behind in
    let no_blank = starts_sign parts.sign mantissa (starts_mantissa is_blank parts.whole parts.fraction tail refl digit_no_blank digits.0 is.some) in
    let cut_sign = sign_cut parts.sign mantissa (starts_mantissa is_sign parts.whole parts.fraction tail refl digit_no_sign digits.0 is.some) in
    let ends = starts_fraction is_ascii_digit parts.fraction parts.power parts.after (skips_letters is_ascii_digit refl refl refl refl) refl is.power is.after in
    let cut_fraction = fraction_cut parts.fraction tail digits.1
    (starts_exponent is_point parts.power parts.after (skips_letters is_point refl refl refl refl) is.power is.after)
    (starts_exponent is_ascii_digit parts.power parts.after (skips_letters is_ascii_digit refl refl refl refl) is.power is.after) in
    let cut_power = exponent_cut parts.power parts.after is.power is.after in
    let sign_at : at_sign text ≡ sign_text parts.sign ++ mantissa = ap (after_front is_blank) is.spelled ∙ after_append is_blank parts.before (sign_text parts.sign ++ mantissa) is.before no_blank in
    let whole_at : at_whole text ≡ mantissa = ap after_sign sign_at ∙ cut_sign.rest_is in
    let fraction_at : at_fraction text ≡ behind = ap (after_front is_ascii_digit) whole_at ∙ after_append is_ascii_digit parts.whole behind digits.0 ends in
    let exponent_at : at_exponent text ≡ tail = ap after_fraction fraction_at ∙ cut_fraction.rest_is in
    record {
      before = ap (front is_blank) is.spelled ∙ front_append is_blank parts.before (sign_text parts.sign ++ mantissa) is.before no_blank;
      sign = ap sign_of sign_at ∙ cut_sign.sign_is;
      whole = ap (front is_ascii_digit) whole_at ∙ front_append is_ascii_digit parts.whole behind digits.0 ends;
      fraction = ap fraction_of fraction_at ∙ cut_fraction.fraction_is;
      power = ap exponent_of exponent_at ∙ cut_power.power_is;
      after = ap after_exponent exponent_at ∙ cut_power.after_is;
    }

parts_made : List ℕ → Sign → List ℕ → Fraction → Exponent → List ℕ → Parts
parts_made before sign whole fraction power after = record { before = before; sign = sign; whole = whole; fraction = fraction; power = power; after = after }

same_parts : (text : List ℕ) (parts : Parts) → IsRead text parts → parts_of text ≡ parts
unfolding parts_of parts_made
same_parts text parts read =
    ap (λ x. parts_made x (sign_of (at_sign text)) (front is_ascii_digit (at_whole text)) (fraction_of (at_fraction text)) (exponent_of (at_exponent text)) (after_exponent (at_exponent text))) read.before
    ∙ ap (λ x. parts_made parts.before x (front is_ascii_digit (at_whole text)) (fraction_of (at_fraction text)) (exponent_of (at_exponent text)) (after_exponent (at_exponent text))) read.sign
    ∙ ap (λ x. parts_made parts.before parts.sign x (fraction_of (at_fraction text)) (exponent_of (at_exponent text)) (after_exponent (at_exponent text))) read.whole
    ∙ ap (λ x. parts_made parts.before parts.sign parts.whole x (exponent_of (at_exponent text)) (after_exponent (at_exponent text))) read.fraction
    ∙ ap (λ x. parts_made parts.before parts.sign parts.whole parts.fraction x (after_exponent (at_exponent text))) read.power
    ∙ ap (λ x. parts_made parts.before parts.sign parts.whole parts.fraction parts.power x) read.after

-- the parts of a number text are those that the reading gives
pub parts_are : (text : List ℕ) (parts : Parts) → IsNumberText text parts → parts_of text ≡ parts
parts_are text parts is = same_parts text parts (is_read text parts is)

pub one_reading : (text : List ℕ) (p q : Parts) → IsNumberText text p → IsNumberText text q → p ≡ q
one_reading text p q is also = sym (parts_are text p is) ∙ parts_are text q also

pub is_of_parts : (text : List ℕ) (parts : Parts) → IsNumberText text parts → IsNumberText text (parts_of text)
is_of_parts text parts is = subst (λ x. IsNumberText text x) (sym (parts_are text parts is)) is

-- and its parts are spelled as the text
sign_joined_by : (c : ℕ) (rest : List ℕ) (is_minus is_plus : Bool) → eqb c 45 ≡ is_minus → eqb c 43 ≡ is_plus → sign_text (sign_of (c ∷ rest)) ++ after_sign (c ∷ rest) ≡ c ∷ rest
sign_joined_by c rest true b h g =
    ap (λ s. sign_text s ++ after_sign (c ∷ rest)) (cond-true (eqb c 45) minus (cond (eqb c 43) plus none) h)
    ∙ ap (λ s. 45 ∷ s) (cond-true (is_sign c) rest (c ∷ rest) (or_left (eqb c 45) (eqb c 43) h))
    ∙ ap (λ x. x ∷ rest) (sym (eqb-true c 45 h))
sign_joined_by c rest false true h g =
    ap (λ s. sign_text s ++ after_sign (c ∷ rest)) (cond-false (eqb c 45) minus (cond (eqb c 43) plus none) h ∙ cond-true (eqb c 43) plus none g)
    ∙ ap (λ s. 43 ∷ s) (cond-true (is_sign c) rest (c ∷ rest) (or_right (eqb c 45) (eqb c 43) g))
    ∙ ap (λ x. x ∷ rest) (sym (eqb-true c 43 g))
sign_joined_by c rest false false h g =
    ap (λ s. sign_text s ++ after_sign (c ∷ rest)) (cond-false (eqb c 45) minus (cond (eqb c 43) plus none) h ∙ cond-false (eqb c 43) plus none g)
    ∙ cond-false (is_sign c) rest (c ∷ rest) (or_from (eqb c 45) (eqb c 43) h g)

sign_joined : (bytes : List ℕ) → sign_text (sign_of bytes) ++ after_sign bytes ≡ bytes
sign_joined [] = refl
sign_joined (c ∷ rest) = sign_joined_by c rest (eqb c 45) (eqb c 43) refl refl

fraction_joined_by : (c : ℕ) (rest : List ℕ) (is : Bool) → eqb c 46 ≡ is → fraction_text (fraction_of (c ∷ rest)) ++ after_fraction (c ∷ rest) ≡ c ∷ rest
fraction_joined_by c rest true h =
    ap (λ s. fraction_text s ++ after_fraction (c ∷ rest)) (cond-true (eqb c 46) (point (front is_ascii_digit rest)) no_point h)
    ∙ ap (λ s. 46 ∷ (front is_ascii_digit rest ++ s)) (cond-true (eqb c 46) (after_front is_ascii_digit rest) (c ∷ rest) h)
    ∙ ap (λ s. 46 ∷ s) (is_cut is_ascii_digit rest).joined
    ∙ ap (λ x. x ∷ rest) (sym (eqb-true c 46 h))
fraction_joined_by c rest false h =
    ap (λ s. fraction_text s ++ after_fraction (c ∷ rest)) (cond-false (eqb c 46) (point (front is_ascii_digit rest)) no_point h)
    ∙ cond-false (eqb c 46) (after_front is_ascii_digit rest) (c ∷ rest) h

fraction_joined : (bytes : List ℕ) → fraction_text (fraction_of bytes) ++ after_fraction bytes ≡ bytes
fraction_joined [] = refl
fraction_joined (c ∷ rest) = fraction_joined_by c rest (eqb c 46) refl

exponent_joined_by : (c : ℕ) (rest : List ℕ) (is : Bool) → is_letter c ≡ is → exponent_text (exponent_of (c ∷ rest)) ++ after_exponent (c ∷ rest) ≡ c ∷ rest
exponent_joined_by c rest true h =
    ap (λ s. exponent_text s ++ after_exponent (c ∷ rest)) (cond-true (is_letter c) (exponent c (sign_of rest) (front is_ascii_digit (after_sign rest))) no_exponent h)
    ∙ ap (λ s. c ∷ ((sign_text (sign_of rest) ++ front is_ascii_digit (after_sign rest)) ++ s)) (cond-true (is_letter c) (after_front is_ascii_digit (after_sign rest)) (c ∷ rest) h)
    ∙ ap (λ s. c ∷ s) (append_assoc (sign_text (sign_of rest)) (front is_ascii_digit (after_sign rest)) (after_front is_ascii_digit (after_sign rest))
    ∙ ap (λ s. sign_text (sign_of rest) ++ s) (is_cut is_ascii_digit (after_sign rest)).joined ∙ sign_joined rest)
exponent_joined_by c rest false h =
    ap (λ s. exponent_text s ++ after_exponent (c ∷ rest)) (cond-false (is_letter c) (exponent c (sign_of rest) (front is_ascii_digit (after_sign rest))) no_exponent h)
    ∙ cond-false (is_letter c) (after_front is_ascii_digit (after_sign rest)) (c ∷ rest) h

exponent_joined : (bytes : List ℕ) → exponent_text (exponent_of bytes) ++ after_exponent bytes ≡ bytes
exponent_joined [] = refl
exponent_joined (c ∷ rest) = exponent_joined_by c rest (is_letter c) refl

pub spelled : (text : List ℕ) → text ≡ text_of_parts (parts_of text)
unfolding parts_of
spelled text = sym (
    ap (λ s. front is_blank text ++ (sign_text (sign_of (at_sign text)) ++ (front is_ascii_digit (at_whole text) ++ (fraction_text (fraction_of (at_fraction text)) ++ s)))) (exponent_joined (at_exponent text))
    ∙ ap (λ s. front is_blank text ++ (sign_text (sign_of (at_sign text)) ++ (front is_ascii_digit (at_whole text) ++ s))) (fraction_joined (at_fraction text))
    ∙ ap (λ s. front is_blank text ++ (sign_text (sign_of (at_sign text)) ++ s)) (is_cut is_ascii_digit (at_whole text)).joined
    ∙ ap (λ s. front is_blank text ++ s) (sign_joined (at_sign text))
    ∙ (is_cut is_blank text).joined)
