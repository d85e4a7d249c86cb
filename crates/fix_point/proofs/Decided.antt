-- Every text has an answer: it is a number text or not, its fraction is whole or not, and its size is within the limit or not.
use Rattle.std.proofs.Common.{◌≡◌, ◌⊎◌, ℕ, ◌+◌, ◌-◌, ◌*◌, ◌/◌, ◌%◌, ◌<◌, ◌≤◌, Bool, true, false, IsTrue, ℤ, List, [], ◌∷◌, length, Result, Ok, Err, inl, inr, refl, sym, arith}
use Rattle.std.specs.Prelude.{unsigned_abs}
use Rattle.std.specs.Char.{is_ascii_digit}
use Rattle.std.specs.List.{list_all}
use Rattle.std.proofs.lemmas.Bool.{cases_eq, cases_lt, false≢true}
use Rattle.std.proofs.lemmas.Nat.{same_from_place}
use Rattle.fix_point.specs.Grammar.{is_blank, Exponent, no_exponent, exponent, IsExponent, Parts, fraction_digits, IsNumberText}
use Rattle.fix_point.specs.Scaled.{signed, tens_below, numerator, denominator, IsExact, IsTaken, Reads}
use Rattle.fix_point.specs.PartsOf.{front, after_front, fraction_of, is_letter, exponent_of, after_exponent, at_whole, at_fraction, at_exponent, parts_of}
use Rattle.fix_point.specs.Sizes.{IsNearestTo}
use Rattle.fix_point.specs.declared.number.TheConstants.{MOST_BYTES, MOST_DIGITS, MOST_EXPONENT_DIGITS}
use Rattle.fix_point.specs.declared.scale.Extra.{Extra}
use Rattle.fix_point.specs.declared.scale.Extra.TheVariants.{Refuse, Round}
use Rattle.fix_point.specs.declared.scale.NumFault.{NumFault}
use Rattle.fix_point.specs.declared.scale.NumFault.TheVariants.{NotNumber, TooFine, OutOfRange}
use Rattle.fix_point.proofs.Numbers.{PassesTests, is_number_text, passes_tests}
use Rattle.fix_point.proofs.Reading.{is_of_parts}
use Rattle.fix_point.proofs.Sizes.{IsQuotient, is_quotient, nearest_up, nearest_down, power_some}

-- ---- a number text or not

abbrev Or : Type 0 → Type 0
Or P = P ⊎ (P → ⊥)

both : {P Q : Type 0} → Or P → Or Q → Or (P × Q)
both (inl p) (inl q) = inl (p, q)
both (inl p) (inr never) = inr (λ h. never h.1)
both (inr never) other = inr (λ h. never h.0)

same : {P Q : Type 0} → (P → Q) → (Q → P) → Or P → Or Q
same to from (inl p) = inl (to p)
same to from (inr never) = inr (λ q. never (from q))

at_most : (m n : ℕ) → Or (m ≤ n)
at_most m n = elim (cases_lt n m) as (λ _. Or (m ≤ n)) [ inl lt ↦ inr (λ h. omega arith) | inr le ↦ inl le ]

true_or : (b : Bool) → Or (IsTrue b)
true_or true = inl refl
true_or false = inr (λ h. false≢true h)

empty_or : (bytes : List ℕ) → Or (bytes ≡ [])
empty_or [] = inl refl
empty_or (c ∷ rest) = inr (λ h. cc)

exponent_or : (power : Exponent) → Or (IsExponent power)
exponent_or no_exponent = inl tt
exponent_or (exponent letter sign digits) =
    same
    (λ h. (h.0, h.1.0, h.1.1.0, h.1.1.1))
    (λ is. (is.0, (is.1, (is.2, is.3))))
    (both (true_or (is_letter letter)) (both (true_or (list_all is_ascii_digit digits)) (both (at_most 1 (length digits)) (at_most (length digits) MOST_EXPONENT_DIGITS))))

-- the digits of a text, as many as there are
abbrev count_of : List ℕ → ℕ
count_of text = length (front is_ascii_digit (at_whole text)) + length (fraction_digits (fraction_of (at_fraction text)))

passes_or : (text : List ℕ) → Or (PassesTests text)
passes_or text =
    same
    (λ h. record { short = h.0; some = h.1.0; few = h.1.1.0; power = h.1.1.1.0; after = h.1.1.1.1 })
    (λ is. (is.short, (is.some, (is.few, (is.power, is.after)))))
    (
    both (at_most (length text) MOST_BYTES) (
    both (at_most 1 (count_of text)) (
    both (at_most (count_of text) MOST_DIGITS) (
    both (exponent_or (exponent_of (at_exponent text))) (empty_or (after_front is_blank (after_exponent (at_exponent text))))
    )
    )
    )
    )

number_or : (text : List ℕ) → Or (IsNumberText text (parts_of text))
number_or text = same (λ tests. is_number_text text tests) (λ is. passes_tests text is) (passes_or text)

-- ---- a whole number or not

abbrev IsWhole : ℕ → ℕ → Type 0
IsWhole over under = (size : ℕ) × (size * under ≡ over)

abbrev IsFraction : ℕ → ℕ → Type 0
IsFraction over under = (size : ℕ) → size * under ≡ over → ⊥

without_rest : (over under whole left : ℕ) → IsQuotient over under whole left → left ≡ 0 → whole * under ≡ over
without_rest over under whole left q none = omega (arith, q.sum, none)

with_rest : (over under whole left size : ℕ) → 0 < under → IsQuotient over under whole left → (left ≡ 0 → ⊥) → size * under ≡ over → ⊥
with_rest over under whole left size divides q some e =
    some (sym (same_from_place size 0 whole left under divides q.below (omega (arith, e, q.sum))).1)

whole_or : (over under : ℕ) → 0 < under → IsWhole over under ⊎ IsFraction over under
whole_or over under divides =
    let q = is_quotient over under (over / under) (over % under) divides refl refl in
    elim (cases_eq (over % under) 0) as (λ _. IsWhole over under ⊎ IsFraction over under) [
      | inl none ↦ inl (over / under, without_rest over under (over / under) (over % under) q none)
      | inr some ↦ inr (λ size e. with_rest over under (over / under) (over % under) size divides q some e)
    ]

-- one whole number is the nearest
nearest : (over under : ℕ) → 0 < under → (size : ℕ) × IsNearestTo over under size
nearest over under divides =
    let whole = over / under in
    let left = over % under in
    let q = is_quotient over under whole left divides refl refl in
    elim (cases_lt left (under - left)) as (λ _. (size : ℕ) × IsNearestTo over under size) [
      | inl down ↦ (whole, nearest_down over under under whole left (record { some = divides; is = inl refl }) q down)
      | inr up ↦ (whole + 1, nearest_up over under under whole left (record { some = divides; is = inl refl }) q up)
    ]

-- ---- the answer

module _ (text : List ℕ) (d : ℕ) (extra : Extra) (most : ℤ) where
  abbrev HasAnswer : Type 0
  HasAnswer = (answer : Result ℤ NumFault) × Reads text d extra most answer

  by_size : (parts : Parts) → IsNumberText text parts → (size : ℕ) → IsTaken extra parts d size → (unsigned_abs most < size) ⊎ (size ≤ unsigned_abs most) → HasAnswer
  by_size parts is size taken (inl large) = (Err OutOfRange, (parts, is, size, taken, large))
  by_size parts is size taken (inr small) = (Ok (signed parts.sign size), record { parts = parts; number = is; size = size; taken = taken; value_is = refl; small = small })

  by_taken : (parts : Parts) → IsNumberText text parts
      → ((size : ℕ) × IsTaken extra parts d size) ⊎ ((extra ≡ Refuse) × ((size : ℕ) → ¬ IsExact parts d size))
      → HasAnswer
  by_taken parts is (inl (size, taken)) = by_size parts is size taken (cases_lt (unsigned_abs most) size)
  by_taken parts is (inr (refuse, fraction)) = (Err TooFine, (parts, is, refuse, fraction))

some_parts : (parts : Parts) → 0 < denominator parts
some_parts parts = power_some (length (fraction_digits parts.fraction) + tens_below parts.power)

exact_or : (parts : Parts) (d : ℕ) → IsWhole (numerator parts d) (denominator parts) ⊎ IsFraction (numerator parts d) (denominator parts)
    → ((size : ℕ) × IsTaken Refuse parts d size) ⊎ ((Refuse ≡ Refuse) × ((size : ℕ) → ¬ IsExact parts d size))
exact_or parts d (inl (size, e)) = inl (size, e)
exact_or parts d (inr fraction) = inr (refl, fraction)

taken_or : (extra : Extra) (parts : Parts) (d : ℕ) → ((size : ℕ) × IsTaken extra parts d size) ⊎ ((extra ≡ Refuse) × ((size : ℕ) → ¬ IsExact parts d size))
taken_or Refuse parts d = exact_or parts d (whole_or (numerator parts d) (denominator parts) (some_parts parts))
taken_or Round parts d =
    let found = nearest (numerator parts d) (denominator parts) (some_parts parts) in
    inl (found.0, record { low = found.1.low; high = found.1.high })

by_text : (text : List ℕ) (d : ℕ) (extra : Extra) (most : ℤ) → Or (IsNumberText text (parts_of text)) → HasAnswer text d extra most
by_text text d extra most (inl is) = by_taken text d extra most (parts_of text) is (taken_or extra (parts_of text) d)
by_text text d extra most (inr never) = (Err NotNumber, λ parts is. never (is_of_parts text parts is))

pub an_answer : (text : List ℕ) (d : ℕ) (extra : Extra) (most : ℤ) → (answer : Result ℤ NumFault) × Reads text d extra most answer
an_answer text d extra most = by_text text d extra most (number_or text)
