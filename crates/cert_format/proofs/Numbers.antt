-- Words that are numbers.
use Rattle.std.proofs.Common.{◌≡◌, ℕ, suc, ◌^◌, ◌<◌, ◌≤◌, eqb, ℤ, pos, negsuc, List, ◌∷◌, ◌++◌, length, get_or, Option, Some, None, IfSome, IfNone, IsSomeAnd, refl, sym, ap, ◌∙◌, subst, arith}
use Rattle.std.specs.Prelude.{decimal}
use Rattle.std.specs.Fmt.{signed_decimal}
use Rattle.std.specs.Str.Parse.{AllDigits, digits_value}
use Rattle.std.proofs.lemmas.Bool.{both_ways}
use Rattle.std.proofs.lemmas.Int.Digits.{digits_value-lt}
use Rattle.std.proofs.lemmas.Bool.{eq-eqb}
use Rattle.std.proofs.Math.Nat.{pow-le-pow_right}
use Rattle.cert_format.specs.Words.{space}
use Rattle.cert_format.specs.Line.{IsValue}
use Rattle.cert_format.specs.Fields.{Lacks, IsNumberThen}
use Rattle.cert_format.proofs.Texts.{IsSame, split_one}
use Rattle.cert_format.proofs.Digits.{value-decimal, digits-decimal, decimal_of_digits}
use Rattle.cert_format.proofs.Words.{word_lacks}
use Rattle.cert_format.proofs.Lines.{word_decimal, first_is_no_sign}

pub below_64 : (n k : ℕ) → n < 10 ^ k → k ≤ 30 → n < 10 ^ 64
below_64 n k small few = let power : 10 ^ k ≤ 10 ^ 30 = pow-le-pow_right (omega arith) few in omega (arith, small, power)

-- what the digits of a word tell of it
abbrev TellsValue : List ℕ → Option ℕ → Type 0
TellsValue word found = IfSome found (λ value. AllDigits 10 word × (value ≡ digits_value 10 word))

pub found_number : (word : List ℕ) (most : ℕ) (found : Option ℕ) → TellsValue word found → 0 < length word → length word ≤ most → most ≤ 30
    → (1 < length word → get_or word 0 0 ≡ 48 → ⊥) → IfSome found (λ number. (number < 10 ^ most) × (word ≡ decimal number))
found_number word most None tells some short few plain = tt
found_number word most (Some value) tells some short few plain =
    let power : 10 ^ length word ≤ 10 ^ most = pow-le-pow_right (omega arith) short in
    (omega (arith, tells.1, power, digits_value-lt 10 word tells.0), sym (ap decimal tells.1 ∙ decimal_of_digits word tells.0 some (omega arith) plain))

pub only_number : (word : List ℕ) (number : ℕ) (found : Option ℕ) → TellsValue word found → IfNone found (¬ AllDigits 10 word) → number < 10 ^ 64 → word ≡ decimal number → IsSomeAnd found (λ value. value ≡ number)
only_number word number None tells none small e = absurd (none (subst (AllDigits 10) (sym e) (digits-decimal number small)))
only_number word number (Some value) tells none small e = tells.1 ∙ ap (digits_value 10) e ∙ value-decimal number small

-- the first word of a number and a rest is that number
pub first_word : (least most : ℕ) (bytes word rest : List ℕ) (number : ℕ) (after : List ℕ) → bytes ≡ word ++ space ∷ rest → Lacks space word → most < 10 ^ 30 → IsNumberThen least most bytes number after → IsSame word (decimal number) rest after
first_word least most bytes word rest number after e lacks small then =
    split_one space word (decimal number) rest after lacks (word_lacks space (decimal number) (omega arith) (word_decimal number (omega (arith, then.high)))) (sym e ∙ then.text)

-- a number below 0, by the digits of its text
pub record IsNegative (digits : List ℕ) (value : ℤ) : Type 0 where
  pub size : ℕ
  pub value_is : value ≡ negsuc size
  pub small : suc size < 10 ^ 18
  pub text : digits ≡ decimal (suc size)

pub is_negative : (word digits : List ℕ) (value : ℤ) → word ≡ 45 ∷ digits → IsValue value → word ≡ signed_decimal value → IsNegative digits value
is_negative word digits (pos n) e small text =
    let first : get_or (decimal n) 0 0 ≡ 45 = ap (λ s. get_or s 0 0) (sym text ∙ e) in
    absurd (both_ways (eqb (get_or (decimal n) 0 0) 45) (first_is_no_sign n (omega (arith, small))) (eq-eqb (get_or (decimal n) 0 0) 45 first))
is_negative word digits (negsuc n) e small text = record { size = n; value_is = refl; small = small; text = cc (sym e ∙ text) }
