-- Decimal digits, of numbers with at most 64 of them.
use Rattle.std.proofs.Common.{◌≡◌, ◌≢◌, ℕ, zero, suc, ◌+◌, ◌-◌, ◌*◌, ◌/◌, ◌%◌, ◌^◌, ◌<◌, ◌≤◌, true, false, List, [], ◌∷◌, ◌++◌, length, get_or, take, refl, sym, ap, add-one, ◌∙◌, subst, arith}
use Rattle.std.specs.Prelude.{decimal}
use Rattle.std.specs.Char.{is_ascii_digit, digit_value}
use Rattle.std.specs.Int.{IsInRange}
use Rattle.std.specs.Str.Parse.{AllDigits, digits_value}
use Rattle.std.proofs.lemmas.Fmt.{decimal_is_IsNumeral_wide, decimal_step_wide, decimal_by_steps_wide, decimal_digit}
use Rattle.std.proofs.lemmas.Int.Digits.{digits_value-lt, digits_value_more, digits_more}
use Rattle.std.proofs.lemmas.Str.Parse.{digit_at}
use Rattle.std.proofs.lemmas.Str.{digit_value_digit}
use Rattle.std.proofs.lemmas.List.{take_more, get_or-take, length-take-le, take_all}
use Rattle.std.proofs.lemmas.Bool.Decides.{nat_tests}
use Rattle.std.proofs.Math.Nat.{pow-le-pow_right}

-- ---- the text of a number

pub value-decimal : (n : ℕ) → n < 10 ^ 64 → digits_value 10 (decimal n) ≡ n
value-decimal n small = (decimal_is_IsNumeral_wide n small).1

pub digits-decimal : (n : ℕ) → n < 10 ^ 64 → AllDigits 10 (decimal n)
digits-decimal n small = (decimal_is_IsNumeral_wide n small).0.1

pub decimal_some : (n : ℕ) → n < 10 ^ 64 → 0 < length (decimal n)
decimal_some n small = (decimal_is_IsNumeral_wide n small).0.0

pub decimal_one : (m n : ℕ) → m < 10 ^ 64 → n < 10 ^ 64 → decimal m ≡ decimal n → m ≡ n
decimal_one m n small small_too e = sym (value-decimal m small) ∙ ap (digits_value 10) e ∙ value-decimal n small_too

-- the first digit of a number that is not 0
record LeadsWell (n : ℕ) (digits : List ℕ) : Type 0 where
  pub some : 0 < length digits
  pub first : 0 < n → 48 < get_or digits 0 0

first_of_more : (digits : List ℕ) (last : ℕ) → 0 < length digits → get_or (digits ++ last ∷ []) 0 0 ≡ get_or digits 0 0
first_of_more [] last some = absurd (omega arith)
first_of_more (d ∷ digits) last some = refl

some_more : (digits : List ℕ) (last : ℕ) → 0 < length digits → 0 < length (digits ++ last ∷ [])
some_more [] last some = absurd (omega arith)
some_more (d ∷ digits) last some = omega arith

tenth_some : (n : ℕ) → 10 ≤ n → 0 < n / 10
tenth_some n h = omega arith

leads_well : (n : ℕ) → n < 10 ^ 64 → LeadsWell n (decimal n)
leads_well n small =
    decimal_by_steps_wide LeadsWell
    (λ m one. record { some = omega arith; first = λ h. omega arith })
    (λ m digits ten before. record {
      some = some_more digits (48 + m % 10) before.some;
      first = λ h. subst (λ d. 48 < d) (sym (first_of_more digits (48 + m % 10) before.some)) (before.first (tenth_some m ten));
    })
    n small

-- a text of several digits does not begin with 0
pub no_leading_zero : (n : ℕ) → n < 10 ^ 64 → 1 < length (decimal n) → get_or (decimal n) 0 0 ≡ 48 → ⊥
no_leading_zero zero small several zero_first = omega (arith, ap length (decimal_digit 0 (omega arith)))
no_leading_zero (suc n) small several zero_first = omega (arith, (leads_well (suc n) small).first (omega arith))

-- ---- digits as a number

pub not_digit : (byte : ℕ) → is_ascii_digit byte ≡ false → IsInRange 48 57 byte → ⊥
not_digit byte h inside = grind (arith, nat_tests)

pub is_digit : (byte : ℕ) → is_ascii_digit byte ≡ true → IsInRange 48 57 byte
is_digit byte h = grind (arith, nat_tests)

pub digit_below_ten : (byte : ℕ) → IsInRange 48 57 byte → digit_value byte < 10
digit_below_ten byte inside = omega (arith, digit_value_digit byte inside)

-- the first so many bytes are digits, and the value is theirs
pub record AreRead (bytes : List ℕ) (count value : ℕ) : Type 0 where
  pub digits : AllDigits 10 (take count bytes)
  pub value_is : value ≡ digits_value 10 (take count bytes)

pub read_more : (bytes : List ℕ) (count value digit : ℕ) → AreRead bytes count value → count < length bytes → is_ascii_digit (get_or bytes count 0) ≡ true
    → digit ≡ get_or bytes count 0 - 48 → AreRead bytes (count + 1) (value * 10 + digit)
read_more bytes count value digit read inside is e =
    let here = is_digit (get_or bytes count 0) is in
    record {
      digits = digits_more 10 bytes count inside read.digits (digit_below_ten (get_or bytes count 0) here);
      value_is = omega (arith, e, here.0, digit_value_digit (get_or bytes count 0) here, read.value_is, digits_value_more 10 bytes count inside);
    }

-- so many digits are a number below a power of ten
pub below_power : (bytes : List ℕ) (count value k : ℕ) → AreRead bytes count value → count ≤ length bytes → count ≤ k → value < 10 ^ k
below_power bytes count value k read inside le =
    let long : length (take count bytes) ≡ count = length-take-le count bytes inside in
    let bound = digits_value-lt 10 (take count bytes) read.digits in
    let bound_again : digits_value 10 (take count bytes) < 10 ^ count = subst (λ n. digits_value 10 (take count bytes) < 10 ^ n) long bound in
    let power : 10 ^ count ≤ 10 ^ k = pow-le-pow_right (omega arith) le in
    omega (arith, read.value_is, power, bound_again)

-- ---- digits without a leading 0 are the text of their value

single : (byte : ℕ) → IsInRange 48 57 byte → decimal (digit_value byte) ≡ byte ∷ []
single byte inside =
    let v = digit_value_digit byte inside in
    decimal_digit (digit_value byte) (omega (arith, v)) ∙ ap (λ d. d ∷ []) (let e : 48 + digit_value byte ≡ byte = omega (arith, v, inside.0) in e)

digits_take : (n : ℕ) (bytes : List ℕ) → AllDigits 10 bytes → AllDigits 10 (take n bytes)
digits_take zero bytes digits = tt
digits_take (suc n) [] digits = tt
digits_take (suc n) (byte ∷ bytes) digits = (digits.0, digits_take n bytes digits.1)

-- so are the first so many of them
abbrev IsTextAt : List ℕ → ℕ → Type 0
IsTextAt bytes k = decimal (digits_value 10 (take (k + 1) bytes)) ≡ take (k + 1) bytes

first_text : (bytes : List ℕ) → AllDigits 10 bytes → 0 < length bytes → IsTextAt bytes 0
first_text bytes digits some =
    let value : digits_value 10 (take (0 + 1) bytes) ≡ digit_value (get_or bytes 0 0) = omega (arith, digits_value_more 10 bytes 0 some) in
    ap decimal value ∙ single (get_or bytes 0 0) (digit_at bytes 0 digits some) ∙ sym (take_more bytes 0 0 some)

not_zero : (bytes : List ℕ) (k : ℕ) → 0 < length bytes → (get_or bytes 0 0 ≡ 48 → ⊥) → IsTextAt bytes k → digits_value 10 (take (k + 1) bytes) ≡ 0 → ⊥
not_zero bytes k some plain text is_zero =
    let zero_text : take (k + 1) bytes ≡ 48 ∷ [] = sym text ∙ ap decimal is_zero ∙ decimal_digit 0 (omega arith) in
    plain (sym (get_or-take (k + 1) bytes 0 0 (omega arith)) ∙ ap (λ s. get_or s 0 0) zero_text)

record IsStep (m v d : ℕ) : Type 0 where
  pub front : m / 10 ≡ v
  pub last : m % 10 ≡ d

step_of : (m v d : ℕ) → m ≡ v * 10 + d → d < 10 → IsStep m v d
step_of m v d e small = record { front = omega arith; last = omega arith }

next_text : (bytes : List ℕ) (k : ℕ) → AllDigits 10 bytes → length bytes ≤ 64 → (get_or bytes 0 0 ≡ 48 → ⊥) → k + 1 < length bytes → IsTextAt bytes k → IsTextAt bytes (k + 1)
next_text bytes k digits short plain inside text =
    let v = digits_value 10 (take (k + 1) bytes) in
    let c = get_or bytes (k + 1) 0 in
    let m = digits_value 10 (take (k + 1 + 1) bytes) in
    let range = digit_at bytes (k + 1) digits inside in
    let own : digit_value c + 48 ≡ c = digit_value_digit c range in
    let more : m ≡ v * 10 + digit_value c = digits_value_more 10 bytes (k + 1) inside in
    let some : v ≢ 0 = not_zero bytes k (omega arith) plain text in
    let step = step_of m v (digit_value c) more (omega (arith, own, range.1)) in
    let small : m < 10 ^ 64 = below_power bytes (k + 1 + 1) m 64 (record { digits = digits_take (k + 1 + 1) bytes digits; value_is = refl }) (omega arith) (omega arith) in
    let last : 48 + m % 10 ≡ c = omega (arith, own, step.last) in
    decimal_step_wide m (omega (arith, more, some)) small
    ∙ ap (λ q. decimal q ++ (48 + m % 10) ∷ []) step.front
    ∙ ap (λ d. decimal v ++ d ∷ []) last
    ∙ ap (λ s. s ++ c ∷ []) text
    ∙ sym (take_more bytes (k + 1) 0 inside)

each_text : (bytes : List ℕ) (k : ℕ) → AllDigits 10 bytes → length bytes ≤ 64 → (1 < length bytes → get_or bytes 0 0 ≡ 48 → ⊥) → k < length bytes → IsTextAt bytes k
each_text bytes zero digits short plain inside = first_text bytes digits inside
each_text bytes (suc k) digits short plain inside =
    subst (IsTextAt bytes) (add-one k) (next_text bytes k digits short (plain (omega arith)) (omega arith) (each_text bytes k digits short plain (omega arith)))

-- digits of which the first is not 0, or one digit, are the text of their value
pub decimal_of_digits : (bytes : List ℕ) → AllDigits 10 bytes → 0 < length bytes → length bytes ≤ 64 → (1 < length bytes → get_or bytes 0 0 ≡ 48 → ⊥) → decimal (digits_value 10 bytes) ≡ bytes
decimal_of_digits bytes digits some short plain =
    let text = each_text bytes (length bytes - 1) digits short plain (omega arith) in
    let all : take (length bytes - 1 + 1) bytes ≡ bytes = take_all (length bytes - 1 + 1) bytes (omega arith) in
    subst (λ s. decimal (digits_value 10 s) ≡ s) all text
