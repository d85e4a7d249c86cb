use Rattle.std.proofs.Common.{◌≡◌, ◌+◌, ◌^◌, ◌<◌, Option, Some, None, IfNone, length, refl, sym, ap, ◌∙◌, subst, arith}
use Rattle.std.specs.Char.{is_ascii_digit}
use Rattle.std.specs.Str.Parse.{digits_value, digits_value_after}
use Rattle.std.proofs.lemmas.List.{nil_from_length}
use Rattle.std.proofs.lemmas.Bool.{eqb-true, eqb-false}
use Rattle.fix_point.specs.Grammar.{is_blank, fraction_digits, IsExponent}
use Rattle.fix_point.specs.PartsOf.{front, after_front, sign_of, is_minus, after_sign, fraction_of, after_fraction, exponent_of, after_exponent, at_whole, at_fraction, at_exponent, AreTensOf}
use Rattle.fix_point.proofs.Numbers.{passes_tests, is_number_text, number_found, digits_inside}
use Rattle.fix_point.proofs.number.number_of.Goals as goal
use Rattle.fix_point.proofs.number.number_of.Goals.{then-digits-eq0-via-then-digits-eq0, then-digits-eq0-via-else-digits-eq0+then-digits-gt-MOST_DIGITS, then-digits-eq0-via-else-digits-eq0+else-digits-gt-MOST_DIGITS+then-not-is_empty}

none_from : {X : Type 0} {P : Type 0} (r : Option X) → P → IfNone r P
none_from None h = h
none_from (Some x) h = tt

pub returns-in_err-tens-clause-none : goal.returns-in_err-tens-clause-none
returns-in_err-tens-clause-none c =
    let text = c.args.text.now in
    let at_1 : c.sign_at-negative.result.1.now ≡ at_whole text = c.sign_at-negative.ensures.rest ∙ ap after_sign c.after_blanks.ensures in
    let at_2 : c.digits_at-whole.result.rest.now ≡ at_fraction text = c.digits_at-whole.ensures.rest ∙ ap (after_front is_ascii_digit) at_1 in
    let at_3 : c.fraction_at-mantissa.result.rest.now ≡ at_exponent text = c.fraction_at-mantissa.ensures.rest ∙ ap after_fraction at_2 in
    none_from c.from_residual.result (λ is. c.in_err-tens.ensures.none (subst (λ s. IsExponent (exponent_of s)) (sym at_3) (passes_tests text is).power))

pub overflow_add-digits : goal.overflow_add-digits
overflow_add-digits c =
    let text = c.args.text.now in
    let at_1 : c.sign_at-negative.result.1.now ≡ at_whole text = c.sign_at-negative.ensures.rest ∙ ap after_sign c.after_blanks.ensures in
    let at_2 : c.digits_at-whole.result.rest.now ≡ at_fraction text = c.digits_at-whole.ensures.rest ∙ ap (after_front is_ascii_digit) at_1 in
    let count_1 : c.digits_at-whole.result.count ≡ length (front is_ascii_digit (at_whole text)) = c.digits_at-whole.ensures.count ∙ ap (λ s. length (front is_ascii_digit s)) at_1 in
    let count_2 : c.fraction_at-mantissa.result.count ≡ length (fraction_digits (fraction_of (at_fraction text))) = c.fraction_at-mantissa.ensures.count ∙ ap (λ s. length (fraction_digits (fraction_of s))) at_2 in
    omega (arith, digits_inside text, count_1, count_2)

pub returns-then-digits-eq0-clause-none : goal.returns-then-digits-eq0-clause-none
returns-then-digits-eq0-clause-none c = λ is.
    let text = c.args.text.now in
    let tests = passes_tests text is in
    let at_1 : c.sign_at-negative.result.1.now ≡ at_whole text = c.sign_at-negative.ensures.rest ∙ ap after_sign c.after_blanks.ensures in
    let at_2 : c.digits_at-whole.result.rest.now ≡ at_fraction text = c.digits_at-whole.ensures.rest ∙ ap (after_front is_ascii_digit) at_1 in
    let at_3 : c.fraction_at-mantissa.result.rest.now ≡ at_exponent text = c.fraction_at-mantissa.ensures.rest ∙ ap after_fraction at_2 in
    let at_4 : c.in_ok-tens.after.now ≡ after_exponent (at_exponent text) = c.in_ok-tens.ensures.rest ∙ ap after_exponent at_3 in
    let count_1 : c.digits_at-whole.result.count ≡ length (front is_ascii_digit (at_whole text)) = c.digits_at-whole.ensures.count ∙ ap (λ s. length (front is_ascii_digit s)) at_1 in
    let count_2 : c.fraction_at-mantissa.result.count ≡ length (fraction_digits (fraction_of (at_fraction text))) = c.fraction_at-mantissa.ensures.count ∙ ap (λ s. length (fraction_digits (fraction_of s))) at_2 in
    elim c.then-digits-eq0.branch as (λ _. ⊥) [
      | then-digits-eq0-via-then-digits-eq0 w ↦ omega (arith, tests.some, count_1, count_2)
      | then-digits-eq0-via-else-digits-eq0+then-digits-gt-MOST_DIGITS w ↦ omega (arith, tests.few, count_1, count_2)
      | then-digits-eq0-via-else-digits-eq0+else-digits-gt-MOST_DIGITS+then-not-is_empty w ↦ eqb-false (length w.after_blanks-else-digits-gt-MOST_DIGITS.result.now) 0 (sym w.is_empty.ensures ∙ w.if-not-is_empty.true) (ap length (w.after_blanks-else-digits-gt-MOST_DIGITS.ensures ∙ ap (after_front is_blank) at_4 ∙ tests.after))
    ]

pub returns-clause-found : goal.returns-clause-found
returns-clause-found c =
    let text = c.args.text.now in
    let at_1 : c.sign_at-negative.result.1.now ≡ at_whole text = c.sign_at-negative.ensures.rest ∙ ap after_sign c.after_blanks.ensures in
    let at_2 : c.digits_at-whole.result.rest.now ≡ at_fraction text = c.digits_at-whole.ensures.rest ∙ ap (after_front is_ascii_digit) at_1 in
    let at_3 : c.fraction_at-mantissa.result.rest.now ≡ at_exponent text = c.fraction_at-mantissa.ensures.rest ∙ ap after_fraction at_2 in
    let count_1 : c.digits_at-whole.result.count ≡ length (front is_ascii_digit (at_whole text)) = c.digits_at-whole.ensures.count ∙ ap (λ s. length (front is_ascii_digit s)) at_1 in
    let count_2 : c.fraction_at-mantissa.result.count ≡ length (fraction_digits (fraction_of (at_fraction text))) = c.fraction_at-mantissa.ensures.count ∙ ap (λ s. length (fraction_digits (fraction_of s))) at_2 in
    number_found text _ c.digits_at-whole.result.value
    (c.sign_at-negative.ensures.minus ∙ ap (λ s. is_minus (sign_of s)) c.after_blanks.ensures)
    (subst (λ s. digits_value 10 (front is_ascii_digit s) < 10 ^ 30 → c.digits_at-whole.result.value ≡ digits_value 10 (front is_ascii_digit s)) at_1 c.digits_at-whole.ensures.value)
    (subst (λ s. digits_value_after 10 c.digits_at-whole.result.value (fraction_digits (fraction_of s)) < 10 ^ 30 → c.fraction_at-mantissa.result.value ≡ digits_value_after 10 c.digits_at-whole.result.value (fraction_digits (fraction_of s))) at_2 c.fraction_at-mantissa.ensures.value)
    (omega (arith, count_1, count_2))
    c.in_ok-tens.tens
    (subst (λ s. AreTensOf (exponent_of s) c.in_ok-tens.tens) at_3 c.in_ok-tens.ensures.found)
    c.fraction_at-mantissa.ensures.small
    refl
    (ap (λ n. n + c.in_ok-tens.tens.below) count_2)

pub returns-clause-text : goal.returns-clause-text
returns-clause-text c =
    let text = c.args.text.now in
    let at_1 : c.sign_at-negative.result.1.now ≡ at_whole text = c.sign_at-negative.ensures.rest ∙ ap after_sign c.after_blanks.ensures in
    let at_2 : c.digits_at-whole.result.rest.now ≡ at_fraction text = c.digits_at-whole.ensures.rest ∙ ap (after_front is_ascii_digit) at_1 in
    let at_3 : c.fraction_at-mantissa.result.rest.now ≡ at_exponent text = c.fraction_at-mantissa.ensures.rest ∙ ap after_fraction at_2 in
    let at_4 : c.in_ok-tens.after.now ≡ after_exponent (at_exponent text) = c.in_ok-tens.ensures.rest ∙ ap after_exponent at_3 in
    let count_1 : c.digits_at-whole.result.count ≡ length (front is_ascii_digit (at_whole text)) = c.digits_at-whole.ensures.count ∙ ap (λ s. length (front is_ascii_digit s)) at_1 in
    let count_2 : c.fraction_at-mantissa.result.count ≡ length (fraction_digits (fraction_of (at_fraction text))) = c.fraction_at-mantissa.ensures.count ∙ ap (λ s. length (fraction_digits (fraction_of s))) at_2 in
    is_number_text text (record {
      short = c.if-text-gt-MOST_BYTES.false;
      some = omega (arith, count_1, count_2);
      few = omega (arith, count_1, count_2);
      power = subst (λ s. IsExponent (exponent_of s)) at_3 c.in_ok-tens.ensures.exponent;
      after = sym (c.after_blanks-else-digits-gt-MOST_DIGITS.ensures ∙ ap (after_front is_blank) at_4) ∙ nil_from_length c.after_blanks-else-digits-gt-MOST_DIGITS.result.now (eqb-true (length c.after_blanks-else-digits-gt-MOST_DIGITS.result.now) 0 (sym c.is_empty.ensures ∙ c.if-not-is_empty.false));
    })
