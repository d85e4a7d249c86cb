use Rattle.std.proofs.Common.{◌≡◌, ◌≢◌, ◌<◌, ◌∙◌, eqb-true, eq-eqb, get_or, length, ap, sym, arith}
use Rattle.std.specs.Prelude.{decimal}
use Rattle.std.proofs.lemmas.Bool.{both_ways, eqb-false, le-ltb}
use Rattle.std.proofs.lemmas.Fmt.{length-decimal-le_wide}
use Rattle.cert_format.proofs.Digits.{decimal_some, no_leading_zero}
use Rattle.cert_format.proofs.Numbers.{below_64, found_number, only_number}
use Rattle.cert_format.proofs.number.number_of.Goals as goal
use Rattle.cert_format.proofs.number.number_of.Goals.{then-is_empty-via-then-is_empty, then-is_empty-via-else-is_empty+then-word-most_digits, then-is_empty-via-else-is_empty+else-word-most_digits+then-word-eq48, then-word-gt1, else-word-gt1}

pub returns-then-is_empty-clause-only : goal.returns-then-is_empty-clause-only
returns-then-is_empty-clause-only c = λ number below e.
    let small = below_64 number c.args.most_digits below c.requires.few in
    let long : length c.args.word.now ≡ length (decimal number) = ap length e in
    elim c.then-is_empty.branch as (λ _. ⊥) [
      | then-is_empty-via-then-is_empty w ↦ let none : length c.args.word.now ≡ 0 = eqb-true (length c.args.word.now) 0 (cc) in omega (arith, none, long, decimal_some number small)
      | then-is_empty-via-else-is_empty+then-word-most_digits w ↦ omega (arith, long, length-decimal-le_wide c.args.most_digits number c.requires.some below small)
      | then-is_empty-via-else-is_empty+else-word-most_digits+then-word-eq48 w ↦ elim w.if-word-gt1.branch as (λ _. ⊥) [
        | then-word-gt1 w' ↦ let first : get_or c.args.word.now 0 0 ≡ 48 = eqb-true (get_or c.args.word.now 0 0) 48 (cc) in
            no_leading_zero number small (omega (arith, long)) (sym (ap (λ s. get_or s 0 0) e) ∙ first)
        | else-word-gt1 w' ↦ both_ways w.if-word-gt1.value (w'.value-is ∙ le-ltb 1 (length c.args.word.now) w'.if-word-gt1.false) w.if-word-eq48.true
      ]
    ]

pub returns-clause-found : goal.returns-clause-found
returns-clause-found c =
    let plain : 1 < length c.args.word.now → get_or c.args.word.now 0 0 ≡ 48 → ⊥ = λ several zero. elim c.if-word-gt1.branch as (λ _. ⊥) [
      | then-word-gt1 w ↦ both_ways c.if-word-gt1.value c.if-word-eq48.false (w.value-is ∙ eq-eqb (get_or c.args.word.now 0 0) 48 zero)
      | else-word-gt1 w ↦ omega arith
    ] in
    let some : length c.args.word.now ≢ 0 = eqb-false (length c.args.word.now) 0 (cc) in
    found_number c.args.word.now c.args.most_digits c.value_of.result c.value_of.ensures.found (omega arith) (omega arith) c.requires.few plain

pub returns-clause-only : goal.returns-clause-only
returns-clause-only c = λ number below e. only_number c.args.word.now number c.value_of.result c.value_of.ensures.found c.value_of.ensures.none (below_64 number c.args.most_digits below c.requires.few) e
