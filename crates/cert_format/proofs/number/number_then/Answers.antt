use Rattle.std.proofs.Common.{arith}
use Rattle.std.specs.Prelude.{decimal}
use Rattle.cert_format.specs.Words.{space}
use Rattle.cert_format.proofs.Texts.{not_among}
use Rattle.cert_format.proofs.Numbers.{first_word}
use Rattle.cert_format.proofs.number.number_then.Goals as goal
use Rattle.cert_format.proofs.number.number_then.Goals.{then-number-from-via-then-number-from, then-number-from-via-else-number-from+then-from-number}

pub returns-in_err-word-clause-only : goal.returns-in_err-word-clause-only
returns-in_err-word-clause-only c = λ number rest then. absurd (not_among space c.args.bytes.now (decimal number) rest c.in_err-word.ensures.none then.text)

pub returns-in_err-number-clause-only : goal.returns-in_err-number-clause-only
returns-in_err-number-clause-only c = λ number rest then.
    let same = first_word c.args.least c.args.most c.args.bytes.now c.in_ok-word.word.now c.in_ok-word.rest.now number rest c.in_ok-word.ensures.found.0 c.in_ok-word.ensures.found.1 (omega arith) then in
    absurd (c.in_err-number.ensures.only number (omega (arith, then.high)) same.before)

pub returns-then-number-from-clause-only : goal.returns-then-number-from-clause-only
returns-then-number-from-clause-only c = λ number rest then.
    let same = first_word c.args.least c.args.most c.args.bytes.now c.in_ok-word.word.now c.in_ok-word.rest.now number rest c.in_ok-word.ensures.found.0 c.in_ok-word.ensures.found.1 (omega arith) then in
    let is = c.in_ok-number.ensures.only number (omega (arith, then.high)) same.before in
    elim c.then-number-from.branch as (λ _. ⊥) [
      | then-number-from-via-then-number-from w ↦ omega (arith, is, then.low, c.from.ensures)
      | then-number-from-via-else-number-from+then-from-number w ↦ omega (arith, is, then.high, w.from-else-number-from.ensures)
    ]

pub returns-clause-only : goal.returns-clause-only
returns-clause-only c = λ number rest then.
    let same = first_word c.args.least c.args.most c.args.bytes.now c.in_ok-word.word.now c.in_ok-word.rest.now number rest c.in_ok-word.ensures.found.0 c.in_ok-word.ensures.found.1 (omega arith) then in
    (c.in_ok-number.ensures.only number (omega (arith, then.high)) same.before, same.after)
