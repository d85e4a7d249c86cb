use Rattle.std.proofs.Common.{get_or, arith}
use Rattle.fix_point.proofs.Numbers.{are_tens, exponent_found}
use Rattle.fix_point.proofs.number.exponent_at.Goals as goal

pub overflow_cast-digits : goal.overflow_cast-digits
overflow_cast-digits c =
    let found = exponent_found c.args.bytes.now (get_or c.args.bytes.now 0 0) c.in-Some.after.now c.sign_at-negative.result.1.now c.sign_at-negative.result.0 c.digits_at-digits.result.value c.digits_at-digits.result.count c.in-Some.ensures.after c.in-Some.ensures.letter c.sign_at-negative.ensures.rest c.sign_at-negative.ensures.minus c.digits_at-digits.ensures.count c.digits_at-digits.ensures.value c.if-digits-eq0.false c.if-digits-gt-MOST_EXPONENT_DIGITS.false in
    omega (arith, found.small)

pub returns-clause-found : goal.returns-clause-found
returns-clause-found c =
    let found = exponent_found c.args.bytes.now (get_or c.args.bytes.now 0 0) c.in-Some.after.now c.sign_at-negative.result.1.now c.sign_at-negative.result.0 c.digits_at-digits.result.value c.digits_at-digits.result.count c.in-Some.ensures.after c.in-Some.ensures.letter c.sign_at-negative.ensures.rest c.sign_at-negative.ensures.minus c.digits_at-digits.ensures.count c.digits_at-digits.ensures.value c.if-digits-eq0.false c.if-digits-gt-MOST_EXPONENT_DIGITS.false in
    are_tens c.args.bytes.now c.sign_at-negative.result.0 c.digits_at-digits.result.value c.tens_of-2.result found c.tens_of-2.ensures.above c.tens_of-2.ensures.below

pub returns-clause-exponent : goal.returns-clause-exponent
returns-clause-exponent c =
    let found = exponent_found c.args.bytes.now (get_or c.args.bytes.now 0 0) c.in-Some.after.now c.sign_at-negative.result.1.now c.sign_at-negative.result.0 c.digits_at-digits.result.value c.digits_at-digits.result.count c.in-Some.ensures.after c.in-Some.ensures.letter c.sign_at-negative.ensures.rest c.sign_at-negative.ensures.minus c.digits_at-digits.ensures.count c.digits_at-digits.ensures.value c.if-digits-eq0.false c.if-digits-gt-MOST_EXPONENT_DIGITS.false in
    found.power
