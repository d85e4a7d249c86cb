use Rattle.std.proofs.Common.{◌+◌, ◌^◌, sym, ap, ◌∙◌, subst, arith}
use Rattle.fix_point.specs.Sizes.{IsTakenFor}
use Rattle.fix_point.proofs.Sizes.{power_fits, power_some, is_power, is_quotient, fraction_when, nearest_up, nearest_down}
use Rattle.fix_point.proofs.size.divided.Goals as goal

pub pow-power-requires : goal.pow-power-requires
pow-power-requires c = omega (arith, power_fits c.args.tens, ap (λ n. 10 ^ n) c.min.ensures)

pub quotient-whole-requires : goal.quotient-whole-requires
quotient-whole-requires c = omega (arith, power_some c.min.result, c.pow-power.ensures)

pub overflow_sub-power : goal.overflow_sub-power
overflow_sub-power c =
    let q = is_quotient c.args.mantissa c.pow-power.result c.quotient-whole.result.0 c.quotient-whole.result.1 (omega (arith, power_some c.min.result, c.pow-power.ensures)) c.quotient-whole.ensures.whole c.quotient-whole.ensures.left in
    omega (arith, q.below)

pub returns-in-Refuse-clause-fraction : goal.returns-in-Refuse-clause-fraction
returns-in-Refuse-clause-fraction c = λ size e.
    let p = is_power c.args.mantissa c.args.tens c.pow-power.result c.requires.mantissa (c.pow-power.ensures ∙ ap (λ n. 10 ^ n) c.min.ensures) in
    let q = is_quotient c.args.mantissa c.pow-power.result c.quotient-whole.result.0 c.quotient-whole.result.1 p.some c.quotient-whole.ensures.whole c.quotient-whole.ensures.left in
    fraction_when c.args.mantissa (10 ^ c.args.tens) c.pow-power.result c.quotient-whole.result.0 c.quotient-whole.result.1 size p q c.if-left-ne0.true e

pub returns-in-Round-clause-some : goal.returns-in-Round-clause-some
returns-in-Round-clause-some c =
    let p = is_power c.args.mantissa c.args.tens c.pow-power.result c.requires.mantissa (c.pow-power.ensures ∙ ap (λ n. 10 ^ n) c.min.ensures) in
    let q = is_quotient c.args.mantissa c.pow-power.result c.quotient-whole.result.0 c.quotient-whole.result.1 p.some c.quotient-whole.ensures.whole c.quotient-whole.ensures.left in
    subst (λ extra. IsTakenFor extra c.args.mantissa (10 ^ c.args.tens) (c.quotient-whole.result.0 + 1)) (sym c.in-Round.is)
    (nearest_up c.args.mantissa (10 ^ c.args.tens) c.pow-power.result c.quotient-whole.result.0 c.quotient-whole.result.1 p q c.if-left-power.true)

pub returns-in_default-2-clause-some : goal.returns-in_default-2-clause-some
returns-in_default-2-clause-some c =
    let p = is_power c.args.mantissa c.args.tens c.pow-power.result c.requires.mantissa (c.pow-power.ensures ∙ ap (λ n. 10 ^ n) c.min.ensures) in
    let q = is_quotient c.args.mantissa c.pow-power.result c.quotient-whole.result.0 c.quotient-whole.result.1 p.some c.quotient-whole.ensures.whole c.quotient-whole.ensures.left in
    subst (λ extra. IsTakenFor extra c.args.mantissa (10 ^ c.args.tens) c.quotient-whole.result.0) (sym c.in-Round.is)
    (nearest_down c.args.mantissa (10 ^ c.args.tens) c.pow-power.result c.quotient-whole.result.0 c.quotient-whole.result.1 p q c.if-left-power.false)
