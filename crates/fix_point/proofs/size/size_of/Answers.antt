use Rattle.std.proofs.Common.{arith}
use Rattle.fix_point.proofs.Sizes.{above_accepted, above_refused, taken_below, fraction_below}
use Rattle.fix_point.proofs.size.size_of.Goals as goal

pub returns-in_default-clause-refused : goal.returns-in_default-clause-refused
returns-in_default-clause-refused c = (c.in_default.ensures.none, λ size. fraction_below c.args.mantissa c.args.tens.above c.args.tens.below size (omega arith) (c.in_default.ensures.fraction size))

pub returns-then-size-from-clause-refused : goal.returns-then-size-from-clause-refused
returns-then-size-from-clause-refused c = (c.in-Some.size, taken_below c.args.extra c.args.mantissa c.args.tens.above c.args.tens.below c.in-Some.size (omega arith) c.in-Some.ensures.some, omega (arith, c.from.ensures))

pub returns-then-tens-clause-accepted : goal.returns-then-tens-clause-accepted
returns-then-tens-clause-accepted c = above_accepted c.args.extra c.args.mantissa c.args.tens.above c.args.tens.below c.args.most c.multiplied.result c.ok_or.result c.if-tens.true c.ok_or.ensures.value c.multiplied.ensures.some c.multiplied.ensures.small

pub returns-then-tens-clause-refused : goal.returns-then-tens-clause-refused
returns-then-tens-clause-refused c = above_refused c.args.extra c.args.mantissa c.args.tens.above c.args.tens.below c.args.most c.multiplied.result c.ok_or.result c.if-tens.true c.ok_or.ensures.value c.multiplied.ensures.none

pub returns-else-size-from-clause-accepted : goal.returns-else-size-from-clause-accepted
returns-else-size-from-clause-accepted c = record {
  taken = taken_below c.args.extra c.args.mantissa c.args.tens.above c.args.tens.below c.in-Some.size (omega arith) c.in-Some.ensures.some;
  small = omega (arith, c.from.ensures);
}
