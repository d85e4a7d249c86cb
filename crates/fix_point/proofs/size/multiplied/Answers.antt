use Rattle.std.proofs.Common.{arith}
use Rattle.fix_point.proofs.Sizes.{too_great, too_great_first, ten_more}
use Rattle.fix_point.proofs.size.multiplied.Goals as goal

pub returns-then-mantissa-from-clause-none : goal.returns-then-mantissa-from-clause-none
returns-then-mantissa-from-clause-none c = too_great_first c.args.mantissa c.args.tens c.args.most (omega arith)

pub returns-then-size-most_before-clause-none : goal.returns-then-size-most_before-clause-none
returns-then-size-most_before-clause-none c = too_great c.loop-done.size c.args.mantissa c.loop-done._done c.args.tens c.args.most c.loop-done.invariant.size_is (omega arith) (omega arith)

pub loop-done-preserved : goal.loop-done-preserved
loop-done-preserved c = record {
  size_is = ten_more c.loop-done.size c.args.mantissa c.loop-done._done c.loop-done.invariant.size_is;
  small = omega arith;
}
