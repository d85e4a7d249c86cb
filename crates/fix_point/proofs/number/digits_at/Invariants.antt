use Rattle.std.proofs.Common.{length}
use Rattle.fix_point.proofs.Run.{IsPartRead}
use Rattle.fix_point.proofs.number.digits_at.Given as goal

abbrev pub invariant-loop-rest : goal.invariant-loop-rest
invariant-loop-rest l = IsPartRead l.bytes l.fn.before l.rest l.value

abbrev pub decreases-loop-rest : goal.decreases-loop-rest
decreases-loop-rest l = length l.rest
