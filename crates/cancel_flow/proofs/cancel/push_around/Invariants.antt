use Rattle.cancel_flow.proofs.Pushing.{IsPartway}
use Rattle.cancel_flow.proofs.cancel.push_around.Given as goal

abbrev pub invariant-loop-i : goal.invariant-loop-i
invariant-loop-i l = IsPartway l.fn.net l.net l.amount l.room.cycle l.i
