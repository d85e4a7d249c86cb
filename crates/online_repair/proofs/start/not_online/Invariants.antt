use Rattle.online_repair.proofs.Naming.{IsLooked}
use Rattle.online_repair.proofs.start.not_online.Given as goal

abbrev pub invariant-loop-i : goal.invariant-loop-i
invariant-loop-i l = IsLooked l.rules l.i
