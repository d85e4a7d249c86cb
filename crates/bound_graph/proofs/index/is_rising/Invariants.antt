use Rattle.bound_graph.specs.Index.{IsRising}
use Rattle.bound_graph.proofs.index.is_rising.Given as goal

abbrev pub invariant-loop-i : goal.invariant-loop-i
invariant-loop-i l = IsRising l.places l.i
