use Rattle.bound_graph.specs.Index.{IsNumbered}
use Rattle.bound_graph.proofs.index.node_map.Given as goal

abbrev pub invariant-loop-i : goal.invariant-loop-i
invariant-loop-i l = IsNumbered l.places l.i l.nodes
