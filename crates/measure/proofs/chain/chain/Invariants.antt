use Rattle.std.specs.List.{AllByRecursion}
use Rattle.bound_graph.specs.Arcs.{IsArc}
use Rattle.measure.proofs.chain.chain.Given as goal

abbrev pub invariant-loop-step : goal.invariant-loop-step
invariant-loop-step l = AllByRecursion (IsArc l.nodes) l.arcs

abbrev pub invariant-loop-node : goal.invariant-loop-node
invariant-loop-node l = AllByRecursion (IsArc l.nodes) l.arcs
