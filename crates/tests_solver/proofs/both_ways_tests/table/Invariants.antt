use Rattle.std.specs.List.{AllByRecursion}
use Rattle.bound_graph.specs.Arcs.{IsArc}
use Rattle.tests_solver.proofs.both_ways_tests.table.Given as goal

abbrev pub invariant-loop-row : goal.invariant-loop-row
invariant-loop-row l = AllByRecursion (IsArc l.nodes) l.arcs
