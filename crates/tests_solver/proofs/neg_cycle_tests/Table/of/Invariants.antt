use Rattle.std.proofs.Common.{◌≡◌, length}
use Rattle.std.specs.List.{All}
use Rattle.std.specs.Option.{IfSome}
use Rattle.bound_graph.specs.Arcs.{IsArc}
use Rattle.tests_solver.proofs.neg_cycle_tests.Table.of.Given as goal

abbrev pub invariant-loop-row : goal.invariant-loop-row
invariant-loop-row l = record {
  count : length l.arcs.items ≡ l.row-index;
  valid : All (λ arc. IfSome arc (IsArc l.nodes)) l.arcs.items;
}
