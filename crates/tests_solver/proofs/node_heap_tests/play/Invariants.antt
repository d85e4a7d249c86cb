use Rattle.std.proofs.Common.{◌≡◌, length}
use Rattle.tests_solver.proofs.node_heap_tests.play.Given as goal

abbrev pub invariant-loop : goal.invariant-loop
invariant-loop g l = record { same : l.heap ≡ l.table.items; size : length l.table.items ≡ l.nodes }

abbrev pub invariant-loop-2 : goal.invariant-loop-2
invariant-loop-2 g l = l.heap ≡ l.table.items
