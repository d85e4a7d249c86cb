use Rattle.std.proofs.Common.{◌≤◌}
use Rattle.tests_solver.proofs.bound_graph_tests.in_degree.Given as goal

abbrev pub invariant-loop-i : goal.invariant-loop-i
invariant-loop-i g l = l.count ≤ l.i
