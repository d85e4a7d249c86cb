use Rattle.std.proofs.Common.{length}
use Rattle.std.specs.List.{AllByRecursion}
use Rattle.screen_model.specs.Obeys.{HasEnds}
use Rattle.tests_solver.proofs.bound_graph_tests.ranges.Given as goal

abbrev pub invariant-loop-place : goal.invariant-loop-place
invariant-loop-place l = AllByRecursion (HasEnds l.fn.places) l.bounds
