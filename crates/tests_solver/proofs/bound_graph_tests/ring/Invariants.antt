use Rattle.std.proofs.Common.{◌≡◌, ◌≤◌, ◌*◌, ◌^◌, length, unsigned_abs}
use Rattle.std.specs.List.{AllByRecursion}
use Rattle.screen_model.specs.Obeys.{HasEnds}
use Rattle.tests_solver.proofs.bound_graph_tests.ring.Given as goal

abbrev pub invariant-loop-i : goal.invariant-loop-i
invariant-loop-i l = record {
  ends : AllByRecursion (HasEnds l.places) l.bounds;
  limits : AllByRecursion (λ bound. unsigned_abs bound.limit ≤ 4 * 10 ^ 15) l.bounds;
  size : length l.bounds ≡ l.i;
}
