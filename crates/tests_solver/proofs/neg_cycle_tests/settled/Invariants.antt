use Rattle.std.proofs.Common.{◌≡◌, ◌≤◌, ◌*◌, ◌^◌, length, unsigned_abs}
use Rattle.std.specs.List.{All}
use Rattle.tests_solver.proofs.neg_cycle_tests.settled.Given as goal

abbrev pub invariant-loop-node : goal.invariant-loop-node
invariant-loop-node g l = record {
  nodes : length l.room.distances ≡ l.nodes;
  small : All (λ start. unsigned_abs start ≤ 4 * 10 ^ 15) l.room.distances;
}
