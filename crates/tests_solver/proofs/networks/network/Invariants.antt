use Rattle.std.proofs.Common.{◌+◌, ◌*◌, ◌≤◌, length}
use Rattle.path_flow.proofs.Examples.{AreReadings}
use Rattle.tests_solver.proofs.networks.network.Given as goal

abbrev pub invariant-loop-i : goal.invariant-loop-i
invariant-loop-i l = record { are : AreReadings l.i l.places l.series l.kept l.bounds l.prices; few : length l.bounds ≤ 2 * l.i }

abbrev pub invariant-loop-line : goal.invariant-loop-line
invariant-loop-line l = record {
  are : AreReadings l.count l.places-inside.elements.items l.series-inside.elements.items l.kept-inside.elements.items l.bounds l.prices;
  few : length l.bounds ≤ 4000 + l.line-index;
}
