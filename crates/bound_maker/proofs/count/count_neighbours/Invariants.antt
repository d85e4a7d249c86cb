use Rattle.std.proofs.Common.{◌≡◌, ◌+◌, ◌≤◌, length}
use Rattle.std.specs.List.{count_by}
use Rattle.bound_maker.specs.Readings.{neighbours}
use Rattle.bound_maker.specs.Windows.{is_pair_within}
use Rattle.bound_maker.proofs.count.count_neighbours.Given as goal

abbrev pub invariant-loop-from : goal.invariant-loop-from
invariant-loop-from l = record {
  few : l.count + length l.rest ≤ length l.readings;
  count : l.count + count_by (is_pair_within l.window) (neighbours l.rest) ≡ count_by (is_pair_within l.window) (neighbours l.readings);
}

abbrev pub decreases-loop-from : goal.decreases-loop-from
decreases-loop-from l = length l.rest
