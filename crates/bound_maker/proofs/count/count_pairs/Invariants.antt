use Rattle.std.proofs.Common.{◌≡◌, ◌+◌, ◌≤◌, min, length}
use Rattle.std.specs.List.{count_by}
use Rattle.bound_maker.specs.declared.maker.TheConstants.{MOST_BOUNDS}
use Rattle.bound_maker.specs.Readings.{all_pairs}
use Rattle.bound_maker.specs.Windows.{StampsRise, is_pair_within}
use Rattle.bound_maker.proofs.Sliding.{IsReady}
use Rattle.bound_maker.proofs.count.count_pairs.Given as goal

abbrev pub invariant-loop-from : goal.invariant-loop-from
invariant-loop-from l = record {
  rise : StampsRise l.rest;
  ready : IsReady l.window l.rest l.span;
  few : l.count ≤ MOST_BOUNDS + 1;
  count : min (l.count + count_by (is_pair_within l.window) (all_pairs l.rest)) (MOST_BOUNDS + 1) ≡ min (count_by (is_pair_within l.window) (all_pairs l.readings)) (MOST_BOUNDS + 1);
}

abbrev pub decreases-loop-from : goal.decreases-loop-from
decreases-loop-from l = length l.rest
