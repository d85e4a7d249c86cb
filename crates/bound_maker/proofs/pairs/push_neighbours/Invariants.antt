use Rattle.std.proofs.Common.{◌≡◌, ◌++◌, length}
use Rattle.rule_file.specs.Numbers.{seen_rule}
use Rattle.bound_maker.specs.Bounds.{bounds_of_pairs}
use Rattle.bound_maker.specs.Pairs.{pair_bound}
use Rattle.bound_maker.specs.Readings.{neighbours}
use Rattle.bound_maker.proofs.pairs.push_neighbours.Given as goal

abbrev pub invariant-loop-from : goal.invariant-loop-from
invariant-loop-from l = record {
  steps : l.steps ≡ l.fn.steps;
  bounds : l.fn.bounds ++ bounds_of_pairs (pair_bound l.scope.number (seen_rule l.rule) l.scope.decimals l.scope.col) (neighbours l.readings)
      ≡ l.bounds ++ bounds_of_pairs (pair_bound l.scope.number (seen_rule l.rule) l.scope.decimals l.scope.col) (neighbours l.rest);
}

abbrev pub decreases-loop-from : goal.decreases-loop-from
decreases-loop-from l = length l.rest
