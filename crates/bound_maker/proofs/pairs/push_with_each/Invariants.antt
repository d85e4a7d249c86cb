use Rattle.std.proofs.Common.{◌≡◌, ◌++◌, take}
use Rattle.std.specs.List.{flat_map}
use Rattle.rule_file.specs.Numbers.{seen_rule}
use Rattle.bound_maker.specs.declared.reading.Reading.{Reading}
use Rattle.bound_maker.specs.Bounds.{both_sides}
use Rattle.bound_maker.specs.Pairs.{pair_bound}
use Rattle.bound_maker.proofs.pairs.push_with_each.Given as goal

abbrev pub invariant-loop-to : goal.invariant-loop-to
invariant-loop-to l = record {
  steps : l.steps ≡ l.fn.steps;
  bounds : l.bounds ≡ l.fn.bounds ++ flat_map (λ (to : Reading). both_sides (pair_bound l.scope.number (seen_rule l.rule) l.scope.decimals l.scope.col l.from to.stamp)) (take l.to-index l.others);
}
