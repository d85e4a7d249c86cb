use Rattle.std.proofs.Common.{◌≡◌, ◌+◌, ◌*◌, ◌-◌, ◌≤◌, min, length}
use Rattle.rule_file.specs.Numbers.{rules_in_order}
use Rattle.bound_maker.specs.Bounds.{made_bounds}
use Rattle.bound_maker.proofs.Making.{rest_bounds}
use Rattle.bound_maker.proofs.maker.count_bounds.Given as goal

abbrev pub invariant-loop-ruled : goal.invariant-loop-ruled
invariant-loop-ruled l = record {
  done : l.done ≤ length (rules_in_order l.rules);
  place : l.place ≤ 2 * l.done;
  few : l.count ≤ 4000001;
  count : min (l.count + length (rest_bounds l.rules l.table l.done l.place)) 4000001 ≡ min (length (made_bounds l.rules l.table)) 4000001;
}

abbrev pub decreases-loop-ruled : goal.decreases-loop-ruled
decreases-loop-ruled l = length (rules_in_order l.rules) - l.done
