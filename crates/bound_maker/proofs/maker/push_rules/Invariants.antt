use Rattle.std.proofs.Common.{◌≡◌, ◌*◌, ◌-◌, ◌≤◌, ◌++◌, length}
use Rattle.rule_file.specs.Numbers.{rules_in_order}
use Rattle.bound_maker.proofs.Making.{rest_bounds}
use Rattle.bound_maker.proofs.maker.push_rules.Given as goal

abbrev pub invariant-loop-ruled : goal.invariant-loop-ruled
invariant-loop-ruled l = record {
  done : l.done ≤ length (rules_in_order l.rules);
  place : l.place ≤ 2 * l.done;
  bounds : l.fn.bounds ++ rest_bounds l.rules l.table 0 0 ≡ l.bounds ++ rest_bounds l.rules l.table l.done l.place;
}

abbrev pub decreases-loop-ruled : goal.decreases-loop-ruled
decreases-loop-ruled l = length (rules_in_order l.rules) - l.done
