use Rattle.std.proofs.Common.{◌≡◌, ◌+◌, ◌*◌, ◌^◌, ◌≤◌, pos, ◌-ℤ◌, take}
use Rattle.std.specs.Prelude.{sum_by, unsigned_abs}
use Rattle.window_median.specs.LocalCost.{excess}
use Rattle.window_median.proofs.cost.local_cost.Given as goal

abbrev pub invariant-loop-successor : goal.invariant-loop-successor
invariant-loop-successor l = record {
  cost : l.cost ≡ pos (unsigned_abs (l.v -ℤ l.own) + sum_by (excess l.v) (take l.successor-index l.near));
  small : unsigned_abs (l.v -ℤ l.own) + sum_by (excess l.v) (take l.successor-index l.near) ≤ 2 ^ 64 + l.successor-index * 2 ^ 65;
}
