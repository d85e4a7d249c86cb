use Rattle.std.proofs.Common.{◌≡◌, take}
use Rattle.global_repair.specs.Lists.{prices_of}
use Rattle.global_repair.proofs.lists.prices.Given as goal

abbrev pub invariant-loop-bound : goal.invariant-loop-bound
invariant-loop-bound l = record {
  bounds : l.bound-items ≡ l.bounds;
  prices : l.list.items ≡ prices_of l.rules (take l.bound-index l.bound-items);
}
