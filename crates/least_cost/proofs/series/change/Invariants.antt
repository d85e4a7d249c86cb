use Rattle.std.proofs.Common.{◌≡◌, ◌*◌, ◌^◌, ◌≤◌, pos, take}
use Rattle.std.specs.Prelude.{unsigned_abs}
use Rattle.screen_model.specs.Cost.{weighted_change}
use Rattle.least_cost.proofs.series.change.Given as goal

abbrev pub invariant-loop-place : goal.invariant-loop-place
invariant-loop-place l = record {
  change : l.change ≡ pos (weighted_change (take l.place l.weights) (take l.place l.values) (take l.place l.series));
  size : unsigned_abs l.change ≤ l.place * 2 ^ 96;
}
