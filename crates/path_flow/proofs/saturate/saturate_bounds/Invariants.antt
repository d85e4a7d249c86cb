use Rattle.std.proofs.Common.{◌≡◌, ◌≤◌, take, sum, count_by, not, eqb}
use Rattle.words.specs.Lists.{total}
use Rattle.flow_core.specs.State.{IsNetwork}
use Rattle.path_flow.specs.Flow.{excess_units}
use Rattle.path_flow.specs.Saturation.{IsSaturated}
use Rattle.path_flow.proofs.saturate.saturate_bounds.Given as goal

abbrev pub invariant-loop-bound : goal.invariant-loop-bound
invariant-loop-bound l = record {
  network : IsNetwork l.net;
  saturated : IsSaturated l.bound l.fn.net l.net;
  units : excess_units l.net ≤ sum (take l.bound l.fn.net.network.prices);
  whole : total l.net.excesses ≡ total l.fn.net.excesses;
  changes : l.net.changes ≤ count_by (λ price. not (eqb price 0)) (take l.bound l.fn.net.network.prices);
}
