use Rattle.std.proofs.Common.{◌≡◌, ◌≤◌, ◌+◌, ◌*◌, take, sum, length}
use Rattle.words.specs.Lists.{total}
use Rattle.flow_core.specs.State.{IsNetwork}
use Rattle.path_flow.specs.Flow.{excess_units}
use Rattle.path_flow.specs.Saturation.{IsSaturated}
use Rattle.path_flow.proofs.saturate.saturate_readings.Given as goal

abbrev pub invariant-loop-reading : goal.invariant-loop-reading
invariant-loop-reading l = record {
  network : IsNetwork l.net;
  saturated : IsSaturated (length l.fn.net.network.bounds + 2 * l.reading) l.fn.net l.net;
  units : excess_units l.net ≤ excess_units l.fn.net + sum (take l.reading l.fn.net.network.weights);
  whole : total l.net.excesses ≡ total l.fn.net.excesses;
  changes : l.net.changes ≤ l.fn.net.changes + l.reading;
}
