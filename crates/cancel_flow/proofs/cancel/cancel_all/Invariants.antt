use Rattle.std.proofs.Common.{◌≡◌, ◌^◌, pos, ◌-ℤ◌, length, unsigned_abs}
use Rattle.flow_core.specs.State.{IsNetwork, value}
use Rattle.cancel_flow.specs.Cycles.{IsBalanced}
use Rattle.cancel_flow.proofs.cancel.cancel_all.Given as goal

abbrev pub invariant-cycles : goal.invariant-cycles
invariant-cycles l = record {
  network_stays : l.net.network ≡ l.fn.net.network;
  network : IsNetwork l.net;
  balanced : IsBalanced l.net;
  size : length l.room.distances ≡ length l.fn.room.distances;
}

abbrev pub decreases-cycles : goal.decreases-cycles
decreases-cycles l = unsigned_abs (pos (10 ^ 32) -ℤ value l.net)
