use Rattle.std.proofs.Common.{◌≡◌, ◌<◌, ℕ, pos, length, get_or}
use Rattle.flow_core.specs.Layout.{nodes_of}
use Rattle.path_flow.proofs.starts.start_all.Given as goal

abbrev pub invariant-loop-node : goal.invariant-loop-node
invariant-loop-node l = record {
  size : length l.room.distances ≡ nodes_of l.net.network;
  done : (k : ℕ) → k < l.node → get_or l.room.distances k (pos 0) ≡ get_or l.net.potentials k (pos 0);
}
