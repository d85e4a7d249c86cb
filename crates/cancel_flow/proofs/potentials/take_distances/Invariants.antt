use Rattle.flow_core.specs.State.{IsNetwork}
use Rattle.cancel_flow.specs.Cycles.{ChangesPotentials}
use Rattle.cancel_flow.proofs.Taking.{AreRelative}
use Rattle.cancel_flow.proofs.potentials.take_distances.Given as goal

abbrev pub invariant-loop-node : goal.invariant-loop-node
invariant-loop-node l = record {
  network : IsNetwork l.net;
  stays : ChangesPotentials l.fn.net l.net;
  done : AreRelative l.room.distances l.net.potentials l.node;
}
