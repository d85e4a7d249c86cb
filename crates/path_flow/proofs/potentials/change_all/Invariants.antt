use Rattle.flow_core.specs.State.{IsNetwork}
use Rattle.path_flow.specs.Steps.{ChangesPotentials}
use Rattle.path_flow.proofs.Moving.{IsMovedBelow}
use Rattle.path_flow.proofs.potentials.change_all.Given as goal

abbrev pub invariant-loop-node : goal.invariant-loop-node
invariant-loop-node l = record {
  network : IsNetwork l.net;
  stays : ChangesPotentials l.fn.net l.net;
  moved : IsMovedBelow l.direction l.labels.labels l.far l.node l.fn.net.potentials l.net.potentials;
}
