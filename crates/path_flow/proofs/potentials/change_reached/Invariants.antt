use Rattle.flow_core.specs.State.{IsNetwork}
use Rattle.path_flow.specs.Steps.{ChangesPotentials}
use Rattle.path_flow.proofs.Moving.{IsPartly}
use Rattle.path_flow.proofs.potentials.change_reached.Given as goal

abbrev pub invariant-loop-node : goal.invariant-loop-node
invariant-loop-node l = record {
  network : IsNetwork l.net;
  stays : ChangesPotentials l.fn.net l.net;
  partly : IsPartly l.direction l.labels.labels l.fn.far l.labels.reached l.node-index l.fn.net.potentials l.net.potentials;
}
