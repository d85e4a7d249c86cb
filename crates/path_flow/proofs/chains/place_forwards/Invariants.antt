use Rattle.std.proofs.Common.{◌<◌, ◌-◌}
use Rattle.flow_core.specs.Layout.{nodes_of}
use Rattle.path_flow.specs.Steps.{ChangesPotentials}
use Rattle.path_flow.proofs.chains.place_forwards.Given as goal

abbrev pub invariant-loop-next : goal.invariant-loop-next
invariant-loop-next l = record {
  reading : 0 < l.node;
  node : l.node < nodes_of l.fn.net.network;
  stays : ChangesPotentials l.fn.net l.net;
}

abbrev pub decreases-loop-next : goal.decreases-loop-next
decreases-loop-next l = nodes_of l.fn.net.network - l.node
