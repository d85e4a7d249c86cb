use Rattle.std.proofs.Common.{◌<◌, ℕ, Option, None, Some}
use Rattle.flow_core.specs.Layout.{nodes_of}
use Rattle.flow_core.specs.State.{IsNetwork}
use Rattle.path_flow.specs.declared.search.Label.{Label}
use Rattle.path_flow.specs.Flow.{IsPushed}
use Rattle.path_flow.specs.Search.{label_at}
use Rattle.path_flow.proofs.Tracing.{IsOnPath}
use Rattle.path_flow.proofs.augment.push_along.Given as goal

abbrev pub hops_of : Option Label → ℕ
hops_of None = 0
hops_of (Some label) = label.hops

abbrev pub invariant-loop-node : goal.invariant-loop-node
invariant-loop-node l = record {
  node : l.node < nodes_of l.fn.net.network;
  pushed : IsPushed l.task l.labels.labels l.end l.node l.amount l.fn.net l.net;
  network : IsNetwork l.net;
  on : IsOnPath l.labels.labels l.end l.node l.amount;
}

abbrev pub decreases-loop-node : goal.decreases-loop-node
decreases-loop-node l = hops_of (label_at l.labels.labels l.node)
