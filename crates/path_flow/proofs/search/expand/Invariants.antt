use Rattle.std.proofs.Common.{◌≡◌, drop, length}
use Rattle.bound_graph.specs.Graph.{leaving}
use Rattle.bound_graph.specs.Reverses.{with_reverses}
use Rattle.flow_core.specs.Layout.{arcs_of}
use Rattle.path_flow.specs.Searching.{IsLast, IsSearching, open_nodes}
use Rattle.path_flow.proofs.Stepping.{IsAmong}
use Rattle.path_flow.proofs.search.expand.Given as goal

abbrev pub invariant-loop-number : goal.invariant-loop-number
invariant-loop-number l = record {
  searching : IsSearching l.net l.task (IsAmong (drop l.number-index (leaving (with_reverses (arcs_of l.net.network)) l.node))) l.labels;
  is_last : IsLast l.task l.labels l.node l.last;
  same : length l.labels.keys ≡ length l.labels.labels;
  counted : open_nodes l.labels.labels l.labels.keys ≡ open_nodes l.fn.labels.labels l.fn.labels.keys;
}
