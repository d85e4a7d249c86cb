use Rattle.std.proofs.Common.{◌≡◌, length}
use Rattle.path_flow.proofs.Reaching.{AreLeft}
use Rattle.path_flow.proofs.search.take_labels.Given as goal

abbrev pub invariant-loop-node : goal.invariant-loop-node
invariant-loop-node l = record {
  size : length l.labels.items ≡ length l.fn.labels.items;
  left : AreLeft l.labels.items l.reached l.node-index;
}
