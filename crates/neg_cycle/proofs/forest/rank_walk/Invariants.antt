use Rattle.std.proofs.Common.{◌≡◌, ◌+◌, length}
use Rattle.neg_cycle.proofs.ForestTurn.{IsTurned}
use Rattle.neg_cycle.proofs.forest.rank_walk.Given as goal

abbrev pub invariant-loop-node : goal.invariant-loop-node
invariant-loop-node l = (l.rank + l.node-index ≡ l.done + length l.walk) × IsTurned l.done l.node-index l.walk l.initial.ranks.items l.ranks.items
