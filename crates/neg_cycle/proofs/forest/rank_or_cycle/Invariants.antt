use Rattle.neg_cycle.proofs.ForestRanking.{AreDone}
use Rattle.neg_cycle.proofs.forest.rank_or_cycle.Given as goal

abbrev pub invariant-loop-node : goal.invariant-loop-node
invariant-loop-node l = AreDone l.parents l.done l.node l.ranks.items l.path.items
