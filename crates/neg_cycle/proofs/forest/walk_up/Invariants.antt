use Rattle.std.proofs.Common.{◌-◌, length}
use Rattle.neg_cycle.proofs.ForestWalk.{IsUnderWay}
use Rattle.neg_cycle.proofs.forest.walk_up.Given as goal

abbrev pub invariant-loop-path : goal.invariant-loop-path
invariant-loop-path l = IsUnderWay l.parents l.done l.first l.initial.ranks.items l.ranks.items l.path.items l.count l.node

abbrev pub decreases-loop-path : goal.decreases-loop-path
decreases-loop-path l = length l.parents - l.count
