use Rattle.std.proofs.Common.{ℕ, List, length, take, subst, arith}
use Rattle.neg_cycle.proofs.ForestTurn.{IsTurned}
use Rattle.neg_cycle.proofs.ForestRanking.{next_done, ranking}
use Rattle.neg_cycle.proofs.forest.rank_or_cycle.Goals as goal

pub loop-node-preserved : goal.loop-node-preserved
loop-node-preserved c =
    let at : IsTurned c.loop-node.done (length (take c.in-Ended.count c.deref.result.now)) (take c.in-Ended.count c.deref.result.now)
    c.walk_up.new.ranks.items c.rank_walk.new.ranks.items
    = record {
      nodes = c.rank_walk.ensures.nodes;
      falls = c.rank_walk.ensures.turned;
      below = c.rank_walk.ensures.below;
      above = c.rank_walk.ensures.above;
      count = c.rank_walk.ensures.count;
    }
    in
    let turned = subst (λ (path : List ℕ). IsTurned c.loop-node.done (length (take c.in-Ended.count path)) (take c.in-Ended.count path)
    c.walk_up.new.ranks.items c.rank_walk.new.ranks.items) c.deref.ensures.value at
    in
    next_done _ _ _ _ _ _ _ _ _ c.requires.few c.loop-node.invariant (omega arith)
    c.in-Ended.ensures.stay c.in-Ended.ensures.first c.in-Ended.ensures.tells c.in-Ended.ensures.path turned

pub returns-clause-answer : goal.returns-clause-answer
returns-clause-answer c = ranking c.args.parents.now c.loop-node.done c.loop-node.ranks.items c.loop-node.invariant.walked (λ node inside. c.loop-node.invariant.below node (omega arith))
