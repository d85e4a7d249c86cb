use Rattle.std.proofs.Common.{◌-◌, arith}
use Rattle.neg_cycle.proofs.ForestTurn.{one_turned}
use Rattle.neg_cycle.proofs.forest.rank_walk.Goals as goal

pub loop-node-preserved : goal.loop-node-preserved
loop-node-preserved c =
    let part = c.loop-node.invariant in (
      omega (arith, part.0),
      one_turned _ _ _ _ _ (c.loop-node.rank - 1)
          (record { small = c.requires.small; few = c.requires.few; within = c.requires.within; places = c.requires.places })
          part.1 c.loop-node-test.true (omega (arith, part.0)),
    )
