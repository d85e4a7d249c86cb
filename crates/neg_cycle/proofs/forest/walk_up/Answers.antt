use Rattle.std.proofs.Common.{◌≢◌, sym, ◌∙◌}
use Rattle.neg_cycle.specs.declared.forest.TheConstants.{UNRANKED}
use Rattle.neg_cycle.specs.ForestWalk.{rank_at}
use Rattle.neg_cycle.proofs.ForestWalk.{parent_in, read, mark, go_on, root, met_again}
use Rattle.neg_cycle.proofs.forest.walk_up.Goals as goal

pub loop-path-preserved : goal.loop-path-preserved
loop-path-preserved c =
    let way = c.loop-path.invariant in
    let rank = read _ _ _ _ _ _ _ _ _ way c.index.ensures in
    let parent = parent_in c.args.parents.now c.loop-path.node c.in-Some.parent c.requires.tails way.on.inside c.in-Some.is in
    go_on _ _ _ _ _ _ _ _ _ (mark _ _ _ _ _ _ _ _ way (sym rank ∙ c.loop-path-test.true)) parent.0 parent.1

pub returns-in-None-clause-tells : goal.returns-in-None-clause-tells
returns-in-None-clause-tells c =
    let way = c.loop-path.invariant in
    let rank = read _ _ _ _ _ _ _ _ _ way c.index.ensures in
    root _ _ _ _ _ _ _ _ (mark _ _ _ _ _ _ _ _ way (sym rank ∙ c.loop-path-test.true)) (rw c.in-None.is)

pub returns-else-rank-done-clause-tells : goal.returns-else-rank-done-clause-tells
returns-else-rank-done-clause-tells c =
    let way = c.loop-path.invariant in
    let first = read _ _ _ _ _ _ _ _ _ way c.index.ensures in
    let rank = read _ _ _ _ _ _ _ _ _ way c.index-2.ensures in
    let some : rank_at c.loop-path.ranks.items c.loop-path.node ≢ UNRANKED = λ e. c.loop-path-test.false (first ∙ e) in
    rw rank (met_again _ _ _ _ _ _ _ _ way (rw (← rank) c.if-rank-done.false) some)
