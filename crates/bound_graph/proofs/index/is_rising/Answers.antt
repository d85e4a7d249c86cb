use Rattle.std.proofs.Common.{arith}
use Rattle.bound_graph.proofs.Rows.{rising_more}
use Rattle.bound_graph.proofs.index.is_rising.Goals as goal

pub loop-i-preserved : goal.loop-i-preserved
loop-i-preserved c =
    let before = c.comes_before.ensures in
    let is = c.if-not-comes_before.false in
    rising_more c.args.places.now c.loop-i.i (omega arith) c.loop-i.invariant (before.rows is) (before.cols is)
