use Rattle.std.proofs.Common.{arith}
use Rattle.bound_graph.proofs.Reverses.{length-with_reverses}
use Rattle.bound_graph.proofs.numbered.NumberedArcs.both_ways.Goals as goal

pub invariant_of-result : goal.invariant_of-result
invariant_of-result c =
    rw c.into_vec.ensures (record { costs = c.requires.costs; few = omega (arith, c.requires.few, length-with_reverses c.args.table) })
