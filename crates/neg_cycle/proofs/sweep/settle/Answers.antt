use Rattle.bound_graph.proofs.Cycles.{forbids}
use Rattle.neg_cycle.proofs.sweep.settle.Goals as goal

pub returns-in-Some-clause-none : goal.returns-in-Some-clause-none
returns-in-Some-clause-none g c =
    λ is distances obeys. forbids (g.A.ArcList.listed c.args.arcs.now) _ distances c.in-Some.ensures.answer.negative obeys
