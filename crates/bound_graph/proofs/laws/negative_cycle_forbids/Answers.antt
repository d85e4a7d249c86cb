use Rattle.bound_graph.proofs.Cycles.{forbids}
use Rattle.bound_graph.proofs.laws.negative_cycle_forbids.Goals as goal

pub returns : goal.returns
returns c = forbids
