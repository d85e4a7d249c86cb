use Rattle.bound_graph.proofs.Among.{cycle}
use Rattle.bound_graph.proofs.laws.negative_cycle_among.Goals as goal

pub returns : goal.returns
returns c = cycle
