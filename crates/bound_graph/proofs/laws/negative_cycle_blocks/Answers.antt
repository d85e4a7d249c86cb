use Rattle.bound_graph.proofs.Cycles.{blocks}
use Rattle.bound_graph.proofs.laws.negative_cycle_blocks.Goals as goal

pub returns : goal.returns
returns c = blocks
