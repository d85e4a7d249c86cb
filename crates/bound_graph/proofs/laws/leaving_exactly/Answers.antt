use Rattle.bound_graph.proofs.Leaving.{exactly}
use Rattle.bound_graph.proofs.laws.leaving_exactly.Goals as goal

pub returns : goal.returns
returns c = exactly
