use Rattle.flow_core.proofs.Optimality.{solved}
use Rattle.flow_core.proofs.laws.solved_is_best.Goals as goal

pub returns : goal.returns
returns c = solved
