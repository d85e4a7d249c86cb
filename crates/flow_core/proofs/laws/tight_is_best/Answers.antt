use Rattle.flow_core.proofs.Optimality.{tight_is_best}
use Rattle.flow_core.proofs.laws.tight_is_best.Goals as goal

pub returns : goal.returns
returns c = tight_is_best
