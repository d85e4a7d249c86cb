use Rattle.flow_core.proofs.Duals.{admissible}
use Rattle.flow_core.proofs.laws.balanced_is_admissible.Goals as goal

pub returns : goal.returns
returns c = admissible
