use Rattle.flow_core.proofs.Optimality.{flow_tight}
use Rattle.flow_core.proofs.laws.flow_is_tight.Goals as goal

pub returns : goal.returns
returns c = flow_tight
