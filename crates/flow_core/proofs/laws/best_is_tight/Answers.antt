use Rattle.flow_core.proofs.Least.{best_is_tight}
use Rattle.flow_core.proofs.laws.best_is_tight.Goals as goal

pub returns : goal.returns
returns c = best_is_tight
