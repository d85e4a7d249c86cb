use Rattle.flow_core.proofs.Totals.{everywhere}
use Rattle.flow_core.proofs.laws.balanced_everywhere.Goals as goal

pub returns : goal.returns
returns c = everywhere
