use Rattle.flow_core.proofs.Duals.{pulled}
use Rattle.flow_core.proofs.laws.pull_is_balance.Goals as goal

pub returns : goal.returns
returns c = pulled
