use Rattle.flow_core.proofs.Blocked.{blocked}
use Rattle.flow_core.proofs.laws.negative_cycle_is_blocked.Goals as goal

pub returns : goal.returns
returns c = blocked
