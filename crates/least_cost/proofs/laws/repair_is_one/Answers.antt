use Rattle.least_cost.proofs.OneRepair.{one}
use Rattle.least_cost.proofs.laws.repair_is_one.Goals as goal

pub returns : goal.returns
returns c = one
