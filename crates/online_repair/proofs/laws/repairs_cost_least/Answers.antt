use Rattle.online_repair.proofs.Lawful.{cost_least}
use Rattle.online_repair.proofs.laws.repairs_cost_least.Goals as goal

pub returns : goal.returns
returns c = cost_least c.results_cost_least.ensures
