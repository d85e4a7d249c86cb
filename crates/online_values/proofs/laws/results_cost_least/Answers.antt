use Rattle.online_values.proofs.Least.{costs_least}
use Rattle.online_values.proofs.laws.results_cost_least.Goals as goal

pub returns : goal.returns
returns c = costs_least
