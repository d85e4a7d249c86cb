use Rattle.window_median.proofs.Costs.{median_least}
use Rattle.window_median.proofs.laws.median_costs_least.Goals as goal

pub returns : goal.returns
returns c = median_least
