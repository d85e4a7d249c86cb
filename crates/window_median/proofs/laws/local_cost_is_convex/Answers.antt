use Rattle.window_median.proofs.Costs.{cost_convex}
use Rattle.window_median.proofs.laws.local_cost_is_convex.Goals as goal

pub returns : goal.returns
returns c = cost_convex
