use Rattle.screen_model.proofs.Duality.{least}
use Rattle.screen_model.proofs.laws.best_costs_least.Goals as goal

pub returns : goal.returns
returns c = least
