use Rattle.screen_model.proofs.Prices.{by_bound}
use Rattle.screen_model.proofs.laws.prices_by_bound.Goals as goal

pub returns : goal.returns
returns c = by_bound
