use Rattle.screen_model.proofs.Prices.{keep}
use Rattle.screen_model.proofs.laws.prices_keep_bounds.Goals as goal

pub returns : goal.returns
returns c = keep
