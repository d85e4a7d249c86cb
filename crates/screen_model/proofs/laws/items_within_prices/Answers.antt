use Rattle.screen_model.proofs.Carried.{within}
use Rattle.screen_model.proofs.laws.items_within_prices.Goals as goal

pub returns : goal.returns
returns c = within
