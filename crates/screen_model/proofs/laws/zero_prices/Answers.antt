use Rattle.screen_model.proofs.Prices.{zeroes}
use Rattle.screen_model.proofs.laws.zero_prices.Goals as goal

pub returns : goal.returns
returns c = zeroes
