use Rattle.screen_model.proofs.Duality.{weak}
use Rattle.screen_model.proofs.laws.weak_duality.Goals as goal

pub returns : goal.returns
returns c = weak
