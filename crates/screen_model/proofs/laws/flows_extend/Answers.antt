use Rattle.screen_model.proofs.Parts.{can_extend}
use Rattle.screen_model.proofs.laws.flows_extend.Goals as goal

pub returns : goal.returns
returns c = can_extend
