use Rattle.screen_model.proofs.Parts.{flows_over}
use Rattle.screen_model.proofs.laws.flows_over_parts.Goals as goal

pub returns : goal.returns
returns c = flows_over
