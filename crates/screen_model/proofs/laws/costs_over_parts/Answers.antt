use Rattle.screen_model.proofs.Parts.{costs_over}
use Rattle.screen_model.proofs.laws.costs_over_parts.Goals as goal

pub returns : goal.returns
returns c = costs_over
