use Rattle.screen_model.proofs.Parts.{cycles_over}
use Rattle.screen_model.proofs.laws.cycles_over_parts.Goals as goal

pub returns : goal.returns
returns c = cycles_over
