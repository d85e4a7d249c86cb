use Rattle.screen_model.proofs.Parts.{best_over}
use Rattle.screen_model.proofs.laws.best_over_parts.Goals as goal

pub returns : goal.returns
returns c = best_over
