use Rattle.screen_model.proofs.Names.{over_parts}
use Rattle.screen_model.proofs.laws.names_over_parts.Goals as goal

pub returns : goal.returns
returns c = over_parts
