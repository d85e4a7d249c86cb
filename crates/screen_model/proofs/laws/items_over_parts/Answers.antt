use Rattle.screen_model.proofs.Items.{over_parts}
use Rattle.screen_model.proofs.laws.items_over_parts.Goals as goal

pub returns : goal.returns
returns c = over_parts
