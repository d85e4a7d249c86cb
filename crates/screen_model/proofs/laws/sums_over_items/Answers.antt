use Rattle.screen_model.proofs.Items.{sums}
use Rattle.screen_model.proofs.laws.sums_over_items.Goals as goal

pub returns : goal.returns
returns c = sums
