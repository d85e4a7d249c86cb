use Rattle.screen_model.proofs.Items.{tell}
use Rattle.screen_model.proofs.laws.items_tell_flows.Goals as goal

pub returns : goal.returns
returns c = tell
