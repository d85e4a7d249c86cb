use Rattle.screen_model.proofs.Names.{tell}
use Rattle.screen_model.proofs.laws.names_tell_bounds.Goals as goal

pub returns : goal.returns
returns c = tell
