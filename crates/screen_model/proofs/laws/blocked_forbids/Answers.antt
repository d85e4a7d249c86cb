use Rattle.screen_model.proofs.Cycles.{forbids}
use Rattle.screen_model.proofs.laws.blocked_forbids.Goals as goal

pub returns : goal.returns
returns c = forbids
