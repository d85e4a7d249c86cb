use Rattle.neg_cycle.proofs.OnlyOne.{least}
use Rattle.neg_cycle.proofs.laws.least_is_one.Goals as goal

pub returns : goal.returns
returns c = least
