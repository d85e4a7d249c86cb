use Rattle.neg_cycle.proofs.Transposing.{least}
use Rattle.neg_cycle.proofs.laws.least_by_transposing.Goals as goal

pub returns : goal.returns
returns c = least
