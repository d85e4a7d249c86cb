use Rattle.neg_cycle.proofs.OnlyOne.{greatest}
use Rattle.neg_cycle.proofs.laws.greatest_is_one.Goals as goal

pub returns : goal.returns
returns c = greatest
