use Rattle.window_median.proofs.Ranks.{only_median}
use Rattle.window_median.proofs.laws.one_median.Goals as goal

pub returns : goal.returns
returns c = only_median
