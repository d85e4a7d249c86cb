use Rattle.window_median.proofs.Ranks.{has_median}
use Rattle.window_median.proofs.laws.median_exists.Goals as goal

pub returns : goal.returns
returns c = has_median
