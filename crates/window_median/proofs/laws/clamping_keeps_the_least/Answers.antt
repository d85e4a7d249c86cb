use Rattle.window_median.proofs.Least.{clamping_keeps}
use Rattle.window_median.proofs.laws.clamping_keeps_the_least.Goals as goal

pub returns : goal.returns
returns c = clamping_keeps
