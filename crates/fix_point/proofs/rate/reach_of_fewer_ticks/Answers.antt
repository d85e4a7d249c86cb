use Rattle.fix_point.proofs.Rates.{reach_of_fewer}
use Rattle.fix_point.proofs.rate.reach_of_fewer_ticks.Goals as goal

pub returns : goal.returns
returns c = reach_of_fewer
