use Rattle.fix_point.proofs.Rates.{one_floor, one_ceil}
use Rattle.fix_point.proofs.rate.one_step.Goals as goal

pub returns-clause-floor : goal.returns-clause-floor
returns-clause-floor c = one_floor

pub returns-clause-ceil : goal.returns-clause-ceil
returns-clause-ceil c = one_ceil
