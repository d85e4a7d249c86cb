use Rattle.std.proofs.Common.{refl}
use Rattle.fix_point.specs.Rates.{opposite}
use Rattle.fix_point.proofs.Rates.{ceil_of_floor, floor_of}
use Rattle.fix_point.proofs.rate.whole_steps.Goals as goal

pub returns-clause-floor : goal.returns-clause-floor
returns-clause-floor c = λ rate d dt some. floor_of rate d dt _ _ some refl refl

pub returns-clause-ceil : goal.returns-clause-ceil
returns-clause-ceil c = λ rate d dt some. ceil_of_floor rate d dt _ (floor_of (opposite rate) d dt _ _ some refl refl)
