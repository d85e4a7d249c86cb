use Rattle.fix_point.proofs.Rates.{ceil_of_floor, floor_of_ceil}
use Rattle.fix_point.proofs.rate.least_is_greatest_turned.Goals as goal

pub returns : goal.returns
returns c = λ rate d dt step. (floor_of_ceil rate d dt step, ceil_of_floor rate d dt step)
