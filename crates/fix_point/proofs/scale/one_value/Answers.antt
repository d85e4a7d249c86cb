use Rattle.fix_point.proofs.Reading.{one_reading}
use Rattle.fix_point.proofs.scale.one_value.Goals as goal

pub returns : goal.returns
returns c = one_reading
