use Rattle.online_values.proofs.Middle.{median_middle}
use Rattle.online_values.proofs.laws.median_is_middle.Goals as goal

pub returns : goal.returns
returns c = median_middle
