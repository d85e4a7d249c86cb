use Rattle.bound_maker.proofs.Parts.{are_a_part}
use Rattle.bound_maker.proofs.laws.made_is_a_part.Goals as goal

pub returns : goal.returns
returns c = are_a_part
