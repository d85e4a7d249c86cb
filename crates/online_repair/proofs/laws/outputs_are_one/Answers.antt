use Rattle.online_repair.proofs.Remaining.{outputs_are_one}
use Rattle.online_repair.proofs.laws.outputs_are_one.Goals as goal

pub returns : goal.returns
returns c = outputs_are_one c.one_answer.ensures
