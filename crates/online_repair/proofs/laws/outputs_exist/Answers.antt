use Rattle.online_repair.proofs.Remaining.{outputs_exist}
use Rattle.online_repair.proofs.laws.outputs_exist.Goals as goal

pub returns : goal.returns
returns c = outputs_exist c.files_have_answers.ensures
