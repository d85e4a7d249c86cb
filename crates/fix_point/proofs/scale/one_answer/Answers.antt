use Rattle.fix_point.proofs.Only.{one_answer_only}
use Rattle.fix_point.proofs.scale.one_answer.Goals as goal

pub returns : goal.returns
returns c = one_answer_only
