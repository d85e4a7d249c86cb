use Rattle.time_text.proofs.Only.{one_answer_only}
use Rattle.time_text.proofs.read.one_answer.Goals as goal

pub returns : goal.returns
returns c = one_answer_only c.one_answer.ensures
