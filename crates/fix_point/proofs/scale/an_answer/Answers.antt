use Rattle.fix_point.proofs.Decided.{an_answer}
use Rattle.fix_point.proofs.scale.an_answer.Goals as goal

pub returns : goal.returns
returns c = an_answer
