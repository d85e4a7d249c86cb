use Rattle.time_text.proofs.Decided.{an_answer}
use Rattle.time_text.proofs.read.an_answer.Goals as goal

pub returns : goal.returns
returns c = an_answer c.an_answer.ensures
