use Rattle.cert_format.proofs.Decided.{an_answer}
use Rattle.cert_format.proofs.laws.an_answer.Goals as goal

pub returns : goal.returns
returns c = an_answer
