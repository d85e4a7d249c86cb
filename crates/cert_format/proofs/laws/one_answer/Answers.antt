use Rattle.cert_format.proofs.OneAnswer.{answer_one}
use Rattle.cert_format.proofs.laws.one_answer.Goals as goal

pub returns : goal.returns
returns c = answer_one
