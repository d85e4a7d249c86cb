use Rattle.rule_file.proofs.OneFile.{file_one}
use Rattle.rule_file.proofs.read.one_answer.Goals as goal

pub returns : goal.returns
returns c = file_one c.one_answer.ensures
