use Rattle.rule_keys.proofs.OneTable.{table_one}
use Rattle.rule_keys.proofs.read.one_answer.Goals as goal

pub returns : goal.returns
returns c = table_one c.one_answer.ensures c.one_answer-2.ensures
