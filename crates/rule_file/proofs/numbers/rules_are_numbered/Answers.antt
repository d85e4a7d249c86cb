use Rattle.rule_file.proofs.Numbered.{are_numbered}
use Rattle.rule_file.proofs.numbers.rules_are_numbered.Goals as goal

pub returns : goal.returns
returns c = are_numbered
