use Rattle.rule_file.proofs.each.read_rule.Goals as goal

pub returns-in-Err-clause-refused : goal.returns-in-Err-clause-refused
returns-in-Err-clause-refused c = λ other. (c.in-Err.cause, c.in-Err.ensures.refused, c.of_rule.ensures)
