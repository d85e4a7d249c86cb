use Rattle.toml.specs.View.{table_view}
use Rattle.rule_file.proofs.AnAnswer.{no_toml, a_toml}
use Rattle.rule_file.proofs.answered.an_answer.Goals as goal

pub returns-in-Some : goal.returns-in-Some
returns-in-Some c = a_toml c.args.bytes.now (table_view c.in-Some.file.now) (rw c.in-Some.is at c.requires) c.document_answer.ensures

pub returns-in-None : goal.returns-in-None
returns-in-None c = no_toml c.args.bytes.now (rw c.in-None.is at c.requires)
