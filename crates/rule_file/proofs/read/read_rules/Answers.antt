use Rattle.words.proofs.Answers.{accepted_if, refused_if, only_if}
use Rattle.rule_file.specs.declared.fault.RuleCause.TheVariants.{Memory}
use Rattle.rule_file.specs.Fault.{of_the_file}
use Rattle.rule_file.specs.File.{ReadsFile}
use Rattle.rule_file.proofs.NoMemory.{of_no_rule}
use Rattle.rule_file.proofs.read.read_rules.Goals as goal

pub returns-clause-accepted : goal.returns-clause-accepted
returns-clause-accepted c = accepted_if (of_the_file Memory) (ReadsFile c.args.bytes.now) _ c.file_rules.ensures

pub returns-clause-refused : goal.returns-clause-refused
returns-clause-refused c = refused_if (of_the_file Memory) (ReadsFile c.args.bytes.now) _ c.file_rules.ensures

pub returns-clause-memory : goal.returns-clause-memory
returns-clause-memory c = of_no_rule c.args.bytes.now _ c.file_rules.ensures

pub returns-clause-only : goal.returns-clause-only
returns-clause-only c =
    λ answer reads. only_if (of_the_file Memory) (ReadsFile c.args.bytes.now) (c.one_answer.ensures c.args.bytes.now) _ answer c.file_rules.ensures reads
