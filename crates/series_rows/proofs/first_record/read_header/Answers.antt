use Rattle.words.proofs.Answers.{accepted_if, refused_if, only_if}
use Rattle.series_rows.specs.Faults.{of_memory}
use Rattle.series_rows.specs.Header.{ReadsHeader}
use Rattle.series_rows.proofs.first_record.read_header.Goals as goal

pub returns-clause-accepted : goal.returns-clause-accepted
returns-clause-accepted c = accepted_if of_memory (ReadsHeader c.args.rules.now c.args.fields) _ c.header_of.ensures

pub returns-clause-refused : goal.returns-clause-refused
returns-clause-refused c = refused_if of_memory (ReadsHeader c.args.rules.now c.args.fields) _ c.header_of.ensures

pub returns-clause-only : goal.returns-clause-only
returns-clause-only c = λ answer reads. only_if of_memory (ReadsHeader c.args.rules.now c.args.fields) (c.one_header.ensures c.args.rules.now c.args.fields) _ answer c.header_of.ensures reads
