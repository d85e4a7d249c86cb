use Rattle.words.proofs.Answers.{accepted_if, refused_if, only_if}
use Rattle.series_rows.specs.Faults.{of_memory}
use Rattle.series_rows.specs.ReadsRow.{ReadsRow}
use Rattle.series_rows.proofs.later_record.read_row.Goals as goal

pub returns-clause-accepted : goal.returns-clause-accepted
returns-clause-accepted c = accepted_if of_memory (ReadsRow c.args.rules.now c.args.header.now c.args.limits c.args.before c.args.fields) _ c.row_of.ensures

pub returns-clause-refused : goal.returns-clause-refused
returns-clause-refused c = refused_if of_memory (ReadsRow c.args.rules.now c.args.header.now c.args.limits c.args.before c.args.fields) _ c.row_of.ensures

pub returns-clause-only : goal.returns-clause-only
returns-clause-only c = λ answer reads.
    only_if of_memory (ReadsRow c.args.rules.now c.args.header.now c.args.limits c.args.before c.args.fields) (c.one_row.ensures c.args.rules.now c.args.header.now c.args.limits c.args.before c.args.fields) _ answer c.row_of.ensures reads
