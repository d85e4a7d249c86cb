use Rattle.series_csv.proofs.Finishing.{ends_by}
use Rattle.series_csv.proofs.reader.RowReader.finish.Goals as goal

pub returns-clause-ends : goal.returns-clause-ends
returns-clause-ends c = λ rules limits bytes stands.
    ends_by c.one_answer.ensures c.args.self.now rules limits bytes _ c.finish-cut.result c.take_last-answer.result stands (c.finish-cut.ensures.ends rules.format.separator bytes stands.cuts) c.take_last-answer.ensures
