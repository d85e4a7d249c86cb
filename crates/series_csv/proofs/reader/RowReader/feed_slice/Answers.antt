use Rattle.std.proofs.Common.{refl}
use Rattle.series_csv.proofs.Feeding.{fed_by, took_all}
use Rattle.series_csv.proofs.reader.RowReader.feed_slice.Goals as goal

pub returns-clause-feeds : goal.returns-clause-feeds
returns-clause-feeds c = λ rules limits before stands.
    fed_by c.one_answer.ensures c.args.self.now _ rules limits before _ c.feed_slice-taken.result.answer c.take-answer.result stands (c.feed_slice-taken.ensures.feeds rules.format.separator before stands.cuts) c.take-answer.ensures
    (record { rules_are = refl; limits_are = refl; stage_is = c.stage_after-self.ensures })

pub returns-clause-all : goal.returns-clause-all
returns-clause-all c = λ given.
    c.feed_slice-taken.ensures.all (took_all c.args.self.now.rules.now c.args.self.now.limits c.args.self.now.progress c.take-answer.new.self c.feed_slice-taken.result.answer c.take-answer.result given c.take-answer.ensures)
