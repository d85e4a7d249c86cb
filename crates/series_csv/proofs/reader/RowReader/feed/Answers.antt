use Rattle.std.proofs.Common.{refl}
use Rattle.series_csv.proofs.Feeding.{fed_by, refused_stands}
use Rattle.series_csv.proofs.reader.RowReader.feed.Goals as goal

pub returns-in-Refused-clause-feeds : goal.returns-in-Refused-clause-feeds
returns-in-Refused-clause-feeds c = λ rules limits before stands. refused_stands c.args.self.now rules limits before c.in-Refused.fault c.in-Refused.is stands

pub returns-clause-feeds : goal.returns-clause-feeds
returns-clause-feeds c = λ rules limits before stands.
    fed_by c.one_answer.ensures c.args.self.now _ rules limits before _ c.feed-cut.result c.take-answer.result stands (c.feed-cut.ensures.feeds rules.format.separator before stands.cuts) c.take-answer.ensures
    (record { rules_are = refl; limits_are = refl; stage_is = c.stage_after-self.ensures })
