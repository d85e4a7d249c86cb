use Rattle.std.proofs.Common.{◌++◌, take, arith}
use Rattle.record_cut.proofs.Pieces.{feeds-byte}
use Rattle.record_cut.proofs.cutter.Cutter.feed_run.Goals as goal

pub returns-clause-feeds : goal.returns-clause-feeds
returns-clause-feeds c = λ sep before stands.
    let first = c.in-Ok.ensures.goes_on sep before stands in
    feeds-byte c.args.self.now c.take_run.new.self c.feed_after.new.self sep before c.args.bytes.now c.in-Ok.run' c.feed_after.result (omega (arith, c.in-Ok.ensures.within)) stands first (c.feed_after.ensures.feeds sep (before ++ take c.in-Ok.run' c.args.bytes.now) first.stands)
