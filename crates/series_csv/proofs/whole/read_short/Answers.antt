use Rattle.series_csv.proofs.WholeTables.{left_some}
use Rattle.series_csv.proofs.whole.read_short.Goals as goal

pub loop-rest-preserved : goal.loop-rest-preserved
loop-rest-preserved c =
    let left = c.loop-rest.invariant in
    rw c.split_at.ensures.back
    (left_some c.loop-rest.reading c.feed.new.self c.args.rules.now c.args.bytes.now c.loop-rest.rest.now c.in_ok-count.count left (c.in_ok-count.ensures.fed c.args.rules.now left.front left.reads))
