use Rattle.cert_format.specs.Order.{set_key}
use Rattle.cert_format.proofs.Last.{follows-last}
use Rattle.cert_format.proofs.order.set_follows.Goals as goal

pub returns-in-Some : goal.returns-in-Some
returns-in-Some c =
    let last = follows-last set_key c.args.sets.now c.args.line c.in-Some.last.now c.in-Some.ensures.value in
    cc (last, c.is_before.ensures)
