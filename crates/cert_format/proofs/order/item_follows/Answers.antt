use Rattle.screen_model.specs.Order.{item_key}
use Rattle.cert_format.proofs.Last.{follows-last}
use Rattle.cert_format.proofs.order.item_follows.Goals as goal

pub returns-in-Some : goal.returns-in-Some
returns-in-Some c =
    let last = follows-last item_key c.args.flow.now c.args.item c.in-Some.last.now c.in-Some.ensures.value in
    cc (last, c.is_before.ensures)
