use Rattle.std.proofs.Common.{false}
use Rattle.screen_online.proofs.Handing.{hands_text}
use Rattle.screen_online.proofs.stream.feed.Goals as goal

pub returns : goal.returns
returns g c = λ rules came stands.
    hands_text g.K.Sink.held g.K.Sink.faults rules false came c.args.piece.now _ _ _ _ _ _ _ _ c.clear.ensures.items c.as_slice.ensures.value (c.feed-fed.ensures.feeds rules came stands) c.write_ready.ensures
