use Rattle.std.proofs.Common.{true, []}
use Rattle.screen_online.proofs.Handing.{hands_text}
use Rattle.screen_online.proofs.stream.finish.Goals as goal

pub returns : goal.returns
returns g c = λ rules came stands.
    hands_text g.K.Sink.held g.K.Sink.faults rules true came [] _ _ _ _ _ _ _ _ c.clear.ensures.items c.as_slice.ensures.value (c.finish-ended.ensures.ends rules came stands) c.write_ready.ensures
