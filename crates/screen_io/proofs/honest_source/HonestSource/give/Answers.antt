use Rattle.screen_io.proofs.Steps.{TakesInto-front}
use Rattle.screen_io.proofs.honest_source.HonestSource.give.Goals as goal

pub returns-clause-bytes : goal.returns-clause-bytes
returns-clause-bytes c =
    rw (← c.self.view_is) (
    TakesInto-front
    c.self.inside.bytes.items
    _
    _
    c.args.buf.now
    c.self.inside.position
    _
    c.deref.ensures.value
    c.copy_from_slice.ensures.after
    c.min-count.ensures
    )
