use Rattle.screen_online.proofs.Underway.{IsUnderWay}
use Rattle.screen_online.proofs.stream.repair_all.Given as goal

-- the repair stands for the bytes that came, and the whole text for them is written
abbrev pub invariant-loop-room : goal.invariant-loop-room
invariant-loop-room g l = IsUnderWay g.S.Source.left g.S.Source.faults g.K.Sink.held g.K.Sink.faults l.rules l.room l.online l.initial.readings l.readings l.initial.out l.out

abbrev pub decreases-loop-room : goal.decreases-loop-room
decreases-loop-room g l = l.room
