use Rattle.std.proofs.Common.{length, take, ◌-◌, ◌≡◌, ◌≤◌}
use Rattle.screen_io.specs.Sink.{Gains}
use Rattle.screen_io.proofs.write.write_all_of.Given as goal

-- the sink gained what is done, and its count is as it was
abbrev pub invariant-loop-done : goal.invariant-loop-done
invariant-loop-done g l = record {
  within : l.done ≤ length l.bytes;
  gained : Gains (g.K.Sink.held l.initial.sink) (take l.done l.bytes) (g.K.Sink.held l.sink);
  unfailed : g.K.Sink.faults l.sink ≡ g.K.Sink.faults l.initial.sink;
}

abbrev pub decreases-loop-done : goal.decreases-loop-done
decreases-loop-done g l = length l.bytes - l.done
