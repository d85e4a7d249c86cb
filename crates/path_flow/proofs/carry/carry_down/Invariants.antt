use Rattle.flow_core.specs.State.{IsNetwork}
use Rattle.path_flow.specs.Flow.{IsCarried, IsCovered}
use Rattle.path_flow.proofs.carry.carry_down.Given as goal

abbrev pub invariant-loop-done : goal.invariant-loop-done
invariant-loop-done l = record {
  network : IsNetwork l.net;
  covered : IsCovered l.purse l.net;
  carried : IsCarried l.fn.purse l.purse l.fn.net l.net;
}
