use Rattle.std.proofs.Common.{◌≡◌, ◌+◌, ◌-◌, ◌≤◌, length, drop}
use Rattle.bound_maker.specs.Windows.{count_before}
use Rattle.bound_maker.proofs.window.skip_before.Given as goal

abbrev pub invariant-loop-place : goal.invariant-loop-place
invariant-loop-place l = record {
  within : l.place ≤ length l.readings;
  rest : l.place + count_before l.from l.ticks (drop l.place l.readings) ≡ count_before l.from l.ticks l.readings;
}

abbrev pub decreases-loop-place : goal.decreases-loop-place
decreases-loop-place l = length l.readings - l.place
