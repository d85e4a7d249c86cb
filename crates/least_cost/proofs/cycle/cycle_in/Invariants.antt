use Rattle.std.proofs.Common.{◌≡◌, take}
use Rattle.least_cost.specs.Cycle.{names_on}
use Rattle.least_cost.proofs.cycle.cycle_in.Given as goal

abbrev pub invariant-loop-place : goal.invariant-loop-place
invariant-loop-place l = l.names ≡ names_on l.bounds (take l.place l.room.cycle)
