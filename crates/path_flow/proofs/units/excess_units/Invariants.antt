use Rattle.std.proofs.Common.{◌≡◌, sum_by, take}
use Rattle.path_flow.specs.Flow.{positive_size}
use Rattle.path_flow.proofs.units.excess_units.Given as goal

abbrev pub invariant-loop-node : goal.invariant-loop-node
invariant-loop-node l = l.units ≡ sum_by positive_size (take l.node l.net.excesses)
