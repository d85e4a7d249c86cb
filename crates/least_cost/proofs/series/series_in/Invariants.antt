use Rattle.std.proofs.Common.{◌≡◌, take, drop}
use Rattle.least_cost.proofs.series.series_in.Given as goal

abbrev pub invariant-loop-node : goal.invariant-loop-node
invariant-loop-node l = l.series ≡ drop 1 (take l.node l.room.distances)
