use Rattle.std.proofs.Common.{◌≡◌, sum, take}
use Rattle.path_flow.proofs.units.sum_of_weights.Given as goal

abbrev pub invariant-loop-reading : goal.invariant-loop-reading
invariant-loop-reading l = l.sum ≡ sum (take l.reading l.net.network.weights)
