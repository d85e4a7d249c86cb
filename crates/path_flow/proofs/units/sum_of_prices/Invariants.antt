use Rattle.std.proofs.Common.{◌≡◌, sum, take}
use Rattle.path_flow.proofs.units.sum_of_prices.Given as goal

abbrev pub invariant-loop-bound : goal.invariant-loop-bound
invariant-loop-bound l = l.sum ≡ sum (take l.bound l.net.network.prices)
