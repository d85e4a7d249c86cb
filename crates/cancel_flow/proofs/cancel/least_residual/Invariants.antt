use Rattle.std.proofs.Common.{◌<◌, ℕ, pos, ◌≤ℤ◌, get_or}
use Rattle.cancel_flow.specs.Cycles.{HasRoom}
use Rattle.cancel_flow.proofs.cancel.least_residual.Given as goal

abbrev pub invariant-loop-i : goal.invariant-loop-i
invariant-loop-i l = record {
  some : pos 1 ≤ℤ l.least;
  room : (j : ℕ) → j < l.i → HasRoom l.net l.least (get_or l.room.cycle j 0);
}
