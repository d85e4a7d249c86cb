use Rattle.std.proofs.Common.{◌≡◌, ◌*◌, ◌^◌, ◌≤◌}
use Rattle.fix_point.proofs.size.multiplied.Given as goal

abbrev pub invariant-loop-done : goal.invariant-loop-done
invariant-loop-done l = record { size_is : l.size ≡ l.mantissa * 10 ^ l._done; small : l.size ≤ l.most }
