use Rattle.std.proofs.Common.{◌≡◌, sum_by, take, drop}
use Rattle.std.specs.Prelude.{unsigned_abs}
use Rattle.path_flow.proofs.units.units_at_readings.Given as goal

abbrev pub invariant-loop-reading : goal.invariant-loop-reading
invariant-loop-reading l = l.units ≡ sum_by unsigned_abs (take l.reading (drop 1 l.net.excesses))
