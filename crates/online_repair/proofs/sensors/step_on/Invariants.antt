use Rattle.std.proofs.Common.{◌≡◌}
use Rattle.online_repair.proofs.Rounds.{mapped}
use Rattle.online_repair.proofs.sensors.step_on.Given as goal

abbrev pub invariant-loop-i : goal.invariant-loop-i
invariant-loop-i l = l.tracks.items ≡ mapped l.i l.fn.tracks.items
