use Rattle.std.proofs.Common.{◌≡◌, drop}
use Rattle.online_repair.specs.Rows.{reading_in}
use Rattle.online_repair.proofs.track.reading_in.Given as goal

abbrev pub invariant-loop-reading : goal.invariant-loop-reading
invariant-loop-reading l = reading_in l.col (drop l.reading-index l.readings) ≡ reading_in l.col l.readings
