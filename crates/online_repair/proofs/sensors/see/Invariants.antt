use Rattle.std.proofs.Common.{◌≡◌, drop}
use Rattle.online_repair.specs.Sensors.{all_seen}
use Rattle.online_repair.proofs.sensors.see.Given as goal

abbrev pub invariant-loop-reading : goal.invariant-loop-reading
invariant-loop-reading l = all_seen l.row.ticks (drop l.reading-index l.row.readings) l.tracks.items ≡ all_seen l.row.ticks l.row.readings l.fn.tracks.items
