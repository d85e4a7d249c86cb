use Rattle.std.proofs.Common.{drop, map}
use Rattle.std.specs.List.{AllByRecursion}
use Rattle.online_repair.specs.Sensors.{IsReady, passed}
use Rattle.online_repair.proofs.Rows.{Continues}
use Rattle.online_repair.proofs.sensors.repair_row.Given as goal

abbrev pub invariant-loop-reading : goal.invariant-loop-reading
invariant-loop-reading l = record {
  ready : AllByRecursion (IsReady l.tracks.items l.held.items l.row.ticks) (drop l.reading-index l.row.readings);
  row : Continues l.row.ticks l.held.items l.row.readings (drop l.reading-index l.row.readings) (map passed l.fn.tracks.items) l.tracks.items l.values.items;
}
