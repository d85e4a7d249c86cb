use Rattle.std.proofs.Common.{◌≡◌, drop}
use Rattle.std.specs.List.{find}
use Rattle.series_rows.specs.declared.cell.RowReading.{RowReading}
use Rattle.online_repair.specs.Sensors.{lacks_step_at, place_in}
use Rattle.online_repair.proofs.sensors.without_step.Given as goal

abbrev pub invariant-loop-reading : goal.invariant-loop-reading
invariant-loop-reading l = record {
  kept : l.tracks.items ≡ l.fn.tracks.items;
  rest : find (λ (reading : RowReading). lacks_step_at (place_in reading.col l.fn.tracks.items) l.fn.tracks.items l.row.ticks) (drop l.reading-index l.row.readings) ≡ find (λ (reading : RowReading). lacks_step_at (place_in reading.col l.fn.tracks.items) l.fn.tracks.items l.row.ticks) l.row.readings;
}
