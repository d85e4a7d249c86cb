use Rattle.std.proofs.Common.{◌≡◌, drop}
use Rattle.series_rows.specs.Row.{sensor_cell}
use Rattle.series_rows.proofs.row.sensor_cell.Given as goal

abbrev pub invariant-loop-reading : goal.invariant-loop-reading
invariant-loop-reading l = sensor_cell l.readings l.missing l.col ≡ sensor_cell (drop l.reading-index l.readings) l.missing l.col
