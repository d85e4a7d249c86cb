use Rattle.std.proofs.Common.{◌≡◌, ◌++◌, map, take}
use Rattle.series_rows.specs.Row.{columns}
use Rattle.series_rows.specs.declared.cell.RowReading.{RowReading}
use Rattle.series_csv.specs.Readings.{places_in}
use Rattle.series_csv.proofs.rows.push_readings.Given as goal

abbrev pub invariant-loop-reading : goal.invariant-loop-reading
invariant-loop-reading l = record {
  places : l.places ≡ l.fn.places ++ places_in l.number (columns (take l.reading-index l.readings));
  values : l.values ≡ l.fn.values ++ map (λ (reading : RowReading). reading.value) (take l.reading-index l.readings);
}
