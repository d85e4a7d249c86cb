use Rattle.std.proofs.Common.{◌≡◌, drop}
use Rattle.std.specs.Prelude.{◌==◌}
use Rattle.std.specs.List.{find}
use Rattle.series_rows.specs.declared.cell.RowReading.{RowReading}
use Rattle.bound_maker.proofs.reading.value_in.Given as goal

abbrev pub invariant-loop-reading : goal.invariant-loop-reading
invariant-loop-reading l = find (λ (reading : RowReading). reading.col == l.col) l.readings ≡ find (λ (reading : RowReading). reading.col == l.col) (drop l.reading-index l.readings)
