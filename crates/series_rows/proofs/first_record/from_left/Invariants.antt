use Rattle.std.proofs.Common.{◌≡◌, ◌++◌}
use Rattle.series_rows.specs.Header.{named_by_sensors}
use Rattle.series_rows.proofs.ByName.{of_sensors_after}
use Rattle.series_rows.proofs.first_record.from_left.Given as goal

abbrev pub invariant-loop-i : goal.invariant-loop-i
invariant-loop-i l = named_by_sensors l.sensor_cols l.width ≡ l.cols ++ of_sensors_after l.sensor_cols l.width l.i
