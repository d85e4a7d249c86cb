use Rattle.std.proofs.Common.{◌≡◌, drop}
use Rattle.rule_file.specs.Numbers.{sensors}
use Rattle.series_rows.specs.Header.{columns_of}
use Rattle.series_rows.proofs.ByName.{led_by}
use Rattle.series_rows.proofs.first_record.columns_of.Given as goal

abbrev pub invariant-loop-i : goal.invariant-loop-i
invariant-loop-i l = columns_of l.time_col l.fields (sensors l.rules) ≡ led_by l.cols (columns_of l.time_col l.fields (drop l.i (sensors l.rules)))
