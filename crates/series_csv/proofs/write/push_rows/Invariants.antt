use Rattle.std.proofs.Common.{◌++◌}
use Rattle.series_csv.specs.Text.{rows_text}
use Rattle.series_csv.proofs.Writing.{IsWriting}
use Rattle.series_csv.proofs.write.push_rows.Given as goal

abbrev pub invariant-loop-row : goal.invariant-loop-row
invariant-loop-row l = IsWriting l.rules l.rows l.row-index l.rest l.text.items (l.fn.text.items ++ rows_text l.rules l.rows l.values)
