use Rattle.std.proofs.Common.{◌≡◌, ◌++◌, ◌≤◌, length}
use Rattle.std.specs.Io.{StartsWith}
use Rattle.series_rows.specs.Columns.{left_to_write}
use Rattle.series_rows.specs.Texts.{row_text_with}
use Rattle.series_rows.proofs.text.push_fields_with.Given as goal

abbrev pub invariant-loop-i : goal.invariant-loop-i
invariant-loop-i l = record {
  written : l.text.items ++ left_to_write l.rules.format l.row l.values l.i l.next ≡ l.initial.text.items ++ row_text_with l.rules l.row l.values;
  within : l.next ≤ length l.row.readings;
  front : StartsWith l.text.items l.initial.text.items;
}
