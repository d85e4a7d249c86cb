use Rattle.std.proofs.Common.{◌≡◌, ◌++◌, drop}
use Rattle.std.specs.Io.{StartsWith}
use Rattle.record_cut.specs.Row.{text_of_others}
use Rattle.record_cut.proofs.row.push_others.Given as goal

abbrev pub invariant-loop-i : goal.invariant-loop-i
invariant-loop-i l = record {
  text : l.text.items ++ text_of_others l.sep (drop l.i l.fields) ≡ l.initial.text.items ++ text_of_others l.sep (drop 1 l.fields);
  front : StartsWith l.text.items l.initial.text.items;
}
