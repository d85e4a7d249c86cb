use Rattle.std.proofs.Common.{◌≡◌, ◌++◌, ◌-◌, length, drop}
use Rattle.std.specs.Io.{StartsWith}
use Rattle.record_cut.specs.Row.{doubled}
use Rattle.record_cut.proofs.row.push_doubled.Given as goal

abbrev pub invariant-loop-from : goal.invariant-loop-from
invariant-loop-from l = record {
  text : l.text.items ++ doubled (drop l.from l.field) ≡ l.initial.text.items ++ doubled l.field;
  front : StartsWith l.text.items l.initial.text.items;
}

abbrev pub decreases-loop-from : goal.decreases-loop-from
decreases-loop-from l = length l.field - l.from
