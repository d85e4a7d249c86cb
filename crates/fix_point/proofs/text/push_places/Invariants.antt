use Rattle.std.proofs.Common.{◌≡◌, ◌++◌}
use Rattle.std.specs.Io.{StartsWith}
use Rattle.fix_point.specs.Text.{places}
use Rattle.fix_point.proofs.text.push_places.Given as goal

abbrev pub invariant-loop-place : goal.invariant-loop-place
invariant-loop-place l = record {
  text : l.text.items ++ places l.place l.size ≡ l.fn.text.items ++ places l.count l.size;
  front : StartsWith l.text.items l.fn.text.items;
}
