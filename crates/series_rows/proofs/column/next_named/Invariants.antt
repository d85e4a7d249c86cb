use Rattle.std.proofs.Common.{◌≡◌}
use Rattle.series_rows.specs.Search.{candidates}
use Rattle.series_rows.proofs.column.next_named.Given as goal

abbrev pub invariant-loop-i : goal.invariant-loop-i
invariant-loop-i l = candidates l.except l.name l.fields l.i ≡ candidates l.except l.name l.fields l.after
