use Rattle.std.proofs.Common.{ℕ, ◌+◌, ◌<◌, ◌≤◌, length}
use Rattle.bound_graph.specs.Index.{row_at, IsRowTable}
use Rattle.bound_graph.proofs.index.row_starts.Given as goal

-- no row that is still to come is passed
abbrev pub invariant-loop-i : goal.invariant-loop-i
invariant-loop-i l = record {
  table : IsRowTable l.places l.i 0 l.starts.items;
  reached : (k : ℕ) → l.i ≤ k → k < length l.places → length l.starts.items ≤ row_at l.places k + 1;
}
