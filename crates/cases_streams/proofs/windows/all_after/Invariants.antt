use Rattle.std.proofs.Common.{ℕ, ◌<◌, slice_index_or}
use Rattle.order_window.specs.declared.key.Key.{Key}
use Rattle.order_window.specs.Window.{IsAfter}
use Rattle.cases_streams.proofs.windows.all_after.Given as goal

abbrev pub invariant-loop-key : goal.invariant-loop-key
invariant-loop-key l = (k : ℕ) (d : Key) → k < l.key-index → IsAfter l.span l.own (slice_index_or l.keys k d)
