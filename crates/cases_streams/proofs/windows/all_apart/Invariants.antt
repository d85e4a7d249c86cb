use Rattle.std.proofs.Common.{ℕ, ◌<◌, slice_index_or}
use Rattle.order_window.specs.declared.key.Key.{Key}
use Rattle.order_window.specs.Window.{AreApart}
use Rattle.cases_streams.proofs.windows.all_apart.Given as goal

abbrev pub invariant-loop-other : goal.invariant-loop-other
invariant-loop-other l = (k : ℕ) (d : Key) → k < l.other-index → AreApart l.span l.key (slice_index_or l.keys k d)
