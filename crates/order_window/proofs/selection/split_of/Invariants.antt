use Rattle.std.proofs.Common.{◌-◌}
use Rattle.order_window.specs.Selection.{IsSplitBetween, count_of, max_at, min_at}
use Rattle.order_window.proofs.selection.split_of.Given as goal

abbrev pub invariant-search : goal.invariant-search
invariant-search l = IsSplitBetween (max_at l.orders l.own) (min_at l.orders l.own) (count_of l.orders) l.bounds.low l.bounds.high

abbrev pub decreases-search : goal.decreases-search
decreases-search l = l.bounds.high - l.bounds.low
