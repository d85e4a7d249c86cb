use Rattle.std.proofs.Common.{◌≡◌, ◌++◌, take}
use Rattle.rule_file.specs.Numbers.{rules_in_order}
use Rattle.bound_maker.specs.Bounds.{with_columns}
use Rattle.bound_maker.specs.Costs.{weights_at}
use Rattle.bound_maker.specs.Weighed.{AreStays}
use Rattle.bound_maker.proofs.weigher.push_weights.Given as goal

abbrev pub invariant-loop-reading : goal.invariant-loop-reading
invariant-loop-reading l = record {
  stays : AreStays l.rules l.header.sensor_cols l.weigher.stays;
  weights : l.list.items ≡ l.fn.list.items ++ weights_at (with_columns 1 (rules_in_order l.rules) l.header.sensor_cols) l.row.ticks (take l.reading-index l.row.readings);
}
