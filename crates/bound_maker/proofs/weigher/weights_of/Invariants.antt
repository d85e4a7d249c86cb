use Rattle.std.proofs.Common.{◌≡◌, take}
use Rattle.std.specs.List.{flat_map}
use Rattle.rule_file.specs.Numbers.{rules_in_order}
use Rattle.bound_maker.specs.Bounds.{with_columns}
use Rattle.bound_maker.specs.Costs.{weights_in}
use Rattle.bound_maker.specs.Weighed.{AreStays}
use Rattle.bound_maker.proofs.weigher.weights_of.Given as goal

abbrev pub invariant-loop-row : goal.invariant-loop-row
invariant-loop-row l = record {
  stays : AreStays l.rules l.table.header.sensor_cols l.weigher.stays;
  weights : l.list.items ≡ flat_map (weights_in (with_columns 1 (rules_in_order l.rules) l.table.header.sensor_cols)) (take l.row-index l.table.rows);
}
