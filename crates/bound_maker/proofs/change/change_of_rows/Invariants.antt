use Rattle.std.proofs.Common.{◌≡◌, ◌+◌, ◌*◌, ◌^◌, ◌≤◌, drop, length}
use Rattle.std.specs.List.{flat_map}
use Rattle.rule_file.specs.Numbers.{rules_in_order}
use Rattle.screen_model.specs.Cost.{weighted_change}
use Rattle.series_csv.specs.Readings.{values_of}
use Rattle.bound_maker.specs.Bounds.{with_columns}
use Rattle.bound_maker.specs.Costs.{weights_in}
use Rattle.bound_maker.specs.Weighed.{AreStays}
use Rattle.bound_maker.proofs.change.change_of_rows.Given as goal

abbrev pub invariant-loop-row : goal.invariant-loop-row
invariant-loop-row l = record {
  stays : AreStays l.rules l.header.sensor_cols l.weigher.stays;
  value : l.change + weighted_change (flat_map (weights_in (with_columns 1 (rules_in_order l.rules) l.header.sensor_cols)) (drop l.row-index l.rows)) (values_of (drop l.row-index l.rows)) l.rest
      ≡ weighted_change (flat_map (weights_in (with_columns 1 (rules_in_order l.rules) l.header.sensor_cols)) l.rows) (values_of l.rows) l.series;
  long : length l.rest ≡ length (values_of (drop l.row-index l.rows));
  small : l.change ≤ l.row-index * 2 ^ 105;
}
