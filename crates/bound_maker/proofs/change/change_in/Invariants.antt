use Rattle.std.proofs.Common.{◌≡◌, ◌+◌, ◌*◌, ◌^◌, ◌≤◌, drop}
use Rattle.rule_file.specs.Numbers.{rules_in_order}
use Rattle.bound_maker.specs.Bounds.{with_columns}
use Rattle.bound_maker.specs.Weighed.{AreStays}
use Rattle.bound_maker.proofs.Changes.{changed, weigh}
use Rattle.bound_maker.proofs.change.change_in.Given as goal

abbrev pub invariant-loop-index : goal.invariant-loop-index
invariant-loop-index l = record {
  stays : AreStays l.rules l.header.sensor_cols l.weigher.stays;
  value : l.change + changed (weigh (with_columns 1 (rules_in_order l.rules) l.header.sensor_cols) l.row.ticks) (drop l.index l.readings) (drop l.index l.series)
      ≡ changed (weigh (with_columns 1 (rules_in_order l.rules) l.header.sensor_cols) l.row.ticks) l.readings l.series;
  small : l.change ≤ l.index * 2 ^ 96;
}
