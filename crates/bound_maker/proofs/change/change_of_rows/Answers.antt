use Rattle.std.proofs.Common.{arith}
use Rattle.rule_file.specs.Numbers.{rules_in_order}
use Rattle.bound_maker.specs.Bounds.{with_columns}
use Rattle.bound_maker.proofs.Changes.{rows_step}
use Rattle.bound_maker.proofs.change.change_of_rows.Goals as goal

pub loop-row-init : goal.loop-row-init
loop-row-init c = record {
  stays = c.new-weigher.ensures c.args.rules.now c.args.header.now.sensor_cols;
  value = omega arith;
  long = c.requires.whole;
  small = omega arith;
}

pub loop-row-preserved : goal.loop-row-preserved
loop-row-preserved c =
    let ruled = with_columns 1 (rules_in_order c.args.rules.now) c.args.header.now.sensor_cols in
    let next = rows_step ruled c.args.rows.now c.loop-row.row-index c.row-item.result c.loop-row.rest.now c.after_row-rest.result.now c.loop-row.change c.change_in-change.result _ c.loop-row-test.true c.row-item.is c.after_row-rest.ensures c.change_in-change.ensures.value
    (record { value = c.loop-row.invariant.value; long = c.loop-row.invariant.long }) in
    record {
      stays = c.change_in-change.ensures.stays;
      value = next.value;
      long = next.long;
      small = omega (arith, c.change_in-change.ensures.small, c.loop-row.invariant.small);
    }
