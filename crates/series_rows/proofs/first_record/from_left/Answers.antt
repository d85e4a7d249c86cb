use Rattle.std.proofs.Common.{arith}
use Rattle.series_rows.specs.Header.{named_by_sensors}
use Rattle.series_rows.proofs.ByName.{sensors_begun, sensors_step, sensors_done}
use Rattle.series_rows.proofs.first_record.from_left.Goals as goal

pub loop-i-init : goal.loop-i-init
loop-i-init c = sensors_begun c.args.sensor_cols.now c.args.width c.new-cols.result c.new-cols.ensures

pub loop-i-preserved : goal.loop-i-preserved
loop-i-preserved c = sensors_step c.args.sensor_cols.now c.args.width c.loop-i.i (named_by_sensors c.args.sensor_cols.now c.args.width) c.loop-i.cols _ (omega arith) c.loop-i.invariant c.in_ok-push_sensor_column.ensures

pub returns : goal.returns
returns c = sensors_done c.args.sensor_cols.now c.args.width c.loop-i.i (named_by_sensors c.args.sensor_cols.now c.args.width) c.loop-i.cols (omega arith) c.loop-i.invariant
