use Rattle.std.proofs.Common.{sym, ◌∙◌, arith}
use Rattle.std.proofs.lemmas.Result.{err_from_is_err_and}
use Rattle.rule_file.specs.Numbers.{sensors, seen_sensor}
use Rattle.series_rows.proofs.ByName.{led_more, led_fault, led_all, some_sensor, sensor_at}
use Rattle.series_rows.proofs.first_record.columns_of.Goals as goal

pub unwrap-sensor-requires : goal.unwrap-sensor-requires
unwrap-sensor-requires c = some_sensor seen_sensor c.sensor.result (sensors c.args.rules.now) c.loop-i.i c.sensor.ensures (omega (arith, c.sensor_count-count.ensures))

pub returns-in_err-col-clause-refused : goal.returns-in_err-col-clause-refused
returns-in_err-col-clause-refused c =
    let p = err_from_is_err_and c.from_residual-in_err-col.result c.from_residual-in_err-col.ensures.1 in
    let here = sensor_at seen_sensor c.sensor.result c.unwrap-sensor.result (sensors c.args.rules.now) c.loop-i.i c.sensor.ensures c.unwrap-sensor.ensures in
    rw (p.1, p.2)
    (λ other. c.loop-i.invariant ∙ led_fault c.args.time_col c.args.fields.now (sensors c.args.rules.now) c.loop-i.i c.loop-i.cols (seen_sensor c.unwrap-sensor.result) _ here (sym c.in_err-col.ensures))

pub loop-i-preserved : goal.loop-i-preserved
loop-i-preserved c =
    let here = sensor_at seen_sensor c.sensor.result c.unwrap-sensor.result (sensors c.args.rules.now) c.loop-i.i c.sensor.ensures c.unwrap-sensor.ensures in
    rw c.in_ok-push.ensures.ok
    (c.loop-i.invariant ∙ led_more c.args.time_col c.args.fields.now (sensors c.args.rules.now) c.loop-i.i c.in_ok-col.col c.loop-i.cols (seen_sensor c.unwrap-sensor.result) here (sym c.in_ok-col.ensures))

pub returns-clause-accepted : goal.returns-clause-accepted
returns-clause-accepted c = c.loop-i.invariant ∙ led_all c.args.time_col c.args.fields.now (sensors c.args.rules.now) c.loop-i.i c.loop-i.cols (omega (arith, c.sensor_count-count.ensures))
