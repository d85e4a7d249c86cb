use Rattle.std.proofs.Common.{Err, sym, ap, arith}
use Rattle.std.proofs.lemmas.Result.{err_from_is_err_and}
use Rattle.series_rows.proofs.HeaderAnswers.{too_many_fields, time_fails, sensor_fails, header_read, header_keeps}
use Rattle.series_rows.proofs.first_record.header_of.Goals as goal

pub returns-then-width-gt-MOST_COLUMNS : goal.returns-then-width-gt-MOST_COLUMNS
returns-then-width-gt-MOST_COLUMNS c = λ _. too_many_fields c.args.rules.now c.args.fields c.at.result (omega (arith, c.width.ensures)) c.at.ensures

pub returns-in_err-time_col : goal.returns-in_err-time_col
returns-in_err-time_col c =
    let p = err_from_is_err_and c.from_residual.result c.from_residual.ensures.1 in
    rw (p.1, p.2) (λ _. time_fails c.args.rules.now c.args.fields _ (omega (arith, c.width.ensures)) (sym c.in_err-time_col.ensures))

pub returns-in_err-sensor_cols : goal.returns-in_err-sensor_cols
returns-in_err-sensor_cols c =
    let p = err_from_is_err_and c.from_residual-in_err-sensor_cols.result c.from_residual-in_err-sensor_cols.ensures.1 in
    rw (p.1, p.2)
    (λ other. sensor_fails c.args.rules.now c.args.fields _ c.in_ok-time_col.time_col (omega (arith, c.width.ensures)) (sym c.in_ok-time_col.ensures) (c.in_err-sensor_cols.ensures.refused (λ same. other (ap Err same))))

pub new-requires : goal.new-requires
new-requires c =
    header_keeps c.args.rules.now c.args.fields c.in_ok-time_col.time_col c.in_ok-sensor_cols.sensor_cols c.as_slice.result.now c.in_ok-from_left.from_left c.width-2.result
    (omega (arith, c.width.ensures)) (sym c.in_ok-time_col.ensures) c.width-2.ensures c.as_slice.ensures c.in_ok-from_left.ensures

pub returns : goal.returns
returns c = λ _.
    header_read c.args.rules.now c.args.fields c.in_ok-time_col.time_col c.in_ok-sensor_cols.sensor_cols c.new.result c.new.ensures (omega (arith, c.width.ensures)) (sym c.in_ok-time_col.ensures) c.in_ok-sensor_cols.ensures.accepted
