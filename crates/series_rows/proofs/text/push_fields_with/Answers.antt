use Rattle.std.proofs.Common.{length, ap, subst, arith}
use Rattle.record_cut.proofs.Fronts.{front_stays}
use Rattle.series_rows.specs.Row.{columns, Rise}
use Rattle.series_rows.proofs.Kept.{front_begun}
use Rattle.series_rows.proofs.RowTexts.{begun, one_written}
use Rattle.series_rows.proofs.text.push_fields_with.Goals as goal

pub loop-i-init : goal.loop-i-init
loop-i-init c = record {
  written = begun c.args.rules.now.format c.args.row.now c.args.values.now c.args.text.now.items (omega (arith, c.fields.ensures.least, ap length c.fields.ensures.fields)) c.requires.count
      (subst (λ rs. Rise 0 (columns rs) (length c.args.row.now.fields)) c.readings-readings.ensures.readings c.readings-readings.ensures.rise);
  within = omega arith;
  front = front_begun c.args.text.now.items;
}

pub loop-i-preserved : goal.loop-i-preserved
loop-i-preserved c = record {
  written = one_written c.args.rules.now.format c.args.row.now c.args.values.now c.loop-i.i c.loop-i.next c.in_ok-next.next c.loop-i.text.items c.push_column.new.text.items _ c.loop-i.invariant.written c.in_ok-next.ensures.rest;
  within = c.in_ok-next.ensures.within;
  front = front_stays c.loop-i.text.items c.push_column.new.text.items c.args.text.now.items c.push_column.ensures.front c.loop-i.invariant.front;
}

pub returns-clause-front : goal.returns-clause-front
returns-clause-front c = front_stays c.loop-i.text.items c.end_row.new.text.items c.args.text.now.items c.end_row.ensures.front c.loop-i.invariant.front
