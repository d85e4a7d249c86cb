use Rattle.std.proofs.Common.{drop, arith, length-drop}
use Rattle.std.proofs.lemmas.List.{take_all}
use Rattle.record_cut.proofs.Fronts.{front_stays}
use Rattle.record_cut.proofs.Rows.{doubled-pushed, doubled-done}
use Rattle.record_cut.proofs.row.push_doubled.Goals as goal

pub loop-from-preserved : goal.loop-from-preserved
loop-from-preserved c = record {
  text = doubled-pushed c.loop-from.text.items c.push_to_quote.new.text.items _ c.args.field.now _ c.loop-from.from c.in_ok-from.field-0 (take_all _ (drop c.loop-from.from c.args.field.now) (omega (arith, length-drop c.loop-from.from c.args.field.now))) c.in_ok-from.ensures.pushed c.loop-from.invariant.text;
  front = front_stays c.loop-from.text.items c.push_to_quote.new.text.items _ c.in_ok-from.ensures.front c.loop-from.invariant.front;
}

pub returns-clause-text : goal.returns-clause-text
returns-clause-text c = doubled-done c.loop-from.text.items _ c.args.field.now c.loop-from.from (omega arith) c.loop-from.invariant.text
