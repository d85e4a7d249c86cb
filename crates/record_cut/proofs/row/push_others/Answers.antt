use Rattle.std.proofs.Common.{◌∙◌, sym, ap, ◌++◌, drop, ◌+◌, arith}
use Rattle.record_cut.specs.Row.{text_of_next, text_of_others}
use Rattle.record_cut.proofs.Fronts.{front_stays}
use Rattle.record_cut.proofs.Rows.{others-more, others-all, pushed}
use Rattle.record_cut.proofs.row.push_others.Goals as goal

pub loop-i-preserved : goal.loop-i-preserved
loop-i-preserved c =
    let step = others-more c.args.sep c.args.fields.now c.loop-i.i c.at.result.now (omega (arith, c.width-i-end.ensures)) c.at.ensures in
    record {
      text = pushed c.loop-i.text.items _ (text_of_next c.args.sep c.at.result.now) (text_of_others c.args.sep (drop (c.loop-i.i + 1) c.args.fields.now)) _ (ap (λ r. c.loop-i.text.items ++ r) (sym step) ∙ c.loop-i.invariant.text) c.in_ok-push_next_field.ensures.text;
      front = front_stays c.loop-i.text.items c.push_next_field.new.text.items _ c.in_ok-push_next_field.ensures.front c.loop-i.invariant.front;
    }

pub returns-clause-text : goal.returns-clause-text
returns-clause-text c =
    let last = others-all c.args.sep c.args.fields.now c.loop-i.i (omega (arith, c.width-i-end.ensures)) in
    c.in_ok-end_row.ensures.text ∙ ap (λ r. c.loop-i.text.items ++ r) (sym last) ∙ c.loop-i.invariant.text
