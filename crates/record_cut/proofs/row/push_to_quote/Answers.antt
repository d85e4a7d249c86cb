use Rattle.std.proofs.Common.{◌<◌, length, arith}
use Rattle.record_cut.proofs.Rows.{quote-pushed, run-pushed}
use Rattle.record_cut.proofs.row.push_to_quote.Goals as goal

pub returns-clause-pushed : goal.returns-clause-pushed
returns-clause-pushed c =
    let within : c.before_quote-run.result < length c.args.field.now = omega arith in
    quote-pushed c.args.text.now.items c.extend_from_slice.new.self.items c.extend_from_slice-2.new.self.items c.args.field.now c.before_quote-run.result _ (omega arith) within c.before_quote-run.ensures.none_before (c.before_quote-run.ensures.here within) c.in_ok-extend_from_slice.ensures.items c.in_ok-extend_from_slice-2.ensures.items

pub returns-then-run-field-clause-pushed : goal.returns-then-run-field-clause-pushed
returns-then-run-field-clause-pushed c = run-pushed c.args.text.now.items c.extend_from_slice.new.self.items c.args.field.now c.before_quote-run.result _ (omega arith) (omega arith) c.before_quote-run.ensures.none_before c.in_ok-extend_from_slice.ensures.items
