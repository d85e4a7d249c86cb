use Rattle.std.proofs.Common.{arith}
use Rattle.record_cut.proofs.Steps.{quote-at_sep, quote-at_quote, quote-at_line_feed, quote-at_cr, quote-at_other}
use Rattle.record_cut.proofs.place.after_quote.Goals as goal

pub returns-then-byte-sep-clause-moves : goal.returns-then-byte-sep-clause-moves
returns-then-byte-sep-clause-moves c = quote-at_sep c.args.sep c.args.byte c.args.draft.now c.end_field.new.draft c.end_field.result c.requires.sep c.if-byte-sep.true c.end_field.ensures.ended

pub returns-in-34-clause-moves : goal.returns-in-34-clause-moves
returns-in-34-clause-moves c = quote-at_quote c.args.sep c.args.byte c.args.draft.now c.keep.new.draft c.keep.result c.in-34.is c.keep.ensures.kept

pub returns-in-10-clause-moves : goal.returns-in-10-clause-moves
returns-in-10-clause-moves c = λ more. rw c.in-10.is (quote-at_line_feed c.args.sep c.args.draft.now c.requires.sep more)

pub returns-in-13-clause-moves : goal.returns-in-13-clause-moves
returns-in-13-clause-moves c = record { fits = tt; same = λ more. rw c.in-13.is (quote-at_cr c.args.sep c.args.draft.now more) }

pub returns-in_default-clause-moves : goal.returns-in_default-clause-moves
returns-in_default-clause-moves c = λ more. quote-at_other c.args.sep c.args.byte c.args.draft.now more c.if-byte-sep.false (λ e. omega arith) (λ e. omega arith) (λ e. omega arith)
