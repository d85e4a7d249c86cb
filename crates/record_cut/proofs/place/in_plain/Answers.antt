use Rattle.std.proofs.Common.{arith}
use Rattle.record_cut.proofs.Steps.{plain-at_sep, plain-at_quote, plain-at_line_feed, plain-at_other}
use Rattle.record_cut.proofs.place.in_plain.Goals as goal

pub returns-then-byte-sep-clause-moves : goal.returns-then-byte-sep-clause-moves
returns-then-byte-sep-clause-moves c = plain-at_sep c.args.sep c.args.byte c.args.draft.now c.end_field.new.draft c.end_field.result c.if-byte-sep.true c.end_field.ensures.ended

pub returns-in-34-clause-moves : goal.returns-in-34-clause-moves
returns-in-34-clause-moves c = λ more. rw c.in-34.is (plain-at_quote c.args.sep c.args.draft.now c.requires.sep more)

pub returns-in-10-clause-moves : goal.returns-in-10-clause-moves
returns-in-10-clause-moves c = λ more. rw c.in-10.is (plain-at_line_feed c.args.sep c.args.draft.now c.requires.sep more)

pub returns-in_default-clause-moves : goal.returns-in_default-clause-moves
returns-in_default-clause-moves c = plain-at_other c.args.sep c.args.byte c.args.draft.now c.keep.new.draft c.keep.result c.if-byte-sep.false (λ e. omega arith) (λ e. omega arith) (λ e. omega arith) c.keep.ensures.kept
