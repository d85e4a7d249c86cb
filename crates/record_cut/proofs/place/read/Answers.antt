use Rattle.record_cut.proofs.Steps.{closed_cr-at_line_feed, closed_cr-at_other}
use Rattle.record_cut.proofs.place.read.Goals as goal

pub returns-in-ClosedCr-clause-moves : goal.returns-in-ClosedCr-clause-moves
returns-in-ClosedCr-clause-moves c = λ fits more. rw (c.in-ClosedCr.is, c.if-byte-eq-LINE_FEED.true) (closed_cr-at_line_feed c.args.sep c.args.draft.now c.requires.sep more)

pub returns-in-ClosedCr-2-clause-moves : goal.returns-in-ClosedCr-2-clause-moves
returns-in-ClosedCr-2-clause-moves c = λ fits more. rw c.in-ClosedCr.is (closed_cr-at_other c.args.sep c.args.byte c.args.draft.now more c.requires.sep c.if-byte-eq-LINE_FEED.false)
