use Rattle.record_cut.specs.declared.phase.Place.TheVariants.{Plain, PlainCr}
use Rattle.record_cut.proofs.Steps.{plain_cr-at_line_feed, plain_cr-goes, moves-from}
use Rattle.record_cut.proofs.place.after_plain_cr.Goals as goal

pub returns-then-byte-eq-LINE_FEED-clause-moves : goal.returns-then-byte-eq-LINE_FEED-clause-moves
returns-then-byte-eq-LINE_FEED-clause-moves c = λ more. rw c.if-byte-eq-LINE_FEED.true (plain_cr-at_line_feed c.args.sep c.args.draft.now c.requires.sep more)

pub returns-clause-moves : goal.returns-clause-moves
returns-clause-moves c = moves-from c.args.sep PlainCr Plain c.args.draft.now c.add.new.self c.in_plain.new.draft c.args.byte c.in_plain.result (λ more. plain_cr-goes c.args.sep c.args.byte c.args.draft.now c.add.new.self more c.requires.sep c.if-byte-eq-LINE_FEED.false c.add.ensures.fields c.in_ok-add.ensures.field) c.in_plain.ensures.moves
