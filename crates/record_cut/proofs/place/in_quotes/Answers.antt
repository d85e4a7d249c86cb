use Rattle.record_cut.proofs.Steps.{quoted-at_other}
use Rattle.record_cut.proofs.place.in_quotes.Goals as goal

pub returns-else-byte-eq-QUOTE-clause-moves : goal.returns-else-byte-eq-QUOTE-clause-moves
returns-else-byte-eq-QUOTE-clause-moves c = λ sep. quoted-at_other sep c.args.byte c.args.draft.now c.keep.new.draft c.keep.result c.if-byte-eq-QUOTE.false c.keep.ensures.kept
