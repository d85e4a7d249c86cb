use Rattle.record_cut.specs.declared.phase.Place.TheVariants.{Field, Plain}
use Rattle.record_cut.proofs.Steps.{field-opens, field-plain, moves-from}
use Rattle.record_cut.proofs.place.at_field.Goals as goal

pub returns-then-byte-eq-QUOTE-clause-moves : goal.returns-then-byte-eq-QUOTE-clause-moves
returns-then-byte-eq-QUOTE-clause-moves c = λ fits. record { fits = tt; same = λ more. rw c.if-byte-eq-QUOTE.true (field-opens c.args.sep c.args.draft.now more fits) }

pub returns-else-byte-eq-QUOTE-clause-moves : goal.returns-else-byte-eq-QUOTE-clause-moves
returns-else-byte-eq-QUOTE-clause-moves c = λ fits. moves-from c.args.sep Field Plain c.args.draft.now c.args.draft.now c.in_plain.new.draft c.args.byte c.in_plain.result (λ more. field-plain c.args.sep c.args.byte c.args.draft.now more fits c.if-byte-eq-QUOTE.false) c.in_plain.ensures.moves
