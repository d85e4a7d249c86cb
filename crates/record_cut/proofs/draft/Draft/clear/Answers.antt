use Rattle.std.proofs.Common.{arith}
use Rattle.record_cut.proofs.Splits.{new-pieces, new-start}
use Rattle.record_cut.proofs.draft.Draft.clear.Goals as goal

pub invariant_of-self : goal.invariant_of-self
invariant_of-self c = (new-start _ c.clear-2.ensures.items, omega arith)

pub returns-clause-fields : goal.returns-clause-fields
returns-clause-fields c = new-pieces _ _ c.clear-2.ensures.items
