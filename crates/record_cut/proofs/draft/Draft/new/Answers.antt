use Rattle.std.proofs.Common.{arith}
use Rattle.record_cut.proofs.Splits.{new-pieces, new-start}
use Rattle.record_cut.proofs.draft.Draft.new.Goals as goal

pub invariant_of-result : goal.invariant_of-result
invariant_of-result c = (new-start _ c.new-2.ensures.items, omega arith)

pub returns-clause-fields : goal.returns-clause-fields
returns-clause-fields c = new-pieces _ _ c.new-2.ensures.items
