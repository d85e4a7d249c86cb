use Rattle.record_cut.proofs.Splits.{new-pieces, new-Rises}
use Rattle.std.proofs.Common.{arith, length, ap}
use Rattle.record_cut.proofs.fields.Fields.new.Goals as goal

pub invariant_of-result : goal.invariant_of-result
invariant_of-result c = (new-Rises _ _ c.new.ensures.items c.new-2.ensures.items, omega (arith, ap length c.new-2.ensures.items))

pub returns : goal.returns
returns c = new-pieces _ _ c.new-2.ensures.items
