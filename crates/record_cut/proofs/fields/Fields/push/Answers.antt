use Rattle.std.proofs.Common.{ap, length, arith}
use Rattle.std.proofs.lemmas.Grind.{common_steps}
use Rattle.record_cut.proofs.Splits.{length-pieces}
use Rattle.record_cut.proofs.fields.Fields.push.Goals as goal

pub invariant_of-self : goal.invariant_of-self
invariant_of-self c =
    let before = length-pieces c.self.inside.bytes.items 0 c.self.inside.ends.items in
    let same = ap length c.self.view_is in
    (c.push_piece.ensures.rises, grind (arith, common_steps, before, same))
