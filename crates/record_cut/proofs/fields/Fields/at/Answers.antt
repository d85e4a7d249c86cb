use Rattle.std.proofs.Common.{ap, length, arith}
use Rattle.record_cut.proofs.Splits.{length-pieces}
use Rattle.record_cut.proofs.fields.Fields.at.Goals as goal

pub piece_at-requires-clause-within : goal.piece_at-requires-clause-within
piece_at-requires-clause-within c = omega (arith, length-pieces c.self.inside.bytes.items 0 c.self.inside.ends.items, ap length c.self.view_is, ap length c.deref-2.ensures.value)
