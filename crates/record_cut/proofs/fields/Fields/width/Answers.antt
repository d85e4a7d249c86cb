use Rattle.std.proofs.Common.{ap, length, arith}
use Rattle.record_cut.proofs.Splits.{length-pieces}
use Rattle.record_cut.proofs.fields.Fields.width.Goals as goal

pub returns : goal.returns
returns c = omega (arith, length-pieces c.self.inside.bytes.items 0 c.self.inside.ends.items, ap length c.self.view_is)
