use Rattle.std.proofs.Common.{arith}
use Rattle.fix_point.proofs.Sizes.{power_some}
use Rattle.fix_point.proofs.text.push_text_of.Goals as goal

pub push_whole-requires : goal.push_whole-requires
push_whole-requires c = omega (arith, power_some c.args.d, c.pow.ensures)
