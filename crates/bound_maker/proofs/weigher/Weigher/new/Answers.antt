use Rattle.std.proofs.Common.{pos, arith}
use Rattle.std.proofs.lemmas.Int.{ints}
use Rattle.bound_maker.proofs.Stays.{none_kept}
use Rattle.bound_maker.proofs.weigher.Weigher.new.Goals as goal

pub returns : goal.returns
returns c = λ rules cols. none_kept rules cols 257 (record { from = pos 1; until = pos 0; weight = 1 }) (omega (arith, ints))
