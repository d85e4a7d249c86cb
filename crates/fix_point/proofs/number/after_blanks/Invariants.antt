use Rattle.std.proofs.Common.{◌≡◌, length}
use Rattle.fix_point.specs.Grammar.{is_blank}
use Rattle.fix_point.specs.PartsOf.{after_front}
use Rattle.fix_point.proofs.number.after_blanks.Given as goal

abbrev pub invariant-loop-rest : goal.invariant-loop-rest
invariant-loop-rest l = after_front is_blank l.rest ≡ after_front is_blank l.bytes

abbrev pub decreases-loop-rest : goal.decreases-loop-rest
decreases-loop-rest l = length l.rest
