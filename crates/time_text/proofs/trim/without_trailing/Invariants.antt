use Rattle.std.proofs.Common.{◌≡◌, length}
use Rattle.time_text.specs.Trimmed.{without_trailing_blanks}
use Rattle.time_text.proofs.trim.without_trailing.Given as goal

abbrev pub invariant-loop-rest : goal.invariant-loop-rest
invariant-loop-rest l = without_trailing_blanks l.rest ≡ without_trailing_blanks l.initial.rest

abbrev pub decreases-loop-rest : goal.decreases-loop-rest
decreases-loop-rest l = length l.rest
