use Rattle.online_repair.specs.StandsFor.{HasEnded}
use Rattle.cases_streams.proofs.online.feed_pieces.Given as goal

abbrev pub invariant-loop-piece : goal.invariant-loop-piece
invariant-loop-piece l = ¬ HasEnded l.online
