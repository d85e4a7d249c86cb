use Rattle.std.proofs.Common.{length}
use Rattle.series_csv.proofs.WholeTables.{HasLeft}
use Rattle.series_csv.proofs.whole.read_short.Given as goal

abbrev pub invariant-loop-rest : goal.invariant-loop-rest
invariant-loop-rest l = HasLeft l.reading l.rules l.bytes l.rest

abbrev pub decreases-loop-rest : goal.decreases-loop-rest
decreases-loop-rest l = length l.rest
