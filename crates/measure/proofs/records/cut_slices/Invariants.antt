use Rattle.std.proofs.Common.{length}
use Rattle.measure.proofs.records.cut_slices.Given as goal

abbrev pub decreases-loop-rest : goal.decreases-loop-rest
decreases-loop-rest l = length l.rest
