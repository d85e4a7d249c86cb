use Rattle.neg_cycle.proofs.Transposing.{is_negated}
use Rattle.neg_cycle.proofs.laws.transposed_is_negated.Goals as goal

pub returns : goal.returns
returns c = is_negated
