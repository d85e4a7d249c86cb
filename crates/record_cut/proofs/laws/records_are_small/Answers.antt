use Rattle.record_cut.proofs.Sizes.{ended-small}
use Rattle.record_cut.proofs.laws.records_are_small.Goals as goal

pub returns : goal.returns
returns c = ended-small
