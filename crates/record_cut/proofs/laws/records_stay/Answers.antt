use Rattle.record_cut.proofs.Walk.{records-stay}
use Rattle.record_cut.proofs.laws.records_stay.Goals as goal

pub returns : goal.returns
returns c = records-stay
