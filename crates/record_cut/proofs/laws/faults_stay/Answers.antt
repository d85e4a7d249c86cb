use Rattle.record_cut.proofs.Walk.{faults-stay}
use Rattle.record_cut.proofs.laws.faults_stay.Goals as goal

pub returns : goal.returns
returns c = faults-stay
