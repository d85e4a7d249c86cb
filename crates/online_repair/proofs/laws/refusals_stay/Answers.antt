use Rattle.online_repair.proofs.Remaining.{refusals_stay}
use Rattle.online_repair.proofs.laws.refusals_stay.Goals as goal

pub returns : goal.returns
returns c = refusals_stay c.one_answer.ensures c.read_stays.ensures
