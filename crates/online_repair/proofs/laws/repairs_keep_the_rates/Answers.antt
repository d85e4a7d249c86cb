use Rattle.online_repair.proofs.Lawful.{keep_rates}
use Rattle.online_repair.proofs.laws.repairs_keep_the_rates.Goals as goal

pub returns : goal.returns
returns c = keep_rates c.results_keep_the_rates.ensures
