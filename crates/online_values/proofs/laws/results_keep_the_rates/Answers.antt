use Rattle.online_values.proofs.Keeping.{keeps_rates}
use Rattle.online_values.proofs.laws.results_keep_the_rates.Goals as goal

pub returns : goal.returns
returns c = keeps_rates
