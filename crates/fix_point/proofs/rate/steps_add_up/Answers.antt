use Rattle.fix_point.proofs.Rates.{floors_add_up, ceils_add_up}
use Rattle.fix_point.proofs.rate.steps_add_up.Goals as goal

pub returns-clause-floors : goal.returns-clause-floors
returns-clause-floors c = floors_add_up

pub returns-clause-ceils : goal.returns-clause-ceils
returns-clause-ceils c = ceils_add_up
