use Rattle.least_cost.proofs.Answering.{without_series}
use Rattle.least_cost.proofs.repair.no_series.Goals as goal

pub returns-clause-answer : goal.returns-clause-answer
returns-clause-answer c = without_series c.args.problem.now c.args.net.now c.args.room.now.cycle c.in_ok-cycle.cycle c.requires.solvable c.requires.network c.requires.cycle c.in_ok-cycle.ensures
