use Rattle.std.proofs.Common.{length, arith}
use Rattle.path_flow.proofs.Weighing.{most_small}
use Rattle.path_flow.proofs.Carrying.{budget_paid}
use Rattle.path_flow.proofs.carry.budget.Goals as goal

pub overflow_add-purse : goal.overflow_add-purse
overflow_add-purse c = record { fits = omega (arith, c.requires.covered.limit, most_small c.args.net.now.network c.requires.network.layout) }

pub returns-clause-pool : goal.returns-clause-pool
returns-clause-pool c =
    budget_paid (length c.args.net.now.network.values) c.max-readings.result c.args.purse.need c.args.purse.pool c.min.result
    (omega (arith, c.max-readings.ensures, c.from.ensures, c.nodes.ensures.count))
    (omega (arith, c.min.ensures, c.saturating_add-by_pushes.ensures))
