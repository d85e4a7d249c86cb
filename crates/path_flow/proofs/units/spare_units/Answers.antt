use Rattle.std.proofs.Common.{arith}
use Rattle.path_flow.proofs.Weighing.{most_small}
use Rattle.path_flow.proofs.units.spare_units.Goals as goal

pub less-requires-clause-units : goal.less-requires-clause-units
less-requires-clause-units c = omega (arith, c.requires.budget, most_small c.args.net.now.network c.requires.network.layout)

pub less-requires-clause-others : goal.less-requires-clause-others
less-requires-clause-others c = omega (arith, c.units_at_readings.ensures, c.requires.few, most_small c.args.net.now.network c.requires.network.layout)
