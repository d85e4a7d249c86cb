use Rattle.std.proofs.Common.{arith}
use Rattle.std.proofs.lemmas.Int.{ints}
use Rattle.flow_core.proofs.Sizes.{capacity_small}
use Rattle.path_flow.proofs.units.capacity.Goals as goal

pub whole-requires-clause-high : goal.whole-requires-clause-high
whole-requires-clause-high c =
    let small = capacity_small c.args.net.now.network c.args.arc c.requires.network.layout c.requires.arc in
    omega (arith, ints, small, c.flow.ensures, c.residual.ensures)
