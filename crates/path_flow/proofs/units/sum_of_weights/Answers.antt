use Rattle.std.proofs.Common.{arith}
use Rattle.flow_core.proofs.Sizes.{weights_small}
use Rattle.path_flow.proofs.Weighing.{sum_within}
use Rattle.path_flow.proofs.units.sum_of_weights.Goals as goal

pub overflow_add-sum : goal.overflow_add-sum
overflow_add-sum c =
    let layout = c.requires.network.layout in
    let within = sum_within c.args.net.now.network.weights c.loop-reading.reading 0 400000000 (omega (arith, layout.weighted, c.loop-reading-test.true, c.nodes-reading-end.ensures.count)) (weights_small c.args.net.now.network layout) in
    record { fits = omega (arith, within, c.loop-reading.invariant, c.weight-sum.ensures) }
