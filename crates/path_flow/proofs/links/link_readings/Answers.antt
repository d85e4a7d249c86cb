use Rattle.std.proofs.Common.{arith}
use Rattle.path_flow.proofs.links.link_readings.Goals as goal

pub overflow_mul-bound : goal.overflow_mul-bound
overflow_mul-bound c = record { fits = omega (arith, c.nodes-nodes.ensures.network.layout.few_bounds, c.bounds-bound-end.ensures, c.loop-bound-test.true) }
