use Rattle.std.proofs.Common.{arith}
use Rattle.flow_core.proofs.Sizes.{length-arcs_of}
use Rattle.path_flow.proofs.chains.arc_to.Goals as goal

pub returns : goal.returns
returns c = omega (arith, c.arcs.ensures, c.nodes.ensures.count, c.requires.reading, c.requires.node, length-arcs_of c.args.net.now.network)

pub overflow_sub-result-2 : goal.overflow_sub-result-2
overflow_sub-result-2 c = omega (arith, c.arcs.ensures, c.nodes.ensures.count, c.requires.reading, length-arcs_of c.args.net.now.network)
