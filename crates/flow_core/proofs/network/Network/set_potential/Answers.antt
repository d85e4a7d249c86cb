use Rattle.std.proofs.Common.{w64}
use Rattle.std.proofs.lemmas.Int.{to_z-of_z}
use Rattle.flow_core.proofs.Pushing.{network_with_potential}
use Rattle.flow_core.proofs.network.Network.set_potential.Goals as goal

pub returns-clause-network : goal.returns-clause-network
returns-clause-network c = network_with_potential _ c.args.node c.args.value _ c.self.invariant.network (to_z-of_z w64 c.args.value c.ranges.value) c.requires.size c.requires.zero
