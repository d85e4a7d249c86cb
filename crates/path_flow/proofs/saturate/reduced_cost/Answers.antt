use Rattle.std.proofs.Common.{◌<◌, sym, subst}
use Rattle.bound_graph.specs.declared.arc.Arc.{Arc}
use Rattle.flow_core.specs.Layout.{nodes_of}
use Rattle.flow_core.proofs.Sizes.{arc_valid}
use Rattle.path_flow.proofs.saturate.reduced_cost.Goals as goal

pub potential-requires : goal.potential-requires
potential-requires c =
    subst (λ (a : Arc). a.tail < nodes_of c.args.net.now.network) (sym c.arc-ends.ensures) (arc_valid c.args.net.now.network c.args.arc c.requires.network.layout c.requires.arc).tail

pub potential-requires-2 : goal.potential-requires-2
potential-requires-2 c =
    subst (λ (a : Arc). a.head < nodes_of c.args.net.now.network) (sym c.arc-ends.ensures) (arc_valid c.args.net.now.network c.args.arc c.requires.network.layout c.requires.arc).head
