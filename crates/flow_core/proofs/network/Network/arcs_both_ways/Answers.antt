use Rattle.std.proofs.Common.{List, Option, Some, length, ap, ◌∙◌}
use Rattle.std.proofs.lemmas.List.{length-map}
use Rattle.bound_graph.specs.declared.arc.Arc.{Arc}
use Rattle.bound_graph.specs.Reverses.{with_reverses}
use Rattle.bound_graph.proofs.Reverses.{length-with_reverses}
use Rattle.flow_core.specs.Layout.{arcs_of}
use Rattle.flow_core.specs.State.{NetworkState}
use Rattle.flow_core.proofs.network.Network.arcs_both_ways.Goals as goal

pub returns : goal.returns
returns c =
    let graph = c.self.invariant.arcs ∙ ap (λ (net : NetworkState). with_reverses (arcs_of net.network)) c.self.view_is in
    c.arcs.ensures
    ∙ length-map {A = Arc} {B = Option Arc} c.self.inside.graph.arcs Some
    ∙ ap (λ (arcs : List Arc). length arcs) graph
    ∙ length-with_reverses (arcs_of c.args.self.now.network)
