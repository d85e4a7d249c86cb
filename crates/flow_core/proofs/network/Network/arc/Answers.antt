use Rattle.std.proofs.Common.{◌≡◌, ◌*◌, List, map, Some, ap, ◌∙◌, subst, rules, arith}
use Rattle.bound_graph.specs.declared.arc.Arc.{Arc}
use Rattle.bound_graph.specs.Arcs.{arc_at}
use Rattle.bound_graph.specs.Reverses.{with_reverses}
use Rattle.bound_graph.proofs.Reverses.{arc_there}
use Rattle.flow_core.specs.Layout.{arcs_of, arc_numbered}
use Rattle.flow_core.specs.State.{NetworkState, IsNetwork}
use Rattle.flow_core.proofs.Sizes.{few_arcs}
use Rattle.flow_core.proofs.network.Network.arc.Goals as goal

pub overflow_mul-arc : goal.overflow_mul-arc
overflow_mul-arc c =
    let is : IsNetwork c.args.self.now = subst IsNetwork c.self.view_is c.self.invariant.network in
    omega (arith, few_arcs c.args.self.now.network is.layout)

pub unwrap-requires : goal.unwrap-requires
unwrap-requires c =
    let graph = c.self.invariant.arcs ∙ ap (λ (net : NetworkState). with_reverses (arcs_of net.network)) c.self.view_is in
    let found : c.arc.result ≡ Some (arc_numbered c.args.self.now.network c.args.arc) =
    c.arc.ensures.found ∙ ap (λ (arcs : List Arc). arc_at (map Some arcs) (2 * c.args.arc)) graph ∙ arc_there (arcs_of c.args.self.now.network) c.args.arc c.requires in
    rw found (search rules)

pub returns : goal.returns
returns c =
    let graph = c.self.invariant.arcs ∙ ap (λ (net : NetworkState). with_reverses (arcs_of net.network)) c.self.view_is in
    let found : c.arc.result ≡ Some (arc_numbered c.args.self.now.network c.args.arc) =
    c.arc.ensures.found ∙ ap (λ (arcs : List Arc). arc_at (map Some arcs) (2 * c.args.arc)) graph ∙ arc_there (arcs_of c.args.self.now.network) c.args.arc c.requires in
    let read = c.unwrap.ensures in
    cc
