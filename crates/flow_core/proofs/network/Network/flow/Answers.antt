use Rattle.std.proofs.Common.{◌<◌, pos, length, ap, ◌∙◌, rules, arith, w64}
use Rattle.std.specs.Prelude.{FitsSigned}
use Rattle.std.proofs.lemmas.Int.{to_z-of_z}
use Rattle.std.proofs.lemmas.List.{get_or_read}
use Rattle.flow_core.specs.Layout.{arcs_of}
use Rattle.flow_core.specs.State.{NetworkState, flow_on}
use Rattle.flow_core.proofs.Sizes.{length-flows}
use Rattle.flow_core.proofs.network.Network.flow.Goals as goal

pub index-requires : goal.index-requires
index-requires c =
    let long = length-flows _ c.self.invariant.network in
    let same = ap (λ (net : NetworkState). length (arcs_of net.network)) c.self.view_is in
    omega arith

pub returns : goal.returns
returns c =
    let long = length-flows _ c.self.invariant.network in
    let same = ap (λ (net : NetworkState). length (arcs_of net.network)) c.self.view_is in
    let below : c.args.arc < length c.self.inside.flows.items = omega arith in
    let fits : FitsSigned w64 c.index.result.now = search rules in
    to_z-of_z w64 c.index.result.now fits ∙ get_or_read c.self.inside.flows.items c.args.arc c.index.result.now below c.index.ensures (pos 0) ∙ ap (λ (net : NetworkState). flow_on net c.args.arc) c.self.view_is
