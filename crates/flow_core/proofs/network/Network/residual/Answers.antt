use Rattle.std.proofs.Common.{◌<◌, ◌-ℤ◌, pos, length, sym, ap, ◌∙◌, subst, rules, arith, w64, of_z, to_z}
use Rattle.std.specs.Prelude.{FitsSigned}
use Rattle.std.proofs.lemmas.Int.{to_z-of_z, fits_signed_from_abs}
use Rattle.std.proofs.lemmas.List.{get_or_read}
use Rattle.flow_core.specs.Layout.{arcs_of, capacity_numbered}
use Rattle.flow_core.specs.State.{NetworkState, IsNetwork, flow_on, residual_of}
use Rattle.flow_core.proofs.Sizes.{length-flows, residual_small}
use Rattle.flow_core.proofs.network.Network.residual.Goals as goal

pub index-flow-requires : goal.index-flow-requires
index-flow-requires c =
    let long = length-flows _ c.self.invariant.network in
    let same = ap (λ (net : NetworkState). length (arcs_of net.network)) c.self.view_is in
    omega arith

pub returns-then-back : goal.returns-then-back
returns-then-back c =
    let long = length-flows _ c.self.invariant.network in
    let same = ap (λ (net : NetworkState). length (arcs_of net.network)) c.self.view_is in
    let below : c.args.arc < length c.self.inside.flows.items = omega arith in
    let fits : FitsSigned w64 c.index-flow.result.now = search rules in
    to_z-of_z w64 c.index-flow.result.now fits ∙ get_or_read c.self.inside.flows.items c.args.arc c.index-flow.result.now below c.index-flow.ensures (pos 0)
    ∙ ap (λ (net : NetworkState). flow_on net c.args.arc) c.self.view_is
    ∙ ap (λ back. residual_of c.args.self.now c.args.arc back) (sym c.if-back.true)

pub overflow_sub-result : goal.overflow_sub-result
overflow_sub-result c =
    let long = length-flows _ c.self.invariant.network in
    let same = ap (λ (net : NetworkState). length (arcs_of net.network)) c.self.view_is in
    let below : c.args.arc < length c.self.inside.flows.items = omega arith in
    let fits : FitsSigned w64 c.index-flow.result.now = search rules in
    let flow = to_z-of_z w64 c.index-flow.result.now fits ∙ get_or_read c.self.inside.flows.items c.args.arc c.index-flow.result.now below c.index-flow.ensures (pos 0) ∙ ap (λ (net : NetworkState). flow_on net c.args.arc) c.self.view_is in
    let can_hold : FitsSigned w64 c.capacity.result = search rules in
    let capacity = to_z-of_z w64 c.capacity.result can_hold ∙ c.capacity.ensures in
    let is : IsNetwork c.args.self.now = subst IsNetwork c.self.view_is c.self.invariant.network in
    let small = residual_small c.args.self.now c.args.arc is c.requires in
    rw (capacity, flow) (fits_signed_from_abs w64 (pos (capacity_numbered c.args.self.now.network c.args.arc) -ℤ flow_on c.args.self.now c.args.arc) (omega (arith, small)))

pub returns-else-back : goal.returns-else-back
returns-else-back c =
    let long = length-flows _ c.self.invariant.network in
    let same = ap (λ (net : NetworkState). length (arcs_of net.network)) c.self.view_is in
    let below : c.args.arc < length c.self.inside.flows.items = omega arith in
    let fits : FitsSigned w64 c.index-flow.result.now = search rules in
    let flow = to_z-of_z w64 c.index-flow.result.now fits ∙ get_or_read c.self.inside.flows.items c.args.arc c.index-flow.result.now below c.index-flow.ensures (pos 0) ∙ ap (λ (net : NetworkState). flow_on net c.args.arc) c.self.view_is in
    let can_hold : FitsSigned w64 c.capacity.result = search rules in
    let capacity = to_z-of_z w64 c.capacity.result can_hold ∙ c.capacity.ensures in
    let is : IsNetwork c.args.self.now = subst IsNetwork c.self.view_is c.self.invariant.network in
    let small = residual_small c.args.self.now c.args.arc is c.requires in
    let difference = pos (capacity_numbered c.args.self.now.network c.args.arc) -ℤ flow_on c.args.self.now c.args.arc in
    (λ i. to_z w64 (of_z w64 (capacity i -ℤ flow i))) ∙ to_z-of_z w64 difference (fits_signed_from_abs w64 difference (omega (arith, small)))
    ∙ ap (λ back. residual_of c.args.self.now c.args.arc back) (sym c.if-back.false)
