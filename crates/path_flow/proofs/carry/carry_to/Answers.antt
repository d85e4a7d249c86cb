use Rattle.std.proofs.Common.{◌≡◌, ◌<◌, ℕ, List, length, get_or, sym, ap, ◌∙◌, subst}
use Rattle.bound_graph.specs.Graph.{leaving}
use Rattle.bound_graph.specs.Reverses.{with_reverses}
use Rattle.flow_core.specs.Layout.{FlowNetwork, arcs_of}
use Rattle.path_flow.proofs.Numbers.{IsLeaving, leaving_at}
use Rattle.path_flow.proofs.carry.carry_to.Goals as goal

-- the arcs that leave the node are the same ones in each iteration
leaves : (old network : FlowNetwork) (node i : ℕ) (first items : List ℕ) → network ≡ old → first ≡ leaving (with_reverses (arcs_of old)) node → items ≡ leaving (with_reverses (arcs_of network)) node
    → i < length first → IsLeaving network node (get_or items i 0)
leaves old network node i first items same first_is items_is below =
    let lists : first ≡ items = first_is ∙ ap (λ n. leaving (with_reverses (arcs_of n)) node) (sym same) ∙ sym items_is in
    leaving_at network node i items items_is (subst (λ (l : List ℕ). i < length l) lists below)

pub leads_on-requires-clause-number : goal.leads_on-requires-clause-number
leads_on-requires-clause-number c =
    let leave = leaves c.args.net.now.network c.loop-place.net.network c.args.node c.loop-place.place c.out_arcs-place-end.result.now c.out_arcs.result.now c.loop-place.invariant.carried.network
    c.out_arcs-place-end.ensures c.out_arcs.ensures c.loop-place-test.true in
    leave.below

pub carry_over-requires-clause-number : goal.carry_over-requires-clause-number
carry_over-requires-clause-number c =
    let leave = leaves c.args.net.now.network c.loop-place.net.network c.args.node c.loop-place.place c.out_arcs-place-end.result.now c.out_arcs.result.now c.loop-place.invariant.carried.network
    c.out_arcs-place-end.ensures c.out_arcs.ensures c.loop-place-test.true in
    leave.below

pub carry_over-requires-clause-tail : goal.carry_over-requires-clause-tail
carry_over-requires-clause-tail c =
    let leave = leaves c.args.net.now.network c.loop-place.net.network c.args.node c.loop-place.place c.out_arcs-place-end.result.now c.out_arcs.result.now c.loop-place.invariant.carried.network
    c.out_arcs-place-end.ensures c.out_arcs.ensures c.loop-place-test.true in
    leave.tail
