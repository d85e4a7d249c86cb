use Rattle.std.proofs.Common.{ℤ, ◌≡◌, ◌+◌, ◌+ℤ◌, ◌/◌, FitsSigned, w64, rules, to_z, of_z, arith, ap, ◌∙◌}
use Rattle.std.specs.Int.{w128, int_min}
use Rattle.std.proofs.lemmas.Int.{to_z-of_z}
use Rattle.bound_graph.specs.Reverses.{is_back}
use Rattle.flow_core.specs.Layout.{nodes_of, arc_numbered}
use Rattle.flow_core.specs.State.{residual_of}
use Rattle.flow_core.proofs.Sizes.{arc_valid}
use Rattle.path_flow.specs.Reach.{lowered}
use Rattle.path_flow.specs.Search.{label_after}
use Rattle.path_flow.proofs.Shifting.{turned_valid}
use Rattle.path_flow.proofs.Lengths.{sum_fits}
use Rattle.path_flow.proofs.search.reach_over.Goals as goal

pub lower-requires-clause-node : goal.lower-requires-clause-node
lower-requires-clause-node c =
    let net = c.args.net.now in
    let valid = turned_valid (nodes_of net.network) (is_back c.args.number) (arc_numbered net.network (c.args.number / 2)) (arc_valid net.network (c.args.number / 2) c.requires.network.layout c.requires.number) in
    let head = valid.head in
    omega (arith, head, c.node_after.ensures, c.requires.size)

pub returns-then-residual-gt0-clause-some : goal.returns-then-residual-gt0-clause-some
returns-then-residual-gt0-clause-some c room =
    let net = c.args.net.now in
    let last = c.args.last in
    let distance_fits : FitsSigned w128 last.distance = search rules in
    let room_fits : FitsSigned w64 last.room = search rules in
    let long : to_z w128 (of_z w128 last.distance) +ℤ to_z w128 (of_z w128 c.step_length.result) ≡ (label_after net c.args.direction last c.args.number).distance =
    λ i. to_z-of_z w128 last.distance distance_fits i +ℤ (to_z-of_z w128 c.step_length.result (record { sfits = c.step_length.type_inv }) ∙ c.step_length.ensures.long) i in
    let sum = sum_fits last.distance c.step_length.result c.requires.near c.step_length.ensures.size in
    let whole : to_z w128 (of_z w128 (to_z w128 (of_z w128 last.distance) +ℤ to_z w128 (of_z w128 c.step_length.result))) ≡ (label_after net c.args.direction last c.args.number).distance =
    ap (λ (z : ℤ). to_z w128 (of_z w128 z)) (λ i. to_z-of_z w128 last.distance distance_fits i +ℤ to_z-of_z w128 c.step_length.result (record { sfits = c.step_length.type_inv }) i)
    ∙ to_z-of_z w128 (last.distance +ℤ c.step_length.result) sum ∙ ap (λ (z : ℤ). last.distance +ℤ z) c.step_length.ensures.long in
    let least : to_z w64 (of_z w64 c.min.result) ≡ (label_after net c.args.direction last c.args.number).room =
    to_z-of_z w64 c.min.result (record { sfits = c.min.type_inv }) ∙ c.min.ensures.value
    ∙ (λ i. int_min (to_z-of_z w64 last.room room_fits i) ((to_z-of_z w64 c.residual-residual.result (record { sfits = c.residual-residual.type_inv }) ∙ c.residual-residual.ensures ∙ ap (residual_of net (c.args.number / 2)) c.takes_from.ensures) i)) in
    c.lower.ensures ∙ (λ i. lowered c.args.labels.now (c.node_after.ensures i) (record { distance = whole i; number = c.args.number; hops = last.hops + 1; room = least i }))
