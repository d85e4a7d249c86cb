use Rattle.std.proofs.Common.{◌≡◌, ◌<◌, ◌/◌, ℕ, ℤ, pos, ◌≤ℤ◌, List, Option, Some, w64, to_z, of_z, length, sym, ap, ◌∙◌, subst, arith}
use Rattle.std.specs.Prelude.{FitsSigned}
use Rattle.std.proofs.lemmas.Int.{to_z-of_z, ints}
use Rattle.bound_graph.specs.Reverses.{is_back}
use Rattle.flow_core.specs.Layout.{FlowNetwork, arcs_of}
use Rattle.flow_core.specs.State.{NetworkState, pushed, residual_of}
use Rattle.flow_core.specs.Views.{arc_both_ways}
use Rattle.path_flow.specs.declared.search.Label.{Label}
use Rattle.path_flow.specs.Flow.{IsPushed}
use Rattle.path_flow.specs.Search.{label_at, takes_from}
use Rattle.path_flow.proofs.Augmenting.{optimal_pushed}
use Rattle.path_flow.proofs.Pathing.{nothing_pushed}
use Rattle.path_flow.proofs.Tracing.{at_end, linked_at, room_left, step_back}
use Rattle.path_flow.proofs.Trees.{same_label}
use Rattle.path_flow.proofs.augment.push_along.Invariants.{hops_of}
use Rattle.path_flow.proofs.augment.push_along.Goals as goal

amount_some : (amount : ℤ) → FitsSigned w64 amount → pos 1 ≤ℤ amount → pos 1 ≤ℤ to_z w64 (of_z w64 amount)
amount_some amount fits some = subst (λ (z : ℤ). pos 1 ≤ℤ z) (sym (to_z-of_z w64 amount fits)) some

pub loop-node-init : goal.loop-node-init
loop-node-init c =
    let labels = c.args.labels.now.labels in
    let room = c.requires.room in
    record {
      node = c.requires.end;
      pushed = nothing_pushed c.args.task labels c.args.end (to_z w64 (of_z w64 c.args.amount)) c.args.net.now (amount_some c.args.amount c.ranges.amount c.requires.some);
      network = c.requires.network;
      on = at_end labels c.args.end (to_z w64 (of_z w64 c.args.amount)) room.0 room.1 (subst (λ (z : ℤ). z ≤ℤ room.0.room) (sym (to_z-of_z w64 c.args.amount c.ranges.amount)) room.2);
    }

pub push-requires : goal.push-requires
push-requires c =
    let old = c.args.net.now in
    let net = c.loop-node.net in
    let labels = c.args.labels.now.labels in
    let label = c.in-Some.label in
    let is = c.loop-node.invariant in
    let amount = to_z w64 (of_z w64 c.args.amount) in
    let linked = linked_at old c.args.task labels c.loop-node.node label c.requires.tree c.loop-node-test.true (sym c.in-Some.ensures.label) in
    let takes = takes_from c.args.task.direction (is_back label.number) in
    let same = room_left old net c.args.task labels c.args.end c.loop-node.node amount label is.pushed c.loop-node-test.true (sym c.in-Some.ensures.label) takes in
    let room = subst (λ (l : Label). amount ≤ℤ l.room) (same_label (label_at labels c.loop-node.node) is.on.label label is.on.is (sym c.in-Some.ensures.label)) is.on.room in
    let least = linked.residual in
    record {
      arc = subst (λ (n : FlowNetwork). label.number / 2 < length (arcs_of n)) (sym is.pushed.network) linked.step.below;
      some = amount_some c.args.amount c.ranges.amount c.requires.some;
      room = subst (λ b. amount ≤ℤ residual_of net (label.number / 2) b) (sym c.takes_from.ensures) (subst (λ (z : ℤ). amount ≤ℤ z) (sym same) (omega (arith, ints, room, least)));
    }

pub loop-node-preserved : goal.loop-node-preserved
loop-node-preserved c =
    let old = c.args.net.now in
    let net = c.loop-node.net in
    let labels = c.args.labels.now.labels in
    let label = c.in-Some.label in
    let is = c.loop-node.invariant in
    let amount = to_z w64 (of_z w64 c.args.amount) in
    let room = c.requires.room in
    let new = c.push.ensures.pushed ∙ ap (λ b. pushed net (label.number / 2) b amount) c.takes_from.ensures in
    let before = c.node_before-node.ensures ∙ ap (λ (s : NetworkState). (arc_both_ways s.network label.number).tail) c.push.ensures.pushed in
    let back = step_back old net c.push.new.self c.args.task labels c.args.end c.loop-node.node c.node_before-node.result amount label c.requires.network is.network c.requires.tree c.requires.tight room.0 room.1
    is.pushed is.on c.loop-node-test.true (sym c.in-Some.ensures.label) (amount_some c.args.amount c.ranges.amount c.requires.some) new before in
    record { node = back.inside; pushed = back.pushed; network = c.push.ensures.network; on = back.on }

falls : (labels : List (Option Label)) (node before : ℕ) (first second : Label) → label_at labels node ≡ Some first → label_at labels before ≡ Some second → second.hops < first.hops
    → hops_of (label_at labels before) < hops_of (label_at labels node)
falls labels node before first second is_first is_second less = omega (arith, less, ap hops_of is_first, ap hops_of is_second)

pub loop-node-smaller : goal.loop-node-smaller
loop-node-smaller c =
    let old = c.args.net.now in
    let net = c.loop-node.net in
    let labels = c.args.labels.now.labels in
    let label = c.in-Some.label in
    let is = c.loop-node.invariant in
    let amount = to_z w64 (of_z w64 c.args.amount) in
    let room = c.requires.room in
    let new = c.push.ensures.pushed ∙ ap (λ b. pushed net (label.number / 2) b amount) c.takes_from.ensures in
    let before = c.node_before-node.ensures ∙ ap (λ (s : NetworkState). (arc_both_ways s.network label.number).tail) c.push.ensures.pushed in
    let back = step_back old net c.push.new.self c.args.task labels c.args.end c.loop-node.node c.node_before-node.result amount label c.requires.network is.network c.requires.tree c.requires.tight room.0 room.1
    is.pushed is.on c.loop-node-test.true (sym c.in-Some.ensures.label) (amount_some c.args.amount c.ranges.amount c.requires.some) new before in
    falls labels c.loop-node.node c.node_before-node.result label back.on.label (sym c.in-Some.ensures.label) back.on.is (back.hops label back.on.label (sym c.in-Some.ensures.label) back.on.is)

pub returns-in-None : goal.returns-in-None
returns-in-None c =
    let is = c.loop-node.invariant in
    absurd (let there = is.on.is in let none = c.in-None.ensures.label in let both = sym there ∙ sym none in cc)

pub returns-clause-pushed : goal.returns-clause-pushed
returns-clause-pushed c =
    let labels = c.args.labels.now.labels in
    subst (λ (z : ℤ). IsPushed c.args.task labels c.args.end c.args.task.source z c.args.net.now c.loop-node.net) (to_z-of_z w64 c.args.amount c.ranges.amount)
    (subst (λ n. IsPushed c.args.task labels c.args.end n (to_z w64 (of_z w64 c.args.amount)) c.args.net.now c.loop-node.net) c.loop-node-test.false c.loop-node.invariant.pushed)

pub returns-clause-optimal : goal.returns-clause-optimal
returns-clause-optimal c =
    optimal_pushed c.args.task c.args.labels.now.labels c.args.end c.loop-node.node (to_z w64 (of_z w64 c.args.amount)) c.args.net.now c.loop-node.net c.requires.optimal c.loop-node.invariant.pushed
