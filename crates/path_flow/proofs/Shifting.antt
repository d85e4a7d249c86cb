-- Potentials shifted after a search: no residual arc has a negative reduced cost, and the path to the end is tight.
use Rattle.std.proofs.Common.{◌≡◌, ℕ, ◌<◌, Bool, true, false, ℤ, pos, negsuc, zero, suc, ◌+ℤ◌, ◌-ℤ◌, ◌≤ℤ◌, ◌<ℤ◌, ◌/◌, List, Option, None, Some, IfSome, length, refl, sym, ap, ◌∙◌, subst, arith}
use Rattle.std.specs.Prelude.{unsigned_abs}
use Rattle.std.proofs.lemmas.Int.{ints, by_lt_z}
use Rattle.bound_graph.specs.declared.arc.Arc.{Arc}
use Rattle.bound_graph.specs.Arcs.{IsArc}
use Rattle.bound_graph.specs.Values.{value_of}
use Rattle.bound_graph.specs.Reverses.{turned, is_back}
use Rattle.bound_graph.proofs.Reverses.{reversed_valid}
use Rattle.flow_core.specs.Layout.{FlowNetwork, IsLayout, arcs_of, arc_numbered, nodes_of}
use Rattle.flow_core.specs.State.{NetworkState, residual_of}
use Rattle.flow_core.specs.Views.{arc_both_ways}
use Rattle.flow_core.proofs.Sizes.{arc_valid}
use Rattle.path_flow.specs.declared.search.Direction.{Direction}
use Rattle.path_flow.specs.declared.search.Direction.TheVariants.{Forwards, Backwards}
use Rattle.path_flow.specs.declared.search.Label.{Label}
use Rattle.path_flow.specs.Steps.{ChangesPotentials, HasNoNegative, reduced_cost}
use Rattle.path_flow.specs.declared.search.Task.{Task}
use Rattle.path_flow.specs.Search.{IsLinked, IsReached, IsRooted, IsTree, takes_from, signed, arc_length, step_length, HasRoom, label_at, IsNear, IsSearched, positive_part, nearer, IsShifted}

-- ---- steps and reduced costs

length_not_negative : (net : NetworkState) (direction : Direction) (arc : ℕ) (back : Bool) → HasNoNegative net arc → pos 1 ≤ℤ residual_of net arc (takes_from direction back) → pos 0 ≤ℤ step_length net direction arc back
length_not_negative net Forwards arc true done room = let cost = done.back room in omega (arith, ints, cost)
length_not_negative net Forwards arc false done room = let cost = done.ahead room in omega (arith, ints, cost)
length_not_negative net Backwards arc true done room = let cost = done.ahead room in omega (arith, ints, cost)
length_not_negative net Backwards arc false done room = let cost = done.back room in omega (arith, ints, cost)

-- no step with room is shorter than 0
pub lengths_not_negative : (net : NetworkState) (direction : Direction) (arc : ℕ) (back : Bool) → ((k : ℕ) → k < length (arcs_of net.network) → HasNoNegative net k) → HasRoom net direction arc back → pos 0 ≤ℤ step_length net direction arc back
lengths_not_negative net direction arc back all step = length_not_negative net direction arc back (all arc step.below) step.room

-- and the other way round, for both steps over an arc
pub done_by_lengths : (net : NetworkState) (direction : Direction) (arc : ℕ) → ((back : Bool) → pos 1 ≤ℤ residual_of net arc (takes_from direction back) → pos 0 ≤ℤ step_length net direction arc back) → HasNoNegative net arc
done_by_lengths net Forwards arc each = record {
  ahead = λ room. let long = each false room in omega (arith, ints, long);
  back = λ some. let long = each true some in omega (arith, ints, long);
}
done_by_lengths net Backwards arc each = record {
  ahead = λ room. let long = each true room in omega (arith, ints, long);
  back = λ some. let long = each false some in omega (arith, ints, long);
}

-- An arc of which both steps are 0 long has none of negative reduced cost, whatever flows on it.
pub tight_done : (net : NetworkState) (arc : ℕ) → reduced_cost net arc ≡ pos 0 → HasNoNegative net arc
tight_done net arc tight = record { ahead = λ room. omega (arith, ints, tight); back = λ some. omega (arith, ints, tight) }

tight_by_length : (net : NetworkState) (direction : Direction) (arc : ℕ) (back : Bool) → step_length net direction arc back ≡ pos 0 → reduced_cost net arc ≡ pos 0
tight_by_length net Forwards arc true e = omega (arith, ints, e)
tight_by_length net Forwards arc false e = omega (arith, ints, e)
tight_by_length net Backwards arc true e = omega (arith, ints, e)
tight_by_length net Backwards arc false e = omega (arith, ints, e)

-- ---- how much nearer a node lies

part_above : (z : ℤ) → z ≤ℤ positive_part z
part_above (pos n) = omega (arith, ints)
part_above (negsuc n) = omega (arith, ints)

part_low : (z : ℤ) → pos 0 ≤ℤ positive_part z
part_low (pos n) = omega (arith, ints)
part_low (negsuc n) = omega (arith, ints)

part_of : (z : ℤ) → pos 0 ≤ℤ z → positive_part z ≡ z
part_of (pos n) low = refl
part_of (negsuc n) low = absurd (omega (arith, ints, low))

part_none : (z : ℤ) → z ≤ℤ pos 0 → positive_part z ≡ pos 0
part_none (pos zero) high = refl
part_none (pos (suc n)) high = absurd (omega (arith, ints, high))
part_none (negsuc n) high = refl

nearer_low : (far : ℤ) (label : Option Label) → pos 0 ≤ℤ nearer far label
nearer_low far None = omega (arith, ints)
nearer_low far (Some label) = part_low (far -ℤ label.distance)

-- a step takes no node more than its length nearer
nearer_step : (far long : ℤ) (from to : Option Label) → pos 0 ≤ℤ long → ((label : Label) → from ≡ Some label → label.distance <ℤ far → IsNear label long to) → (nearer far from -ℤ nearer far to) ≤ℤ long
nearer_step far long None to some near = let low = nearer_low far to in omega (arith, ints, low, some)
nearer_step far long (Some label) to some near =
    by_lt_z label.distance far
    (λ closer.
    let there = near label refl closer in
    let here = part_of (far -ℤ label.distance) (omega (arith, ints, closer)) in
    let after = ap (nearer far) there.is in
    let above = part_above (far -ℤ there.label.distance) in
    let bound = there.near in
    omega (arith, ints, here, after, above, bound))
    (λ farther.
    let here = part_none (far -ℤ label.distance) (omega (arith, ints, farther)) in
    let low = nearer_low far to in
    omega (arith, ints, here, low, some))

-- ---- after the shift

length_shifted : (direction : Direction) (old new : List ℤ) (arc : Arc) (at_tail at_head base : ℤ)
    → value_of new arc.tail ≡ value_of old arc.tail -ℤ signed direction (at_tail -ℤ base)
    → value_of new arc.head ≡ value_of old arc.head -ℤ signed direction (at_head -ℤ base)
    → arc_length direction new arc ≡ (arc_length direction old arc +ℤ at_head) -ℤ at_tail
length_shifted Forwards old new arc at_tail at_head base tail head = omega (arith, ints, tail, head)
length_shifted Backwards old new arc at_tail at_head base tail head = omega (arith, ints, tail, head)

pub turned_valid : (nodes : ℕ) (back : Bool) (arc : Arc) → IsArc nodes arc → IsArc nodes (turned back arc)
turned_valid nodes true arc valid = reversed_valid nodes arc valid
turned_valid nodes false arc valid = valid

length_after : (net new : NetworkState) (direction : Direction) (labels : List (Option Label)) (far : ℤ) (arc : ℕ) (back : Bool) → IsLayout net.network → arc < length (arcs_of net.network)
    → new.network ≡ net.network → IsShifted direction labels far (nodes_of net.network) net.potentials new.potentials
    → step_length new direction arc back
    ≡ (step_length net direction arc back +ℤ nearer far (label_at labels (turned back (arc_numbered net.network arc)).head)) -ℤ nearer far (label_at labels (turned back (arc_numbered net.network arc)).tail)
length_after net new direction labels far arc back layout below same shifted =
    let ends = turned back (arc_numbered net.network arc) in
    let valid = turned_valid (nodes_of net.network) back (arc_numbered net.network arc) (arc_valid net.network arc layout below) in
    ap (λ (n : FlowNetwork). arc_length direction new.potentials (turned back (arc_numbered n arc))) same
    ∙ length_shifted direction net.potentials new.potentials ends (nearer far (label_at labels ends.tail)) (nearer far (label_at labels ends.head)) (nearer far (label_at labels 0))
    (shifted.each ends.tail valid.tail) (shifted.each ends.head valid.head)

residual_kept : (net new : NetworkState) (arc : ℕ) (back : Bool) → ChangesPotentials net new → residual_of new arc back ≡ residual_of net arc back
residual_kept net new arc back changes = λ i. residual_of (record net { network = changes.network i; flows = changes.flows i }) arc back

-- after the shift no residual arc has a negative reduced cost
pub shifted_done : (net new : NetworkState) (direction : Direction) (labels : List (Option Label)) (far : ℤ) → IsLayout net.network
    → ((k : ℕ) → k < length (arcs_of net.network) → HasNoNegative net k) → IsSearched net direction labels far
    → ChangesPotentials net new → IsShifted direction labels far (nodes_of net.network) net.potentials new.potentials
    → (k : ℕ) → k < length (arcs_of net.network) → HasNoNegative new k
shifted_done net new direction labels far layout all searched changes shifted k below =
    done_by_lengths new direction k (λ back room.
    let ends = turned back (arc_numbered net.network k) in
    let step : HasRoom net direction k back = record { below = below; room = subst (λ (z : ℤ). pos 1 ≤ℤ z) (residual_kept net new k (takes_from direction back) changes) room } in
    let some = lengths_not_negative net direction k back all step in
    let bound = nearer_step far (step_length net direction k back) (label_at labels ends.tail) (label_at labels ends.head) some (searched.each k back step) in
    let after = length_after net new direction labels far k back layout below changes.network shifted in
    omega (arith, ints, bound, after))

-- after the shift a step by which a node was reached, no farther than the end, is 0 long
pub shifted_tight : (net new : NetworkState) (direction : Direction) (labels : List (Option Label)) (far : ℤ) (arc : ℕ) (back : Bool) (from to : Label) → IsLayout net.network → arc < length (arcs_of net.network)
    → new.network ≡ net.network → IsShifted direction labels far (nodes_of net.network) net.potentials new.potentials
    → label_at labels (turned back (arc_numbered net.network arc)).tail ≡ Some from → label_at labels (turned back (arc_numbered net.network arc)).head ≡ Some to
    → to.distance ≡ from.distance +ℤ step_length net direction arc back → pos 0 ≤ℤ step_length net direction arc back → to.distance ≤ℤ far
    → reduced_cost new arc ≡ pos 0
shifted_tight net new direction labels far arc back from to layout below same shifted at_tail at_head distance some near =
    let after = length_after net new direction labels far arc back layout below same shifted in
    let tail = ap (nearer far) at_tail ∙ part_of (far -ℤ from.distance) (omega (arith, ints, distance, some, near)) in
    let head = ap (nearer far) at_head ∙ part_of (far -ℤ to.distance) (omega (arith, ints, near)) in
    tight_by_length new direction arc back (omega (arith, ints, after, tail, head, distance))

-- ---- the path after the shift

linked_if : (net new : NetworkState) (direction : Direction) (labels : List (Option Label)) (node : ℕ) (option : Option Label) → ((k : ℕ) → k < length (arcs_of net.network) → HasNoNegative net k) → ChangesPotentials net new → IfSome option (IsReached net direction labels node) → IfSome option (IsLinked new direction labels node)
linked_if net new direction labels node None all changes reached = tt
linked_if net new direction labels node (Some label) all changes reached =
    let long = lengths_not_negative net direction (label.number / 2) (is_back label.number) all reached.step in
    let arc = label.number / 2 in
    let takes = takes_from direction (is_back label.number) in
    let ends : arc_both_ways new.network label.number ≡ arc_both_ways net.network label.number = ap (λ n. arc_both_ways n label.number) changes.network in
    let same = residual_kept net new arc takes changes in
    record {
      step = record { below = subst (λ (n : FlowNetwork). arc < length (arcs_of n)) (sym changes.network) reached.step.below; room = subst (λ (z : ℤ). pos 1 ≤ℤ z) (sym same) reached.step.room };
      head = ap (λ (a : Arc). a.head) ends ∙ reached.head;
      before = reached.before;
      from = ap (λ (a : Arc). label_at labels a.tail) ends ∙ reached.from;
      hops = reached.hops;
      no_farther = omega (arith, ints, long, reached.distance);
      some = reached.some;
      residual = subst (λ (z : ℤ). label.room ≤ℤ z) (sym same) reached.residual;
      no_more = reached.no_more;
    }

-- the labels still lead back to the source
pub rooted_after : (net new : NetworkState) (task : Task) (labels : List (Option Label)) → ((k : ℕ) → k < length (arcs_of net.network) → HasNoNegative net k) → IsTree net task labels → ChangesPotentials net new → IsRooted new task labels
rooted_after net new task labels all tree changes = record {
  size = tree.size ∙ ap nodes_of (sym changes.network);
  source = tree.source;
  at_source = tree.at_source;
  no_hop = tree.no_hop;
  some = tree.some;
  room = tree.room ∙ ap (λ (l : List ℤ). pos (unsigned_abs (value_of l task.source))) (sym changes.excesses);
  linked = λ node inner. linked_if net new task.direction labels node (label_at labels node) all changes (tree.reached node inner);
}
