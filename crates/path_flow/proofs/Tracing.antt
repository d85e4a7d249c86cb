-- A path is gone back from its end, and flow pushed over its arcs.
use Rattle.std.proofs.Common.{◌≡◌, ◌≢◌, ℕ, ◌/◌, ◌<◌, ℤ, pos, ◌-ℤ◌, ◌≤ℤ◌, Bool, true, false, List, Option, Some, IfSome, sym, ap, ◌∙◌, subst, arith}
use Rattle.std.proofs.lemmas.Int.{ints}
use Rattle.bound_graph.specs.Reverses.{is_back}
use Rattle.flow_core.specs.Layout.{FlowNetwork, arc_numbered, capacity_numbered, nodes_of}
use Rattle.flow_core.specs.State.{NetworkState, IsNetwork, flow_on, pushed, residual_of}
use Rattle.flow_core.specs.Views.{arc_both_ways}
use Rattle.flow_core.proofs.Sizes.{arc_valid}
use Rattle.path_flow.specs.declared.search.Task.{Task}
use Rattle.path_flow.specs.declared.search.Label.{Label}
use Rattle.path_flow.specs.Flow.{IsPushed, IsTightPath}
use Rattle.path_flow.specs.Search.{IsLinked, IsRooted, label_at, takes_from}
use Rattle.path_flow.proofs.Pathing.{pushed_more}
use Rattle.path_flow.proofs.Shifting.{turned_valid}
use Rattle.path_flow.proofs.Trees.{same_label}

-- where the path is at a node: it was reached on a way with room for the amount, no farther than the end
pub record IsOnPath (labels : List (Option Label)) (end node : ℕ) (amount : ℤ) : Type 0 where
  pub label : Label
  pub is : label_at labels node ≡ Some label
  pub room : amount ≤ℤ label.room
  pub near : (last : Label) → label_at labels end ≡ Some last → label.distance ≤ℤ last.distance

pub at_end : (labels : List (Option Label)) (end : ℕ) (amount : ℤ) (label : Label) → label_at labels end ≡ Some label → amount ≤ℤ label.room → IsOnPath labels end end amount
at_end labels end amount label is room = record {
  label = label;
  is = is;
  room = room;
  near = λ last is_last. let same = ap (λ (l : Label). l.distance) (same_label (label_at labels end) label last is is_last) in omega (arith, ints, same);
}

pub linked_at : (net : NetworkState) (task : Task) (labels : List (Option Label)) (node : ℕ) (label : Label) → IsRooted net task labels → node ≢ task.source → label_at labels node ≡ Some label → IsLinked net task.direction labels node label
linked_at net task labels node label rooted inner is = subst (λ (option : Option Label). IfSome option (IsLinked net task.direction labels node)) is (rooted.linked node inner)

both : (back : Bool) (arc : ℕ) (net old : NetworkState) → net.network ≡ old.network → flow_on net arc ≡ flow_on old arc → residual_of net arc back ≡ residual_of old arc back
both true arc net old network flow = flow
both false arc net old network flow = λ i. pos (capacity_numbered (network i) arc) -ℤ flow i

-- the residual of the next arc is as it was
pub room_left : (old net : NetworkState) (task : Task) (labels : List (Option Label)) (end node : ℕ) (amount : ℤ) (label : Label) → IsPushed task labels end node amount old net → node ≢ task.source → label_at labels node ≡ Some label
    → (back : Bool) → residual_of net (label.number / 2) back ≡ residual_of old (label.number / 2) back
room_left old net task labels end node amount label pushed inner is back =
    let same : flow_on net (label.number / 2) ≡ flow_on old (label.number / 2) = pushed.nearer node label label inner is is (omega arith) in
    both back (label.number / 2) net old pushed.network same

pub record IsStepBack (old new : NetworkState) (task : Task) (labels : List (Option Label)) (end node before : ℕ) (amount : ℤ) : Type 0 where
  pub inside : before < nodes_of old.network
  pub pushed : IsPushed task labels end before amount old new
  pub on : IsOnPath labels end before amount
  pub hops : (here last : Label) → label_at labels node ≡ Some here → label_at labels before ≡ Some last → last.hops < here.hops

pub step_back : (old net new : NetworkState) (task : Task) (labels : List (Option Label)) (end node before : ℕ) (amount : ℤ) (label : Label) → IsNetwork old → IsNetwork net → IsRooted old task labels → IsTightPath old task labels end → (last : Label) → label_at labels end ≡ Some last
    → IsPushed task labels end node amount old net → IsOnPath labels end node amount → node ≢ task.source → label_at labels node ≡ Some label → pos 1 ≤ℤ amount
    → new ≡ pushed net (label.number / 2) (takes_from task.direction (is_back label.number)) amount → before ≡ (arc_both_ways net.network label.number).tail
    → IsStepBack old new task labels end node before amount
step_back old net new task labels end node before amount label is network rooted tight last is_last so_far on inner is_node some push before_is =
    let linked = linked_at old task labels node label rooted inner is_node in
    let same = same_label (label_at labels node) on.label label on.is is_node in
    let near = subst (λ (l : Label). l.distance ≤ℤ last.distance) same (on.near last is_last) in
    let room = subst (λ (l : Label). amount ≤ℤ l.room) same on.room in
    let arc_tight = tight node label last inner is_node is_last near in
    let more = pushed_more task labels end node amount old net new label so_far network some inner is_node linked arc_tight (λ x l apart there. linked_at old task labels x l rooted apart there) push in
    let tail : (arc_both_ways old.network label.number).tail ≡ before = ap (λ (n : FlowNetwork). (arc_both_ways n label.number).tail) (sym so_far.network) ∙ sym before_is in
    let valid = turned_valid (nodes_of old.network) (is_back label.number) (arc_numbered old.network (label.number / 2)) (arc_valid old.network (label.number / 2) is.layout linked.step.below) in
    let from : label_at labels before ≡ Some linked.before = ap (label_at labels) (sym tail) ∙ linked.from in
    let closer = linked.no_farther in
    let less = linked.no_more in
    record {
      inside = subst (λ n. n < nodes_of old.network) tail valid.tail;
      pushed = subst (λ n. IsPushed task labels end n amount old new) tail more;
      on = record {
        label = linked.before;
        is = from;
        room = omega (arith, ints, room, less);
        near = λ l is_l. let far = ap (λ (x : Label). x.distance) (same_label (label_at labels end) l last is_l is_last) in omega (arith, ints, near, closer, far);
      };
      hops = λ here earlier is_here is_earlier.
          let first = ap (λ (x : Label). x.hops) (same_label (label_at labels node) here label is_here is_node) in
          let second = ap (λ (x : Label). x.hops) (same_label (label_at labels before) earlier linked.before is_earlier from) in
          omega (arith, first, second, linked.hops);
    }
