-- For proofs: searches over residual arcs, the paths that they find, and the potentials after them.
use Rattle.std.specs.Prelude.{◌≡◌, ◌≢◌, ◌⊎◌, ℕ, ◌+◌, ◌/◌, ◌^◌, ◌<◌, ◌≤◌, not, Bool, true, ℤ, pos, negsuc, ◌+ℤ◌, ◌-ℤ◌, ◌≤ℤ◌, ◌<ℤ◌, List, length, get_or, Option, Some, None, IfSome, unsigned_abs}
use Rattle.std.specs.Int.{int_min}
use Rattle.bound_graph.specs.declared.arc.Arc.{Arc}
use Rattle.bound_graph.specs.Values.{value_of}
use Rattle.bound_graph.specs.Reverses.{turned, is_back}
use Rattle.flow_core.specs.Layout.{arcs_of, arc_numbered, nodes_of}
use Rattle.flow_core.specs.State.{NetworkState, residual_of}
use Rattle.flow_core.specs.Views.{arc_both_ways}
use Rattle.path_flow.specs.declared.search.Direction.{Direction}
use Rattle.path_flow.specs.declared.search.Direction.TheVariants.{Forwards, Backwards}
use Rattle.path_flow.specs.declared.search.Task.{Task}
use Rattle.path_flow.specs.declared.search.Label.{Label}

-- ---- steps: over an arc, or over its reverse

-- whether a step takes from the flow of the arc: backwards, flow moves against the step
abbrev pub takes_from : Direction → Bool → Bool
takes_from Forwards back = back
takes_from Backwards back = not back

abbrev pub signed : Direction → ℤ → ℤ
signed Forwards z = z
signed Backwards z = pos 0 -ℤ z

-- what a step is long, by an arc and potentials: the reduced cost of what flow would move over
abbrev pub arc_length : Direction → List ℤ → Arc → ℤ
arc_length direction potentials arc = signed direction (arc.cost +ℤ (value_of potentials arc.tail -ℤ value_of potentials arc.head))

abbrev pub step_length : NetworkState → Direction → ℕ → Bool → ℤ
step_length net direction arc back = arc_length direction net.potentials (turned back (arc_numbered net.network arc))

-- Flow can move over a step.
pub record HasRoom (net : NetworkState) (direction : Direction) (arc : ℕ) (back : Bool) : Type 0 where
  pub below : arc < length (arcs_of net.network)
  pub room : pos 1 ≤ℤ residual_of net arc (takes_from direction back)

-- ---- what a search is for

-- flow can be taken to the node, or brought from it
abbrev pub IsOpposite : NetworkState → Direction → ℕ → Type 0
IsOpposite net Forwards node = value_of net.excesses node <ℤ pos 0
IsOpposite net Backwards node = pos 0 <ℤ value_of net.excesses node

abbrev pub IsEnd : NetworkState → Task → ℕ → Type 0
IsEnd net task node = ((node ≡ 0) × (task.ends_at_zero ≡ true)) ⊎ IsOpposite net task.direction node

-- ---- labels

-- how a node is reached by the step of a number, from a node that was reached so
abbrev pub label_after : NetworkState → Direction → Label → ℕ → Label
label_after net direction last number = record {
  distance = last.distance +ℤ step_length net direction (number / 2) (is_back number);
  number = number;
  hops = last.hops + 1;
  room = int_min last.room (residual_of net (number / 2) (takes_from direction (is_back number)));
}

abbrev pub label_at : List (Option Label) → ℕ → Option Label
label_at labels node = get_or labels node None

-- A node was reached by the step of its label's number, from a node that was reached before.
pub record IsReached (net : NetworkState) (direction : Direction) (labels : List (Option Label)) (node : ℕ) (label : Label) : Type 0 where
  pub step : HasRoom net direction (label.number / 2) (is_back label.number)
  pub head : (arc_both_ways net.network label.number).head ≡ node
  pub before : Label
  pub from : label_at labels (arc_both_ways net.network label.number).tail ≡ Some before
  pub hops : label.hops ≡ before.hops + 1
  pub distance : label.distance ≡ before.distance +ℤ step_length net direction (label.number / 2) (is_back label.number)
  pub some : pos 1 ≤ℤ label.room
  pub residual : label.room ≤ℤ residual_of net (label.number / 2) (takes_from direction (is_back label.number))
  pub no_more : label.room ≤ℤ before.room

-- The labels lead back to the source.
pub record IsTree (net : NetworkState) (task : Task) (labels : List (Option Label)) : Type 0 where
  pub size : length labels ≡ nodes_of net.network
  pub source : Label
  pub at_source : label_at labels task.source ≡ Some source
  pub nearest : source.distance ≡ pos 0
  pub no_hop : source.hops ≡ 0
  pub some : pos 1 ≤ℤ source.room
  pub room : source.room ≡ pos (unsigned_abs (value_of net.excesses task.source))
  pub reached : (node : ℕ) → node ≢ task.source → IfSome (label_at labels node) (IsReached net task.direction labels node)

-- A node was reached by the step of its label's number, whatever the potentials are.
pub record IsLinked (net : NetworkState) (direction : Direction) (labels : List (Option Label)) (node : ℕ) (label : Label) : Type 0 where
  pub step : HasRoom net direction (label.number / 2) (is_back label.number)
  pub head : (arc_both_ways net.network label.number).head ≡ node
  pub before : Label
  pub from : label_at labels (arc_both_ways net.network label.number).tail ≡ Some before
  pub hops : label.hops ≡ before.hops + 1
  pub no_farther : before.distance ≤ℤ label.distance
  pub some : pos 1 ≤ℤ label.room
  pub residual : label.room ≤ℤ residual_of net (label.number / 2) (takes_from direction (is_back label.number))
  pub no_more : label.room ≤ℤ before.room

-- The labels lead back to the source, whatever the potentials are.
pub record IsRooted (net : NetworkState) (task : Task) (labels : List (Option Label)) : Type 0 where
  pub size : length labels ≡ nodes_of net.network
  pub source : Label
  pub at_source : label_at labels task.source ≡ Some source
  pub no_hop : source.hops ≡ 0
  pub some : pos 1 ≤ℤ source.room
  pub room : source.room ≡ pos (unsigned_abs (value_of net.excesses task.source))
  pub linked : (node : ℕ) → node ≢ task.source → IfSome (label_at labels node) (IsLinked net task.direction labels node)

-- the node at the other end is labelled, and lies no farther than the step is long
pub record IsNear (from : Label) (length : ℤ) (to : Option Label) : Type 0 where
  pub label : Label
  pub is : to ≡ Some label
  pub near : label.distance ≤ℤ (from.distance +ℤ length)

-- Over each step with room, from a node that lies nearer than a distance, the node after it is near.
pub record IsSearched (net : NetworkState) (direction : Direction) (labels : List (Option Label)) (far : ℤ) : Type 0 where
  pub each : (arc : ℕ) (back : Bool) → HasRoom net direction arc back
      → (from : Label) → label_at labels (turned back (arc_numbered net.network arc)).tail ≡ Some from → from.distance <ℤ far
      → IsNear from (step_length net direction arc back) (label_at labels (turned back (arc_numbered net.network arc)).head)

-- An end was found, and no step from a node that lies nearer is left out.
pub record IsFound (net : NetworkState) (task : Task) (labels : List (Option Label)) (end : ℕ) : Type 0 where
  pub is_end : IsEnd net task end
  pub tree : IsTree net task labels
  pub label : Label
  pub is : label_at labels end ≡ Some label
  pub searched : IsSearched net task.direction labels label.distance

-- ---- potentials after a search

abbrev pub positive_part : ℤ → ℤ
positive_part (pos n) = pos n
positive_part (negsuc n) = pos 0

-- how much nearer than a distance a node lies
abbrev pub nearer : ℤ → Option Label → ℤ
nearer far None = pos 0
nearer far (Some label) = positive_part (far -ℤ label.distance)

-- The potential of a node after a search: less by how much nearer than the end the node lies, or more where the search went
-- backwards; as seen from node 0.
abbrev pub potential_after : Direction → List (Option Label) → ℤ → List ℤ → ℕ → ℤ
potential_after direction labels far old node = value_of old node -ℤ signed direction (nearer far (label_at labels node) -ℤ nearer far (label_at labels 0))

pub record IsShifted (direction : Direction) (labels : List (Option Label)) (far : ℤ) (nodes : ℕ) (old new : List ℤ) : Type 0 where
  pub each : (node : ℕ) → node < nodes → value_of new node ≡ potential_after direction labels far old node

-- the distances are small enough to be added
abbrev pub AreSmall : List (Option Label) → Type 0
AreSmall labels = (node : ℕ) → IfSome (label_at labels node) (λ label. unsigned_abs label.distance ≤ 10 ^ 30)
