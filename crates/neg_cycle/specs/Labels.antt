-- For proofs: the labels of nodes, which are a distance, a parent and a rank for each.
use Rattle.std.specs.Prelude.{◌≡◌, ℕ, ◌-◌, ◌*◌, ◌^◌, ◌<◌, ◌≤◌, Bool, true, false, ℤ, pos, ◌+ℤ◌, ◌≤ℤ◌, ◌<ℤ◌, ◌⊎◌, List, length, map, reverse, take, drop, Option, None, Some, get_or, All, MatchOption}
use Rattle.words.specs.Lists.{total}
use Rattle.bound_graph.specs.declared.arc.Arc.{Arc}
use Rattle.bound_graph.specs.Arcs.{arc_at, IsArc}
use Rattle.bound_graph.specs.Values.{RespectsArcs}
use Rattle.neg_cycle.specs.Distances.{AreAtMost}
use Rattle.bound_graph.specs.Cycle.{IsNegativeCycle}
use Rattle.neg_cycle.specs.Forest.{parent_at}
use Rattle.neg_cycle.specs.declared.forest.Parent.{Parent}
use Rattle.neg_cycle.specs.declared.labels.Labels.{Labels}

-- The arc of the parent is there, from its tail to the node, and its sum at the tail is at most the node's
-- distance. Where the sum is not below that, the tail has the lower rank.
pub record IsParentOf (arcs : List (Option Arc)) (distances : List ℤ) (ranks : List ℕ) (node : ℕ) (parent : Parent) : Type 0 where
  pub arc : Arc
  pub there : arc_at arcs parent.arc ≡ Some arc
  pub valid : IsArc (length distances) arc
  pub tail : arc.tail ≡ parent.tail
  pub head : arc.head ≡ node
  pub reached : (get_or distances parent.tail (pos 0) +ℤ arc.cost) ≤ℤ get_or distances node (pos 0)
  pub strict : ((get_or distances parent.tail (pos 0) +ℤ arc.cost) <ℤ get_or distances node (pos 0)) ⊎ (get_or ranks parent.tail 0 < get_or ranks node 0)

-- the distance is no further below 0 than so many of the greatest costs
abbrev pub IsWithin : ℕ → ℤ → Type 0
IsWithin costs distance = pos 0 ≤ℤ (distance +ℤ pos (4 * 10 ^ 15 * costs))

-- Each node has a rank below the bound, and a parent or none. Its distance is at most the greatest cost, and no further
-- below 0 than the bound times that; if it has no parent, no further than once that.
pub record IsLabelling (arcs : List (Option Arc)) (bound : ℕ) (distances : List ℤ) (parents : List (Option Parent)) (ranks : List ℕ) : Type 0 where
  pub parents_of : length parents ≡ length distances
  pub ranks_of : length ranks ≡ length distances
  pub bounded : (node : ℕ) → node < length distances → get_or ranks node 0 < bound
  pub high : (node : ℕ) → node < length distances → get_or distances node (pos 0) ≤ℤ pos (4 * 10 ^ 15)
  pub low : (node : ℕ) → node < length distances → IsWithin bound (get_or distances node (pos 0))
  pub each : (node : ℕ) → node < length distances → MatchOption (parent_at parents node) (IsWithin 1 (get_or distances node (pos 0))) (IsParentOf arcs distances ranks node)

-- the same of labels as they stand in memory
abbrev pub AreLabels : List (Option Arc) → ℕ → Labels → Type 0
AreLabels arcs bound labels = IsLabelling arcs bound labels.distances.items labels.parents.items labels.ranks.items

-- The new distances are at most the old ones, and no list that respects the arcs and is at most the old ones is anywhere above them.
pub record Lowers (arcs : List (Option Arc)) (old new : List ℤ) : Type 0 where
  pub below : AreAtMost new old
  pub keeps : (other : List ℤ) → AreAtMost other old → RespectsArcs other arcs → AreAtMost other new

-- what became of distances, by whether any was lowered
abbrev pub Fell : Bool → List ℤ → List ℤ → Type 0
Fell false old new = new ≡ old
Fell true old new = total new <ℤ total old

-- the number of the arc that a node has from its parent, and 0 where it has none
abbrev pub parent_arc : Option Parent → ℕ
parent_arc None = 0
parent_arc (Some parent) = parent.arc

-- the numbers of the arcs that nodes have from their parents, from the last node to the first
abbrev pub parent_arcs : List (Option Parent) → List ℕ → List ℕ
parent_arcs parents nodes = map (λ node. parent_arc (parent_at parents node)) (reverse nodes)

-- The nodes of the path from `start` up to `end` have parents, whose arcs are a cycle with a negative sum.
pub record HoldsCycle (arcs : List (Option Arc)) (parents : List (Option Parent)) (path : List ℕ) (start end : ℕ) : Type 0 where
  pub ordered : start ≤ end
  pub within : end ≤ length path
  pub nodes : All (λ node. node < length parents) (take (end - start) (drop start path))
  pub negative : IsNegativeCycle arcs (parent_arcs parents (take (end - start) (drop start path)))

-- a room's lists have an entry for each node, and its cycle stands within the list for it
pub record IsRoom (nodes parents ranks path list cycle_len : ℕ) : Type 0 where
  pub has_parents : parents ≡ nodes
  pub has_ranks : ranks ≡ nodes
  pub has_path : path ≡ nodes
  pub has_list : list ≡ nodes
  pub within : cycle_len ≤ list
  pub few : nodes < 2 ^ 32
