-- For proofs: flow moved along a path, and the units that are left to be moved.
use Rattle.std.specs.Prelude.{◌≡◌, ◌≢◌, ℕ, ◌+◌, ◌/◌, ◌<◌, ◌≤◌, ◌==◌, not, Bool, if◌then◌else◌, ℤ, pos, ◌+ℤ◌, ◌-ℤ◌, ◌≤ℤ◌, ◌<ℤ◌, negsuc, ◌*◌, true, List, length, drop, sum, sum_by, get_or, Option, Some, unsigned_abs}
use Rattle.words.specs.Lists.{total}
use Rattle.bound_graph.specs.Values.{value_of}
use Rattle.flow_core.specs.Layout.{FlowNetwork, nodes_of}
use Rattle.flow_core.specs.State.{NetworkState, flow_on}
use Rattle.path_flow.specs.declared.search.Direction.{Direction}
use Rattle.path_flow.specs.declared.search.Direction.TheVariants.{Forwards, Backwards}
use Rattle.path_flow.specs.declared.search.Task.{Task}
use Rattle.path_flow.specs.declared.search.Label.{Label}
use Rattle.path_flow.specs.declared.carry.Purse.{Purse}
use Rattle.path_flow.specs.Steps.{HasNoNegatives, reduced_cost}
use Rattle.path_flow.specs.Search.{IsEnd, label_at, signed}

-- the weights and the prices together: the most units that are pushed
abbrev pub most_units : FlowNetwork → ℕ
most_units network = sum network.weights + sum network.prices

-- the sizes of the excesses of all readings together
abbrev pub units_left : NetworkState → ℕ
units_left net = sum_by unsigned_abs (drop 1 net.excesses)

abbrev pub positive_size : ℤ → ℕ
positive_size (pos n) = n
positive_size (negsuc n) = 0

-- the excesses of all nodes together, without the deficits
abbrev pub excess_units : NetworkState → ℕ
excess_units net = sum_by positive_size net.excesses

abbrev pub amount_if : Bool → ℤ → ℤ
amount_if b amount = if b then amount else pos 0

-- The arcs by which nodes were reached that lie no farther than this one are tight.
abbrev pub IsTightPath : NetworkState → Task → List (Option Label) → ℕ → Type 0
IsTightPath net task labels end = (x : ℕ) (label last : Label) → x ≢ task.source → label_at labels x ≡ Some label → label_at labels end ≡ Some last
    → label.distance ≤ℤ last.distance → reduced_cost net (label.number / 2) ≡ pos 0

-- An amount was pushed along a path from its end back to a node: over tight arcs alone, over each at most once, and over
-- none that lies nearer to the source.
pub record IsPushed (task : Task) (labels : List (Option Label)) (end node : ℕ) (amount : ℤ) (old new : NetworkState) : Type 0 where
  pub network : new.network ≡ old.network
  pub potentials : new.potentials ≡ old.potentials
  pub excesses : (x : ℕ) → x < nodes_of old.network
      → value_of new.excesses x ≡ (value_of old.excesses x +ℤ signed task.direction (amount_if (end == x) amount)) -ℤ signed task.direction (amount_if (node == x) amount)
  pub tight : (arc : ℕ) → reduced_cost old arc ≢ pos 0 → flow_on new arc ≡ flow_on old arc
  pub once : (arc : ℕ) → flow_on new arc ≤ℤ (flow_on old arc +ℤ amount)
  pub nearer : (x : ℕ) (label here : Label) → x ≢ task.source → label_at labels x ≡ Some label → label_at labels node ≡ Some here → label.hops ≤ here.hops
      → flow_on new (label.number / 2) ≡ flow_on old (label.number / 2)
  pub changes : (here last : Label) → label_at labels node ≡ Some here → label_at labels end ≡ Some last → new.changes + here.hops ≤ old.changes + last.hops

-- An amount was moved from the source of a search to an end, or the other way: no more than the source has, nor than an end
-- has that is not node 0 for want of a better one. The gain is what more the readings were relieved of than was moved.
pub record IsAugmented (task : Task) (old new : NetworkState) (gain : ℤ) : Type 0 where
  pub network : new.network ≡ old.network
  pub amount : ℕ
  pub end : ℕ
  pub inside : end < nodes_of old.network
  pub is_end : IsEnd old task end
  pub some : 1 ≤ amount
  pub within : amount ≤ unsigned_abs (value_of old.excesses task.source)
  pub opposite : ((end ≡ 0) × (task.ends_at_zero ≡ true) → ⊥) → amount ≤ unsigned_abs (value_of old.excesses end)
  pub excesses : (x : ℕ) → x < nodes_of old.network
      → value_of new.excesses x ≡ (value_of old.excesses x +ℤ signed task.direction (amount_if (end == x) (pos amount))) -ℤ signed task.direction (amount_if (task.source == x) (pos amount))
  pub flows : (arc : ℕ) → flow_on new arc ≤ℤ (flow_on old arc +ℤ pos amount)
  pub changes : new.changes ≤ old.changes + length old.network.values
  pub gain_is : gain ≡ amount_if (not (end == 0)) (pos amount)

-- a source has an excess where flow is moved forwards from it, and a deficit where it is moved backwards
abbrev pub HasSign : Direction → ℤ → Type 0
HasSign Forwards excess = pos 0 <ℤ excess
HasSign Backwards excess = excess <ℤ pos 0

-- What is left to be moved in a network: the readings below a node have no excess; a number of units may still be moved, by the
-- spare units more than stand at readings, and where that is fewer, no fewer than the excesses of all nodes; and so many
-- units are within what may still flow on bounds without a price, and within a bound on changes.
pub record IsLeft (network : FlowNetwork) (bound : ℕ) (net : NetworkState) (spare : ℤ) (node : ℕ) : Type 0 where
  pub same : net.network ≡ network
  pub budget : ℕ
  pub most : budget ≤ most_units network
  pub spare_is : spare ≡ pos budget -ℤ pos (units_left net)
  pub excess : spare <ℤ pos 0 → excess_units net ≤ budget
  pub free : (arc : ℕ) → get_or network.prices arc 1 ≡ 0 → (flow_on net arc +ℤ pos budget) ≤ℤ pos (most_units network)
  pub whole : total net.excesses ≡ pos 0
  pub few : units_left net ≤ 2 * most_units network
  pub changes : net.changes + length network.values * budget ≤ bound
  pub done : (x : ℕ) → 1 ≤ x → x < node → value_of net.excesses x ≡ pos 0

-- What holds while excess is carried over tight arcs: no node lacks what a purse keeps for it. The excesses of all nodes
-- together are within the need, and the flows on bounds without a price leave room for it.
pub record IsCovered (purse : Purse) (net : NetworkState) : Type 0 where
  pub optimal : HasNoNegatives net
  pub limit : purse.limit + purse.need ≡ most_units net.network
  pub top : purse.top ≤ purse.limit
  pub free : (arc : ℕ) → get_or net.network.prices arc 1 ≡ 0 → flow_on net arc ≤ℤ pos purse.top
  pub excess : excess_units net ≤ purse.need
  pub whole : total net.excesses ≡ pos 0

-- Excess was carried: the need stays, and each change of flow is paid for.
pub record IsCarried (before purse : Purse) (old new : NetworkState) : Type 0 where
  pub network : new.network ≡ old.network
  pub need : purse.need ≡ before.need
  pub changes : new.changes + purse.pool ≤ old.changes + before.pool
