-- For proofs: what holds while a search goes on.
use Rattle.std.specs.Prelude.{◌≡◌, ◌≢◌, ◌⊎◌, ℕ, ◌+◌, Bool, false, ℤ, pos, ◌≤ℤ◌, List, [], ◌∷◌, get_or, Option, Some, None}
use Rattle.bound_graph.specs.Reverses.{turned}
use Rattle.flow_core.specs.Layout.{arc_numbered}
use Rattle.flow_core.specs.State.{NetworkState, residual_of}
use Rattle.flow_core.specs.Views.{arc_both_ways}
use Rattle.path_flow.specs.declared.search.Task.{Task}
use Rattle.path_flow.specs.declared.search.Label.{Label}
use Rattle.path_flow.specs.Search.{HasRoom, IsEnd, IsNear, IsTree, label_at, step_length}
use Rattle.path_flow.specs.Reach.{IsKeyed, Reach}

-- the key of a node that waits in the heap
abbrev pub key_at : Reach → ℕ → Option ℤ
key_at reach node = get_or reach.keys node None

-- The node has its last label: it came out of the heap.
pub record IsSettled (reach : Reach) (node : ℕ) (label : Label) : Type 0 where
  pub is : label_at reach.labels node ≡ Some label
  pub out : key_at reach node ≡ None

-- Over each step with room from a settled node, but for those that are left, the node after it is near; no settled node lies
-- farther than one that waits, and none of them is an end.
pub record IsSearching (net : NetworkState) (task : Task) (left : ℕ → Bool → Type 0) (reach : Reach) : Type 0 where
  pub tree : IsTree net task reach.labels
  pub keyed : IsKeyed reach
  pub settled : (node : ℕ) (label : Label) → node ≢ task.source → label_at reach.labels node ≡ Some label → key_at reach (arc_both_ways net.network label.number).tail ≡ None
  pub closed : (arc : ℕ) (back : Bool) → HasRoom net task.direction arc back → (from : Label) → IsSettled reach (turned back (arc_numbered net.network arc)).tail from
      → left arc back ⊎ IsNear from (step_length net task.direction arc back) (label_at reach.labels (turned back (arc_numbered net.network arc)).head)
  pub order : (node : ℕ) (label : Label) (other : ℕ) (key : ℤ) → IsSettled reach node label → key_at reach other ≡ Some key → label.distance ≤ℤ key
  pub ends : (node : ℕ) (label : Label) → IsSettled reach node label → IsEnd net task node → ⊥
  pub started : (node : ℕ) (label : Label) → node ≢ task.source → label_at reach.labels node ≡ Some label → key_at reach task.source ≡ None

-- More can flow on each bound without a price.
abbrev pub AreFree : NetworkState → Type 0
AreFree net = (arc : ℕ) → get_or net.network.prices arc 1 ≡ 0 → pos 1 ≤ℤ residual_of net arc false

abbrev pub nothing_left : ℕ → Bool → Type 0
nothing_left arc back = ⊥

-- the steps from a node
abbrev pub StepsFrom : NetworkState → ℕ → ℕ → Bool → Type 0
StepsFrom net node arc back = (turned back (arc_numbered net.network arc)).tail ≡ node

-- how many nodes are not settled
abbrev pub one_if_open : Option Label → Option ℤ → ℕ
one_if_open None key = 1
one_if_open (Some label) (Some key) = 1
one_if_open (Some label) None = 0

abbrev pub open_nodes : List (Option Label) → List (Option ℤ) → ℕ
open_nodes [] keys = 0
open_nodes (label ∷ labels) [] = 0
open_nodes (label ∷ labels) (key ∷ keys) = one_if_open label key + open_nodes labels keys

-- The node was settled last: no settled node lies farther, and the source is settled.
pub record IsLast (task : Task) (reach : Reach) (node : ℕ) (label : Label) : Type 0 where
  pub settled : IsSettled reach node label
  pub farthest : (other : ℕ) (l : Label) → IsSettled reach other l → l.distance ≤ℤ label.distance
  pub source : key_at reach task.source ≡ None
