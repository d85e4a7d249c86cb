-- For proofs: the nodes that a search has reached, and those of them that wait in the heap.
use Rattle.std.specs.Prelude.{◌≡◌, ℕ, ◌^◌, ◌<◌, ◌≤◌, ◌++◌, true, Bool, if◌then◌else◌, ℤ, List, [], ◌∷◌, length, get_or, slice_set, replicate, Option, Some, None, is_some, int_lt, IfSome, Contains}
use Rattle.std.specs.List.{AllByRecursion}
use Rattle.words.specs.Lists.{Distinct}
use Rattle.path_flow.specs.declared.search.Label.{Label}
use Rattle.path_flow.specs.Search.{label_at}

-- a label for each node that was reached, the keys of those that wait, and the nodes in the order in which they were reached
pub record Reach : Type 0 where
  pub labels : List (Option Label)
  pub keys : List (Option ℤ)
  pub reached : List ℕ

abbrev pub nothing_reached : ℕ → Reach
nothing_reached nodes = record { labels = replicate nodes None; keys = replicate nodes None; reached = [] }

-- a label is better than the one before it, or the first
abbrev pub is_better : Label → Option Label → Bool
is_better label None = true
is_better label (Some before) = int_lt label.distance before.distance

-- a node reached in this way, unless it was reached on a way that is no longer
abbrev pub lowered : Reach → ℕ → Label → Reach
lowered reach node label =
    if is_better label (label_at reach.labels node)
    then record {
      labels = slice_set reach.labels node (Some label);
      keys = slice_set reach.keys node (Some label.distance);
      reached = if is_some (label_at reach.labels node) then reach.reached else (reach.reached ++ node ∷ []);
    }
    else reach

-- What holds of the room of searches: the nodes that have a label are those that were reached, each once.
pub record IsReach (count long : ℕ) (reach : Reach) : Type 0 where
  pub keyed : length reach.keys ≡ length reach.labels
  pub room : long ≡ length reach.labels
  pub few : length reach.labels < 2 ^ 32
  pub within : count ≤ long
  pub nodes : AllByRecursion (λ node. node < length reach.labels) reach.reached
  pub distinct : Distinct reach.reached
  pub labelled : (node : ℕ) → IfSome (label_at reach.labels node) (λ label. Contains reach.reached node)
  pub fresh : (node : ℕ) → label_at reach.labels node ≡ None → Contains reach.reached node → ⊥

-- the node is labelled with this distance
abbrev pub HasDistance : Option Label → ℤ → Type 0
HasDistance None key = ⊥
HasDistance (Some label) key = label.distance ≡ key

-- Each key in the heap is the distance of its node's label.
abbrev pub IsKeyed : Reach → Type 0
IsKeyed reach = (node : ℕ) → IfSome (get_or reach.keys node None) (HasDistance (label_at reach.labels node))
