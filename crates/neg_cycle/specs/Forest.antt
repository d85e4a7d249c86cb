-- For proofs: parents of nodes.
use Rattle.std.specs.Prelude.{◌≡◌, ℕ, ◌<◌, ◌≤◌, List, length, map, Option, None, Some, get_or, All, IfSome}
use Rattle.words.specs.Lists.{Distinct, rotated}
use Rattle.neg_cycle.specs.declared.forest.Parent.{Parent}

-- the parent of a node, if it has one
abbrev pub parent_at : List (Option Parent) → ℕ → Option Parent
parent_at parents node = get_or parents node None

-- each node has a greater rank than the tail of its parent; all ranks are below the number of nodes
pub record IsRanking (parents : List (Option Parent)) (ranks : List ℕ) : Type 0 where
  pub nodes : length ranks ≡ length parents
  pub small : All (λ rank. rank < length parents) ranks
  pub falls : (node : ℕ) → IfSome (parent_at parents node) (λ parent. get_or ranks parent.tail 0 < get_or ranks node 0)

-- The tail of each node's parent is the next node, and of the last one's the first; no node stands twice.
pub record IsParentCycle (parents : List (Option Parent)) (nodes : List ℕ) : Type 0 where
  pub steps : List Parent
  pub parents_of : map (parent_at parents) nodes ≡ map Some steps
  pub some : 1 ≤ length nodes
  pub closed : map (λ step. step.tail) steps ≡ rotated nodes
  pub simple : Distinct nodes
