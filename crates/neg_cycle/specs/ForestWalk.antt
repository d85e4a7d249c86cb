-- For proofs: walks along the parents of nodes, and the ranks that they give.
use Rattle.std.specs.Prelude.{◌≡◌, ◌≢◌, ℕ, ◌+◌, ◌-◌, ◌<◌, ◌≤◌, ◌==◌, List, length, take, drop, Option, Some, get_or, count_by, IfSome}
use Rattle.std.specs.Option.{option_map}
use Rattle.neg_cycle.specs.declared.forest.Parent.{Parent}
use Rattle.neg_cycle.specs.declared.forest.Walk.{Walk}
use Rattle.neg_cycle.specs.declared.forest.Walk.TheVariants.{Ended, Cycle}
use Rattle.neg_cycle.specs.declared.forest.TheConstants.{UNRANKED}
use Rattle.neg_cycle.specs.Forest.{parent_at, IsParentCycle}

-- the node that a node's parent leaves, if it has a parent
abbrev pub tail_at : List (Option Parent) → ℕ → Option ℕ
tail_at parents node = option_map (λ parent. parent.tail) (parent_at parents node)

abbrev pub rank_at : List ℕ → ℕ → ℕ
rank_at ranks node = get_or ranks node 0

-- how many nodes have no rank
abbrev pub unranked : List ℕ → ℕ
unranked ranks = count_by (λ rank. rank == UNRANKED) ranks

-- A walk along parents. Each node that it met has as its rank its place in the walk, counted from `done`.
-- A node of a smaller rank is done: the tail of its parent has a still smaller one. The others have no rank.
pub record IsWalk (parents : List (Option Parent)) (done : ℕ) (walk ranks : List ℕ) : Type 0 where
  pub nodes : length ranks ≡ length parents
  pub falls : (node : ℕ) → rank_at ranks node < done → IfSome (tail_at parents node) (λ tail. rank_at ranks tail < rank_at ranks node)
  pub within : (place : ℕ) → place < length walk → get_or walk place 0 < length parents
  pub places : (place : ℕ) → place < length walk → rank_at ranks (get_or walk place 0) ≡ done + place
  pub steps : (place : ℕ) → place + 1 < length walk → tail_at parents (get_or walk place 0) ≡ Some (get_or walk (place + 1) 0)
  pub met : (node : ℕ) → node < length parents → done ≤ rank_at ranks node → rank_at ranks node ≢ UNRANKED →
      (rank_at ranks node < done + length walk) × (get_or walk (rank_at ranks node - done) 0 ≡ node)
  pub count : done + length walk + unranked ranks ≡ length parents

-- The last node of a walk has no parent, or one whose tail is done.
abbrev pub IsAtEnd : List (Option Parent) → ℕ → List ℕ → List ℕ → Type 0
IsAtEnd parents done walk ranks =
    (place : ℕ) → place + 1 ≡ length walk → IfSome (tail_at parents (get_or walk place 0)) (λ tail. rank_at ranks tail < done)

-- what a walk tells of the parents, where it stands at the front of a path
abbrev pub Tells : List (Option Parent) → ℕ → List ℕ → List ℕ → Walk → Type 0
Tells parents done path ranks (Ended count) =
    (count ≤ length path) × IsWalk parents done (take count path) ranks × IsAtEnd parents done (take count path) ranks
Tells parents done path ranks (Cycle stretch) =
    (stretch.start ≤ stretch.end) × (stretch.end ≤ length path)
    × IsParentCycle parents (take (stretch.end - stretch.start) (drop stretch.start path))

-- a node that has a rank keeps one
abbrev pub StayRanked : List ℕ → List ℕ → Type 0
StayRanked before now = (node : ℕ) → rank_at before node ≢ UNRANKED → rank_at now node ≢ UNRANKED
