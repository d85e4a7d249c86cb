-- To be believed: when a flow shows that a series costs least, and when a cycle of bounds shows that no series obeys.
use Rattle.std.specs.Prelude.{◌≡◌, ◌≤◌, ℤ, pos, negsuc, ◌≤ℤ◌, List, length, map, Contains}
use Rattle.std.specs.List.{AllByRecursion}
use Rattle.screen_model.specs.declared.place.Place.{Place}
use Rattle.screen_model.specs.declared.bound.BoundName.{BoundName}
use Rattle.screen_model.specs.declared.bound.FlowItem.{FlowItem}
use Rattle.words.specs.Lists.{Distinct, rotated, total}
use Rattle.screen_model.specs.Obeys.{Priced, Obeys}
use Rattle.screen_model.specs.Cost.{Problem, IsProblem, IsSeries, cost}
use Rattle.screen_model.specs.Flow.{IsAdmissible, dual_value}
use Rattle.screen_model.specs.Names.{AreNamesIn, bounds_named, amounts_of, IsFlowOver}

-- The problem is sound, the series has a value for each reading and obeys, and the flow is admissible and has a dual
-- value as great as what the series costs.
pub record IsBest (problem : Problem) (series : List ℤ) (flow : List ℤ) : Type 0 where
  pub sound : IsProblem problem
  pub whole : IsSeries problem series
  pub obeys : Obeys problem.places series problem.bounds
  pub admissible : IsAdmissible problem flow
  pub equal : dual_value problem flow ≡ pos (cost problem series)

-- The flow by its items: they are a flow over the bounds, and what they tell shows that the series is best.
pub record IsBestByItems (problem : Problem) (series : List ℤ) (items : List FlowItem) : Type 0 where
  pub over : IsFlowOver problem.bounds items
  pub best : IsBest problem series (amounts_of items problem.bounds)

-- Bounds that may not be broken, in a ring: where one ends the next begins, no two begin at the same end, and
-- round the ring the limits add up to less than 0.
pub record IsBlocked (bounds cycle : List Priced) : Type 0 where
  pub some : 1 ≤ length cycle
  pub members : AllByRecursion (Contains bounds) cycle
  pub unpriced : AllByRecursion (λ priced. priced.price ≡ 0) cycle
  pub closed : map (λ priced. priced.bound.second) cycle ≡ rotated (map (λ priced. priced.bound.first) cycle)
  pub simple : Distinct (map (λ priced. priced.bound.first) cycle)
  pub negative : total (map (λ priced. priced.bound.limit) cycle) ≤ℤ negsuc 0

-- The cycle by its names: each is the name of one of the bounds, and the bounds that they name are a blocked cycle.
pub record IsBlockedByNames (bounds : List Priced) (names : List BoundName) : Type 0 where
  pub named : AreNamesIn bounds names
  pub blocked : IsBlocked bounds (bounds_named names bounds)

-- Weak duality: a series that obeys costs at least the dual value of every admissible flow.
abbrev pub WeakDuality : Type 0
WeakDuality = (problem : Problem) (series : List ℤ) (flow : List ℤ) → IsProblem problem → IsSeries problem series
    → Obeys problem.places series problem.bounds → IsAdmissible problem flow → dual_value problem flow ≤ℤ pos (cost problem series)

-- So no series that obeys costs less than a best one.
abbrev pub BestCostsLeast : Type 0
BestCostsLeast = (problem : Problem) (series other : List ℤ) (flow : List ℤ) → IsSeries problem other
    → IsBest problem series flow → Obeys problem.places other problem.bounds → cost problem series ≤ cost problem other

-- A blocked cycle forbids every series.
abbrev pub BlockedForbids : Type 0
BlockedForbids = (places : List Place) (bounds cycle : List Priced) (series : List ℤ) → IsBlocked bounds cycle → Obeys places series bounds → ⊥
