-- To be believed: which series is the repair of a problem.
use Rattle.std.specs.Prelude.{◌≡◌, ◌≤◌, ℤ, List}
use Rattle.screen_model.specs.Obeys.{Obeys}
use Rattle.screen_model.specs.Cost.{Problem, IsSeries, cost}
use Rattle.neg_cycle.specs.Distances.{AreAtMost}

-- a series with a value for each reading that obeys
pub record IsObeying (problem : Problem) (series : List ℤ) : Type 0 where
  pub whole : IsSeries problem series
  pub obeys : Obeys problem.places series problem.bounds

-- The series obeys; no series that obeys costs less; and of those that cost as little it is the greatest at every reading.
pub record IsRepair (problem : Problem) (series : List ℤ) : Type 0 where
  pub obeying : IsObeying problem series
  pub least : (other : List ℤ) → IsObeying problem other → cost problem series ≤ cost problem other
  pub greatest : (other : List ℤ) → IsObeying problem other → cost problem other ≡ cost problem series → AreAtMost other series

-- A problem has one repair only.
abbrev pub RepairIsOne : Type 0
RepairIsOne = (problem : Problem) (series other : List ℤ) → IsRepair problem series → IsRepair problem other → series ≡ other
