-- To be believed: what is answered to a problem.
use Rattle.std.specs.Prelude.{◌≡◌, ◌<◌, ◌≤◌, ℕ, ◌+◌, ◌^◌, ℤ, pos, ◌≤ℤ◌, List, length, map, sum, Option, IfSome, unsigned_abs}
use Rattle.std.specs.List.{AllByRecursion}
use Rattle.words.specs.Lists.{IsPart}
use Rattle.screen_model.specs.declared.bound.BoundName.{BoundName}
use Rattle.screen_model.specs.declared.bound.FlowItem.{FlowItem}
use Rattle.screen_model.specs.Cost.{Problem, paid, cost}
use Rattle.screen_model.specs.Names.{names_of}
use Rattle.screen_model.specs.Best.{IsBestByItems, IsBlockedByNames}
use Rattle.flow_core.specs.declared.limits.TheConstants.{MOST_VALUE}
use Rattle.flow_core.specs.Layout.{network_of}
use Rattle.flow_core.specs.Solving.{by_size}
use Rattle.least_cost.specs.declared.outcome.Outcome.{Outcome}
use Rattle.least_cost.specs.declared.outcome.Outcome.TheVariants.{Repaired, NoSeries}
use Rattle.least_cost.specs.Repair.{IsObeying, IsRepair}

-- The series is the repair, as the flow shows; the total is what it costs, and of that so much is paid for broken bounds.
-- The items stand in the order of the bounds, one for a bound at most, and none has a greater amount than all weights and
-- prices together and 1 more. No value is above 10^15 in size, and the total is below 10^27.
pub record IsRepaired (problem : Problem) (series : List ℤ) (flow : List FlowItem) (all_paid broken_paid : ℤ) : Type 0 where
  pub repair : IsRepair problem series
  pub best : IsBestByItems problem series flow
  pub total : all_paid ≡ pos (cost problem series)
  pub paid : broken_paid ≡ pos (paid problem series)
  pub in_order : IsPart (map (λ item. item.name) flow) (names_of problem.bounds)
  pub amounts : AllByRecursion (λ item. item.amount ≤ℤ pos (sum problem.weights + sum (map (λ priced. priced.price) problem.bounds) + 1)) flow
  pub small_values : AllByRecursion (λ value. unsigned_abs value ≤ MOST_VALUE) series
  pub small_total : unsigned_abs all_paid < 10 ^ 27

-- The names are those of a cycle of bounds that shows that no series obeys, and none does.
pub record IsWithoutSeries (problem : Problem) (cycle : List BoundName) : Type 0 where
  pub blocked : IsBlockedByNames problem.bounds cycle
  pub none : (series : List ℤ) → ¬ IsObeying problem series

-- A repair where some series obeys, and a cycle where none does.
abbrev pub Answers : Problem → Outcome → Type 0
Answers problem (Repaired series flow total paid changes) = IsRepaired problem series flow total paid
Answers problem (NoSeries cycle) = IsWithoutSeries problem cycle

-- The changes of a repair are those that the solver counted, no fewer than the items of the flow, and no more than the
-- solver tells.
pub record AreChanges (problem : Problem) (most : ℕ → ℕ → ℕ → ℕ → Option ℕ) (last : ℕ) (flow : List FlowItem) (changes : ℕ) : Type 0 where
  pub counted : changes ≡ last
  pub enough : length flow ≤ changes
  pub few : IfSome (by_size most (network_of problem)) (λ bound. changes ≤ bound)

abbrev pub CountsChanges : Problem → (ℕ → ℕ → ℕ → ℕ → Option ℕ) → ℕ → Outcome → Type 0
CountsChanges problem most last (Repaired series flow total paid changes) = AreChanges problem most last flow changes
CountsChanges problem most last (NoSeries cycle) = Unit {0}
