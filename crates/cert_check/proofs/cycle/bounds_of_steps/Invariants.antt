use Rattle.std.proofs.Common.{◌≡◌, ◌+◌, ◌++◌, drop, length, not}
use Rattle.std.specs.List.{AllByRecursion}
use Rattle.screen_model.specs.declared.bound.BoundName.{BoundName}
use Rattle.screen_model.specs.Obeys.{HasEnds}
use Rattle.series_csv.specs.Readings.{places}
use Rattle.bound_maker.specs.Costs.{whole_problem}
use Rattle.cert_check.specs.declared.cycle.TheConstants.{BEFORE_STEPS}
use Rattle.cert_check.specs.Cycle.{cycle_of}
use Rattle.cert_check.specs.Repair.{first_line, is_known}
use Rattle.cert_check.proofs.cycle.bounds_of_steps.Given as goal

abbrev pub invariant-loop-name : goal.invariant-loop-name
invariant-loop-name l = record {
  number : l.number ≡ BEFORE_STEPS + l.name-index;
  lines : first_line (λ (name : BoundName). not (is_known (whole_problem l.rules l.table).bounds name)) l.number (drop l.name-index l.steps)
      ≡ first_line (λ (name : BoundName). not (is_known (whole_problem l.rules l.table).bounds name)) BEFORE_STEPS l.steps;
  cycle : l.cycle ++ cycle_of l.rules l.table (drop l.name-index l.steps) ≡ cycle_of l.rules l.table l.steps;
  ends : AllByRecursion (HasEnds (places l.table)) l.cycle;
  long : length l.cycle ≡ l.name-index;
}
