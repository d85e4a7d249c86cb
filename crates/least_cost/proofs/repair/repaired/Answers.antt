use Rattle.std.proofs.Common.{◌≡◌, ◌^◌, ◌≤◌, ℤ, pos, ◌-ℤ◌, List, length, sym, ap, ◌∙◌, subst, rules, arith, to_z, of_z}
use Rattle.std.specs.Prelude.{FitsSigned, unsigned_abs}
use Rattle.std.proofs.lemmas.Int.{to_z-of_z, fits_signed_from_abs}
use Rattle.screen_model.specs.Cost.{Problem, weighted_change, change, paid, cost}
use Rattle.std.specs.List.{AllByRecursion}
use Rattle.flow_core.specs.declared.limits.TheConstants.{MOST_VALUE}
use Rattle.least_cost.proofs.Lists.{all_drop}
use Rattle.flow_core.specs.Layout.{FlowNetwork}
use Rattle.least_cost.specs.Problems.{stated}
use Rattle.least_cost.proofs.Answering.{is_repaired, are_changes, paid_is, bounds_of_network, length_priced, cost_small}
use Rattle.least_cost.proofs.Greatest.{IsFound, found}
use Rattle.least_cost.proofs.repair.repaired.Goals as goal
use mir.Syntax.{w128}

pub flow_in-requires-clause-bounds : goal.flow_in-requires-clause-bounds
flow_in-requires-clause-bounds c =
    let lists = c.args.problem.now in
    sym (ap (λ (n : FlowNetwork). length n.bounds) c.requires.network.same ∙ bounds_of_network lists ∙ length_priced lists)

-- what is found, by the series that was read off
found_here : (c : goal.After-change) → IsFound (stated c.args.problem.now) c.args.net.now c.in_ok-series.series
found_here c =
    subst (λ (series : List ℤ). IsFound (stated c.args.problem.now) c.args.net.now series) (sym c.in_ok-series.ensures)
    (found (stated c.args.problem.now) c.args.net.now c.settle_tight.new.room.distances c.requires.network c.requires.solved c.settle_tight.ensures.greatest)

changed_here : (c : goal.After-change) → c.change.result ≡ pos (change (stated c.args.problem.now) c.in_ok-series.series)
changed_here c = c.change.ensures ∙ (λ i. pos (weighted_change c.args.problem.now.weights.now (c.as_slice.ensures i) (c.as_slice-2.ensures i)))

record ArePaid (problem : Problem) (series : List ℤ) (total changed : ℤ) : Type 0 where
  fits : FitsSigned w128 (to_z w128 (of_z w128 total) -ℤ to_z w128 (of_z w128 changed))
  total_read : to_z w128 (of_z w128 total) ≡ total
  paid_read : to_z w128 (of_z w128 (to_z w128 (of_z w128 total) -ℤ to_z w128 (of_z w128 changed))) ≡ pos (paid problem series)

are_paid : (problem : Problem) (series : List ℤ) (total changed : ℤ) → FitsSigned w128 total → FitsSigned w128 changed → total ≡ pos (cost problem series) → changed ≡ pos (change problem series) → cost problem series ≤ 10 ^ 32 → ArePaid problem series total changed
are_paid problem series total changed total_fits changed_fits totalled change_is few =
    let both : to_z w128 (of_z w128 total) -ℤ to_z w128 (of_z w128 changed) ≡ total -ℤ changed = λ i. to_z-of_z w128 total total_fits i -ℤ to_z-of_z w128 changed changed_fits i in
    let rest = paid_is problem series total changed totalled change_is in
    let small : FitsSigned w128 (pos (paid problem series)) = fits_signed_from_abs w128 (pos (paid problem series)) (omega (arith, few)) in
    record {
      fits = rw (both ∙ rest) small;
      total_read = to_z-of_z w128 total total_fits;
      paid_read = ap (λ z. to_z w128 (of_z w128 z)) (both ∙ rest) ∙ to_z-of_z w128 (pos (paid problem series)) small;
    }

paid_here : (c : goal.After-change) → ArePaid (stated c.args.problem.now) c.in_ok-series.series c.value-total.result c.change.result
paid_here c = are_paid (stated c.args.problem.now) c.in_ok-series.series c.value-total.result c.change.result (search rules) (search rules) (c.value-total.ensures ∙ (found_here c).valued) (changed_here c) (cost_small (stated c.args.problem.now) c.args.net.now c.in_ok-series.series c.requires.network.network (found_here c).valued)

pub overflow_sub-paid : goal.overflow_sub-paid
overflow_sub-paid c = (paid_here c).fits

small_here : (c : goal.After-change) → AllByRecursion (λ value. unsigned_abs value ≤ MOST_VALUE) c.in_ok-series.series
small_here c = subst (λ (series : List ℤ). AllByRecursion (λ value. unsigned_abs value ≤ MOST_VALUE) series) (sym c.in_ok-series.ensures) (all_drop (λ value. unsigned_abs value ≤ MOST_VALUE) 1 c.settle_tight.new.room.distances c.settle_tight.ensures.small)

pub returns-clause-answer : goal.returns-clause-answer
returns-clause-answer c =
    let read = paid_here c.before.before.before in
    is_repaired c.args.problem.now c.args.net.now c.in_ok-series.series c.in_ok-flow.flow _ _ c.requires.solvable c.requires.network (found_here c.before.before.before) (small_here c.before.before.before) c.in_ok-flow.ensures (read.total_read ∙ c.value-total.ensures) read.paid_read

pub returns-clause-changes : goal.returns-clause-changes
returns-clause-changes c = λ most few. are_changes c.args.problem.now c.args.net.now c.in_ok-flow.flow most c.changes-changes.result c.requires.network c.in_ok-flow.ensures c.changes-changes.ensures few
