use Rattle.std.proofs.Common.{◌≡◌, ◌≤◌, ◌∙◌, List, length, ap, subst, arith}
use Rattle.screen_model.specs.Cost.{Problem}
use Rattle.screen_model.specs.declared.bound.Bound.{Bound}
use Rattle.bound_maker.specs.declared.maker.TheConstants.{MOST_BOUNDS}
use Rattle.bound_maker.specs.Costs.{made_problem}
use Rattle.least_cost.specs.Answer.{Answers, CountsChanges}
use Rattle.least_cost.specs.Problems.{problem_of}
use Rattle.global_repair.specs.Lists.{prices_of}
use Rattle.global_repair.proofs.Solvable.{solvable, AreLists, lists_solvable, lists_problem}
use Rattle.global_repair.proofs.Whole.{over_all}
use Rattle.global_repair.proofs.table.repair.Given.{Over}
use Rattle.global_repair.proofs.table.repair.Goals as goal

lists_here : (g : Over) (c : goal.After-least_cost-arg-1 g) → AreLists c.args.rules.now c.args.table.now c.places-places.result.now c.series.result.now c.as_slice.result.now c.in_ok-bounds.bounds c.as_slice-2.result.now
lists_here g c = record {
  places_are = c.places-places.ensures.places;
  values_are = c.series.ensures.values;
  weights_are = c.as_slice.ensures.value ∙ c.in_ok-weights.ensures;
  bounds_are = c.in_ok-bounds.ensures.made;
  prices_are = c.as_slice-2.ensures.value ∙ c.in_ok-prices.ensures ∙ ap (prices_of c.args.rules.now) c.in_ok-bounds.ensures.made;
}

pub least_cost-requires : goal.least_cost-requires
least_cost-requires g c =
    let rules = c.args.rules.now in
    let table = c.args.table.now in
    lists_solvable rules table c.places-places.result.now c.series.result.now c.as_slice.result.now c.in_ok-bounds.bounds c.as_slice-2.result.now (lists_here g c)
    (solvable rules table c.problem_is_sound.ensures c.names_are_distinct.ensures (c.made_is_a_part.ensures rules table) c.places-places.ensures.distinct c.places-places.ensures.len (omega (arith, c.len-count.ensures.len, c.len-count.ensures.most)) c.series.ensures.small
    (subst (λ (bs : List Bound). length bs ≤ MOST_BOUNDS) c.in_ok-bounds.ensures.made c.in_ok-bounds.ensures.few))

lists_there : (g : Over) (c : goal.After-drop-bounds-inside-2 g) → AreLists c.args.rules.now c.args.table.now c.places-places.result.now c.series.result.now c.as_slice.result.now c.in_ok-bounds.bounds c.as_slice-2.result.now
lists_there g c = record {
  places_are = c.places-places.ensures.places;
  values_are = c.series.ensures.values;
  weights_are = c.as_slice.ensures.value ∙ c.in_ok-weights.ensures;
  bounds_are = c.in_ok-bounds.ensures.made;
  prices_are = c.as_slice-2.ensures.value ∙ c.in_ok-prices.ensures ∙ ap (prices_of c.args.rules.now) c.in_ok-bounds.ensures.made;
}

problem_there : (g : Over) (c : goal.After-drop-bounds-inside-2 g) → problem_of c.places-places.result.now c.series.result.now c.as_slice.result.now c.in_ok-bounds.bounds c.as_slice-2.result.now ≡ made_problem c.args.rules.now c.args.table.now
problem_there g c = lists_problem c.args.rules.now c.args.table.now c.places-places.result.now c.series.result.now c.as_slice.result.now c.in_ok-bounds.bounds c.as_slice-2.result.now (lists_there g c)

made_here : (g : Over) (c : goal.After-drop-bounds-inside-2 g) → Answers (made_problem c.args.rules.now c.args.table.now) c.in_ok-least_cost.field-0
made_here g c = subst (λ (problem : Problem). Answers problem c.in_ok-least_cost.field-0) (problem_there g c) c.in_ok-least_cost.ensures.answer

pub returns-clause-made : goal.returns-clause-made
returns-clause-made g c = made_here g c

pub returns-clause-answer : goal.returns-clause-answer
returns-clause-answer g c =
    over_all c.args.rules.now c.args.table.now c.in_ok-least_cost.field-0
    (record { part = c.made_is_a_part.ensures c.args.rules.now c.args.table.now; distinct = c.names_are_distinct.ensures; bind = c.made_bind_all.ensures; over = c.best_over_made.ensures })
    (made_here g c)

pub returns-clause-changes : goal.returns-clause-changes
returns-clause-changes g c =
    subst (λ (problem : Problem). CountsChanges problem (g.V.Solver.most c.least_cost.new.solver) (g.V.Solver.last c.least_cost.new.solver) c.in_ok-least_cost.field-0) (problem_there g c) c.in_ok-least_cost.ensures.changes
