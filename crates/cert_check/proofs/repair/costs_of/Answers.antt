use Rattle.std.proofs.Common.{rules, ◌≡◌, ◌∙◌, ap, pos, ◌+ℤ◌, List, of_z, to_z}
use Rattle.std.specs.Int.{w128}
use Rattle.std.proofs.lemmas.Int.{to_z-of_z}
use Rattle.screen_model.specs.declared.bound.Bound.{Bound}
use Rattle.screen_model.specs.Cost.{change, paid}
use Rattle.bound_maker.specs.Costs.{made_problem, problem_with}
use Rattle.cert_check.proofs.repair.costs_of.Goals as goal

pub returns-clause-cost : goal.returns-clause-cost
returns-clause-cost c =
    let made = made_problem c.args.rules.now c.args.table.now in
    let series = c.args.series.now in
    let whole_change : to_z w128 (of_z w128 c.change_of-change.result) ≡ pos (change made series) = to_z-of_z w128 c.change_of-change.result (search rules) ∙ c.change_of-change.ensures.value in
    let whole_paid : to_z w128 (of_z w128 c.paid_of-paid.result) ≡ pos (paid made series) =
    to_z-of_z w128 c.paid_of-paid.result (search rules) ∙ (c.paid_of-paid.ensures.value ∙ ap (λ (bs : List Bound). pos (paid (problem_with c.args.rules.now c.args.table.now bs) series)) c.requires.made) in
    to_z-of_z w128 c.sum_of.result (search rules)
    ∙ (c.sum_of.ensures ∙ (ap (λ z. z +ℤ to_z w128 (of_z w128 c.paid_of-paid.result)) whole_change ∙ (ap (λ z. pos (change made series) +ℤ z) whole_paid ∙ ap pos (c.best_over_made.ensures.costs series))))

pub returns-clause-paid : goal.returns-clause-paid
returns-clause-paid c =
    let same : to_z w128 (of_z w128 c.paid_of-paid.result) ≡ c.paid_of-paid.result = to_z-of_z w128 c.paid_of-paid.result (search rules) in
    same ∙ (c.paid_of-paid.ensures.value
    ∙ (ap (λ (bs : List Bound). pos (paid (problem_with c.args.rules.now c.args.table.now bs) c.args.series.now)) c.requires.made
    ∙ ap pos (c.best_over_made.ensures.pays c.args.series.now)))
