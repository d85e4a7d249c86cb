use Rattle.std.proofs.Common.{◌≡◌, ◌≤◌, pos, List, sym, ap, ◌∙◌, length, rules, subst, arith}
use Rattle.std.specs.Prelude.{◌==◌, unsigned_abs}
use Rattle.std.specs.Int.{w128}
use Rattle.std.specs.List.Sorted.{IsNonDecreasingBy}
use Rattle.std.proofs.lemmas.Int.{to_z-of_z}
use mir.Val.{SFits}
use Rattle.words.proofs.Parts.{part_all, part_filter}
use Rattle.screen_model.specs.declared.bound.Bound.{Bound}
use Rattle.screen_model.specs.Cost.{paid}
use Rattle.series_csv.specs.Readings.{places}
use Rattle.bound_maker.specs.Bounds.{made_bounds}
use Rattle.bound_maker.specs.Costs.{problem_with}
use Rattle.repair_report.specs.Repairs.{bounds_of}
use Rattle.repair_report.proofs.Priced.{same_bounds}
use Rattle.repair_report.proofs.Runs.{filter_few, made_in_order}
use Rattle.repair_report.proofs.Sizes.{IsNearBound, made_near, near, paid_few}
use Rattle.repair_report.proofs.prices.paid_of_rule.Goals as goal

pub bounds_of-requires : goal.bounds_of-requires
bounds_of-requires c =
    subst (λ (bs : List Bound). IsNonDecreasingBy (λ (bound : Bound). bound.name.rule) bs) (sym (c.as_slice.ensures ∙ c.requires.made))
    (made_in_order c.args.rules.now c.args.table.now (c.made_is_a_part.ensures c.args.rules.now c.args.table.now) c.names_can_be_written.ensures)

pub paid_for-requires : goal.paid_for-requires
paid_for-requires c =
    let number = c.args.number in
    let own : c.bounds_of.result.now ≡ bounds_of number c.args.bounds.now = c.bounds_of.ensures ∙ ap (bounds_of number) c.as_slice.ensures in
    omega (arith, ap length own, filter_few (λ (bound : Bound). bound.name.rule == number) c.args.bounds.now, c.requires.few)

pub returns-clause-value : goal.returns-clause-value
returns-clause-value c =
    let rules_ = c.args.rules.now in
    let table = c.args.table.now in
    let number = c.args.number in
    let own = c.bounds_of.ensures ∙ ap (bounds_of number) (c.as_slice.ensures ∙ c.requires.made) in
    let fits : SFits w128 c.paid_for.result = search rules in
    to_z-of_z w128 c.paid_for.result fits
    ∙ (c.paid_for.ensures.value
    ∙ ap (λ (bs : List Bound). pos (paid (problem_with rules_ table bs) c.args.series.now)) (own ∙ same_bounds rules_ number c.requires.price table (c.made_is_a_part.ensures rules_ table)))

pub returns-clause-small : goal.returns-clause-small
returns-clause-small c =
    let rules_ = c.args.rules.now in
    let table = c.args.table.now in
    let number = c.args.number in
    let made = made_bounds rules_ table in
    let own = c.bounds_of.ensures ∙ ap (bounds_of number) (c.as_slice.ensures ∙ c.requires.made) in
    let fits : SFits w128 c.paid_for.result = search rules in
    let value = to_z-of_z w128 c.paid_for.result fits ∙ (c.paid_for.ensures.value ∙ ap (λ (bs : List Bound). pos (paid (problem_with rules_ table bs) c.args.series.now)) own) in
    let test = λ (bound : Bound). bound.name.rule == number in
    let all = part_all (IsNearBound (places table)) (part_filter test made) (made_near rules_ table c.problem_is_sound.ensures) in
    let few : length (bounds_of number made) ≤ 4000000 = omega (arith, filter_few test made, ap length c.requires.made, c.requires.few) in
    omega (arith, ap unsigned_abs value, paid_few rules_ table c.args.series.now (bounds_of number made) (near rules_ table c.args.series.now c.requires.obeys) c.problem_is_sound.ensures all few)
