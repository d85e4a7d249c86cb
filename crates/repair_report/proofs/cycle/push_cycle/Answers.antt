use Rattle.std.proofs.Common.{◌≤◌, ◌++◌, ◌∷◌, [], List, ap, ◌∙◌, length, map, rules, arith}
use Rattle.std.specs.Prelude.{codes, unsigned_abs}
use Rattle.std.specs.Int.{w128}
use Rattle.std.proofs.lemmas.Int.{to_z-of_z}
use mir.Val.{SFits}
use Rattle.words.specs.Lists.{total}
use Rattle.screen_model.specs.declared.bound.Bound.{Bound}
use Rattle.screen_model.specs.declared.bound.BoundName.{BoundName}
use Rattle.cert_format.specs.Words.{line_feed, text_of_lines}
use Rattle.series_csv.specs.Readings.{places}
use Rattle.cert_check.specs.Cycle.{cycle_of}
use Rattle.repair_report.specs.Lines.{step_line, value_line}
use Rattle.repair_report.proofs.Cycles.{sum_fits}
use Rattle.repair_report.proofs.Joined.{framed, on_ok}
use Rattle.repair_report.proofs.cycle.push_cycle.Goals as goal

pub push_value_line-requires-clause-small : goal.push_value_line-requires-clause-small
push_value_line-requires-clause-small c =
    let rules_ = c.args.rules.now in
    let table = c.args.table.now in
    let fits : SFits w128 c.in_ok-sum.sum = search rules in
    let is = to_z-of_z w128 c.in_ok-sum.sum fits
    ∙ (c.in_ok-sum.ensures.sum ∙ ap (λ (names : List BoundName). total (map (λ (bound : Bound). bound.limit) (cycle_of rules_ table names))) c.as_slice.ensures) in
    let few : length (places table) ≤ 400000 = omega (arith, c.places-places.ensures.len, c.len-count.ensures.len, c.len-count.ensures.most) in
    omega (arith, ap unsigned_abs is, sum_fits rules_ table c.args.cycle.now c.problem_is_sound.ensures c.requires few)

pub returns : goal.returns
returns c =
    let rules_ = c.args.rules.now in
    let table = c.args.table.now in
    let cycle = c.args.cycle.now in
    let d = rules_.format.decimals in
    let t1 = c.extend_from_slice.new.self.items in
    let t2 = c.push_steps.new.text.items in
    let sum = total (map (λ (bound : Bound). bound.limit) (cycle_of rules_ table cycle)) in
    let fits : SFits w128 c.in_ok-sum.sum = search rules in
    let is = to_z-of_z w128 c.in_ok-sum.sum fits
    ∙ (c.in_ok-sum.ensures.sum ∙ ap (λ (names : List BoundName). total (map (λ (bound : Bound). bound.limit) (cycle_of rules_ table names))) c.as_slice.ensures) in
    let steps = c.in_ok-sum.ensures.text ∙ ap (λ (names : List BoundName). t1 ++ text_of_lines (map (step_line d) (cycle_of rules_ table names))) c.as_slice.ensures in
    on_ok c.push_value_line.result
    (λ e.
    framed c.args.text.now.items t1 t2 c.push_value_line.new.text.items (codes "claim none") (value_line (codes "sum") d sum) (map (step_line d) (cycle_of rules_ table cycle)) c.in_ok-extend_from_slice.ensures.items steps
    (e ∙ ap (λ v. t2 ++ (value_line (codes "sum") d v ++ line_feed ∷ [])) is))
    c.push_value_line.ensures
