use Rattle.std.proofs.Common.{◌+◌, drop, ap, ◌∙◌, rules, arith}
use Rattle.std.specs.Prelude.{Contains, unsigned_abs}
use Rattle.std.specs.Int.{w128}
use Rattle.std.proofs.lemmas.Int.{to_z-of_z}
use mir.Val.{SFits}
use Rattle.screen_model.specs.Names.{names_of}
use Rattle.bound_maker.specs.Costs.{whole_problem}
use Rattle.cert_check.specs.Cycle.{cycle_of}
use Rattle.repair_report.specs.Lines.{step_line}
use Rattle.repair_report.proofs.Cycles.{all_got, cycle_next, sum_next}
use Rattle.repair_report.proofs.Joined.{line_next}
use Rattle.repair_report.proofs.cycle.push_steps.Goals as goal

pub bound_named-bound-requires : goal.bound_named-bound-requires
bound_named-bound-requires c =
    all_got (Contains (names_of (whole_problem c.args.rules.now c.args.table.now).bounds)) c.args.cycle.now c.loop-name.name-index _ c.requires c.loop-name-test.true

pub loop-name-preserved : goal.loop-name-preserved
loop-name-preserved c =
    let rules_ = c.args.rules.now in
    let table = c.args.table.now in
    let cycle = c.args.cycle.now in
    let i = c.loop-name.name-index in
    let bound = c.bound_named-bound.result in
    let here = cycle_of rules_ table (drop i cycle) in
    let rest = cycle_of rules_ table (drop (i + 1) cycle) in
    let next = cycle_next rules_ table cycle i _ bound c.loop-name-test.true c.names_are_distinct.ensures c.bound_named-bound.ensures.member c.bound_named-bound.ensures.name in
    let fits : SFits w128 c.with_limit-sum.result = search rules in
    let same = to_z-of_z w128 c.with_limit-sum.result fits in
    record {
      text = line_next (step_line rules_.format.decimals) c.loop-name.text.items c.push_step.new.text.items _ bound here rest next c.loop-name.invariant.text c.in_ok-push_step.ensures;
      sum = sum_next _ _ _ bound here rest next (same ∙ c.with_limit-sum.ensures.sum) c.loop-name.invariant.sum;
      small = omega (arith, ap unsigned_abs same, c.with_limit-sum.ensures.small, c.loop-name.invariant.small);
    }
