use Rattle.std.proofs.Common.{◌+◌, ◌∙◌, ap, sym, arith, length, not, drop, subst}
use Rattle.std.specs.Prelude.{List, ◌∷◌, ◌++◌, [], option_map}
use Rattle.std.specs.List.{AllByRecursion}
use Rattle.std.proofs.lemmas.List.{length-append}
use Rattle.words.proofs.Lists.{all_at, all_push}
use Rattle.screen_model.specs.declared.bound.Bound.{Bound}
use Rattle.screen_model.specs.declared.bound.BoundName.{BoundName}
use Rattle.screen_model.specs.Obeys.{HasEnds}
use Rattle.series_csv.specs.Readings.{places}
use Rattle.bound_maker.specs.Bounds.{all_bounds}
use Rattle.bound_maker.specs.Costs.{whole_problem}
use Rattle.cert_check.specs.declared.fault.CertFault.TheVariants.{UnknownBound}
use Rattle.cert_check.specs.Cycle.{cycle_of}
use Rattle.cert_check.specs.Repair.{is_known}
use Rattle.cert_check.proofs.Steps.{IsNamedBy, cycle_step, is_named, is_not_named, line_found, line_passed}
use Rattle.cert_check.proofs.cycle.bounds_of_steps.Goals as goal

pub returns-in-None-clause-unknown : goal.returns-in-None-clause-unknown
returns-in-None-clause-unknown c =
    let rules = c.args.rules.now in
    let table = c.args.table.now in
    λ _. ap (option_map UnknownBound)
    (sym c.loop-name.invariant.lines
    ∙ line_found (λ (name : BoundName). not (is_known (whole_problem rules table).bounds name)) c.args.steps.now c.loop-name.name-index c.loop-name.number _ c.loop-name-test.true (is_not_named rules table _ c.in-None.ensures))

pub loop-name-preserved : goal.loop-name-preserved
loop-name-preserved c =
    let rules = c.args.rules.now in
    let table = c.args.table.now in
    let named : IsNamedBy rules table _ c.in-Some.bound = record { member = c.in-Some.ensures.0; name_is = c.in-Some.ensures.1 } in
    let pushed = c.in_ok-push-in-Some.ensures.ok in
    record {
      number = omega (arith, c.loop-name.invariant.number);
      lines = sym (line_passed (λ (name : BoundName). not (is_known (whole_problem rules table).bounds name)) c.args.steps.now c.loop-name.name-index c.loop-name.number _ c.loop-name-test.true (is_named rules table _ c.in-Some.bound named)) ∙ c.loop-name.invariant.lines;
      cycle = ap (λ (cycle : List Bound). cycle ++ cycle_of rules table (drop (c.loop-name.name-index + 1) c.args.steps.now)) pushed
          ∙ (cycle_step rules table c.args.steps.now c.loop-name.cycle c.loop-name.name-index _ c.in-Some.bound c.loop-name-test.true c.names_are_distinct.ensures named
          ∙ c.loop-name.invariant.cycle);
      ends = subst (λ (cycle : List Bound). AllByRecursion (HasEnds (places table)) cycle) (sym pushed)
          (all_push (HasEnds (places table)) c.loop-name.cycle c.in-Some.bound c.loop-name.invariant.ends (all_at (HasEnds (places table)) (all_bounds rules table) c.in-Some.bound c.problem_is_sound.ensures.all_ends named.member));
      long = ap length pushed ∙ (length-append c.loop-name.cycle (c.in-Some.bound ∷ []) ∙ ap (λ n. n + 1) c.loop-name.invariant.long);
    }
