use Rattle.std.proofs.Common.{rules, ◌∙◌, ap, refl, pos}
use Rattle.std.specs.Prelude.{List, ℤ}
use Rattle.std.specs.Int.{w128}
use Rattle.std.proofs.lemmas.Int.{to_z-of_z}
use Rattle.screen_model.specs.Cost.{paid}
use Rattle.cert_format.specs.declared.cert.SetLine.{SetLine}
use Rattle.series_csv.specs.Readings.{places, values}
use Rattle.bound_maker.specs.Costs.{whole_problem}
use Rattle.cert_check.specs.Claims.{flow_faults, series_faults}
use Rattle.cert_format.specs.Sets.{series_set}
use Rattle.cert_check.proofs.Faults.{fault_of_first, fault_of_second}
use Rattle.cert_check.proofs.repair.check_numbers.Goals as goal

pub check_series-requires-clause-made : goal.check_series-requires-clause-made
check_series-requires-clause-made c = c.requires.made

pub check_series-requires-clause-few : goal.check_series-requires-clause-few
check_series-requires-clause-few c = c.requires.few

pub check_series-requires-clause-series : goal.check_series-requires-clause-series
check_series-requires-clause-series c = c.in-Ok.ensures ∙ ap (λ (sets : List SetLine). series_set (places c.args.table.now) (values c.args.table.now) sets) c.as_slice.ensures

pub check_flow-requires : goal.check_flow-requires
check_flow-requires c = c.requires.tally

pub same-series : goal.same-series
same-series c = refl

pub returns-in-Ok-check_flow-clause-passed : goal.returns-in-Ok-check_flow-clause-passed
returns-in-Ok-check_flow-clause-passed c =
    fault_of_second (series_faults c.args.rules.now c.args.table.now c.args.claim.now) (flow_faults c.args.rules.now c.args.table.now c.args.claim.now) c.in-Ok-check_series.ensures.passed ∙ c.in-Ok-check_flow.ensures.passed

pub returns-in-Ok-check_flow-clause-numbers : goal.returns-in-Ok-check_flow-clause-numbers
returns-in-Ok-check_flow-clause-numbers c =
    let is = c.in-Ok.ensures ∙ ap (λ (sets : List SetLine). series_set (places c.args.table.now) (values c.args.table.now) sets) c.as_slice.ensures in
    record {
      series_is = is;
      paid_is = to_z-of_z w128 c.in-Ok-check_series.paid (search rules) ∙ (c.in-Ok-check_series.ensures.paid ∙ ap (λ (xs : List ℤ). pos (paid (whole_problem c.args.rules.now c.args.table.now) xs)) is);
    }

pub returns-in-Err-check_flow-clause-refused : goal.returns-in-Err-check_flow-clause-refused
returns-in-Err-check_flow-clause-refused c =
    λ other. fault_of_second (series_faults c.args.rules.now c.args.table.now c.args.claim.now) (flow_faults c.args.rules.now c.args.table.now c.args.claim.now) c.in-Ok-check_series.ensures.passed ∙ c.in-Err-check_flow.ensures.refused other

pub returns-in-Err-check_series-clause-refused : goal.returns-in-Err-check_series-clause-refused
returns-in-Err-check_series-clause-refused c =
    λ _. fault_of_first (series_faults c.args.rules.now c.args.table.now c.args.claim.now) (flow_faults c.args.rules.now c.args.table.now c.args.claim.now) c.in-Err-check_series.fault c.in-Err-check_series.ensures.refused

pub returns-in-Err-clause-refused : goal.returns-in-Err-clause-refused
returns-in-Err-clause-refused c = λ other. absurd (other refl)
