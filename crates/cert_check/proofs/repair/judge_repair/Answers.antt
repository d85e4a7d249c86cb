use Rattle.std.proofs.Common.{rules, ◌≡◌, ◌∙◌, Err, ap, pos, of_z, to_z}
use Rattle.std.specs.Int.{w128}
use Rattle.std.proofs.lemmas.Int.{to_z-of_z}
use Rattle.screen_model.specs.Cost.{paid}
use Rattle.bound_maker.specs.Costs.{whole_problem}
use Rattle.cert_check.specs.declared.accepted.Accepted.TheVariants.{Repair}
use Rattle.cert_check.specs.Repair.{repair_faults, series_of}
use Rattle.cert_check.proofs.Faults.{answer_fault, answer_none, same_repair}
use Rattle.cert_check.proofs.repair.judge_repair.Goals as goal

pub check_repair-requires-clause-made : goal.check_repair-requires-clause-made
check_repair-requires-clause-made c = c.requires.made

pub check_repair-requires-clause-few : goal.check_repair-requires-clause-few
check_repair-requires-clause-few c = c.requires.few

pub check_repair-requires-clause-fit : goal.check_repair-requires-clause-fit
check_repair-requires-clause-fit c = c.requires.fit

pub returns-in-Ok : goal.returns-in-Ok
returns-in-Ok c =
    let rules_are = c.args.rules.now in
    let table = c.args.table.now in
    let claim = c.args.claim in
    let truth = pos (paid (whole_problem rules_are table) (series_of table claim)) in
    let total : to_z w128 (of_z w128 claim.total) ≡ claim.total = to_z-of_z w128 claim.total (search rules) in
    let part : to_z w128 (of_z w128 c.in-Ok.paid) ≡ c.in-Ok.paid = to_z-of_z w128 c.in-Ok.paid (search rules) in
    λ _. same_repair c.in-Ok.series (series_of table claim) claim.flow (to_z w128 (of_z w128 claim.total)) claim.total (to_z w128 (of_z w128 c.in-Ok.paid)) truth c.in-Ok.ensures.numbers.series_is total (part ∙ c.in-Ok.ensures.numbers.paid_is)
    ∙ answer_none (repair_faults rules_are table claim) (Repair (series_of table claim) claim.flow claim.total truth) c.in-Ok.ensures.passed

pub returns-in-Err : goal.returns-in-Err
returns-in-Err c =
    let rules_are = c.args.rules.now in
    let table = c.args.table.now in
    let claim = c.args.claim in
    λ other. answer_fault (repair_faults rules_are table claim) (Repair (series_of table claim) claim.flow claim.total (pos (paid (whole_problem rules_are table) (series_of table claim)))) c.in-Err.fault
    (c.in-Err.ensures.refused (λ same. other (ap Err same)))
