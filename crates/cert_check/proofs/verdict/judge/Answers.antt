use Rattle.std.proofs.Common.{rules, ◌≡◌, ◌≤◌, ◌∙◌, None, Some, ap, sym, subst, length, of_z, to_z}
use Rattle.std.specs.Int.{w128}
use Rattle.std.proofs.lemmas.Int.{to_z-of_z}
use Rattle.cert_format.specs.declared.cert.Cert.{Cert}
use Rattle.cert_format.specs.declared.limits.TheConstants.{LONGEST}
use Rattle.cert_format.specs.Cert.{HasText, text_of_cert}
use Rattle.cert_check.specs.Judges.{answer_to, answer_to_repair}
use Rattle.cert_check.proofs.Fits.{priced_fits, repair_fits, steps_fit}
use Rattle.cert_check.proofs.verdict.judge.Goals as goal

pub judge_repair-requires-clause-made : goal.judge_repair-requires-clause-made
judge_repair-requires-clause-made c = c.requires.made

pub judge_repair-requires-clause-few : goal.judge_repair-requires-clause-few
judge_repair-requires-clause-few c = c.requires.few

pub judge_repair-requires-clause-fit : goal.judge_repair-requires-clause-fit
judge_repair-requires-clause-fit c =
    repair_fits _ c.in-Repair.total c.in-Repair.sets c.in-Repair.flow (subst (λ (cert : Cert). HasText cert) c.in-Repair.is c.requires.text) (subst (λ (cert : Cert). length (text_of_cert cert) ≤ LONGEST) c.in-Repair.is c.requires.short)

pub judge_repair-requires-in-Priced-clause-made : goal.judge_repair-requires-in-Priced-clause-made
judge_repair-requires-in-Priced-clause-made c = c.requires.made

pub judge_repair-requires-in-Priced-clause-few : goal.judge_repair-requires-in-Priced-clause-few
judge_repair-requires-in-Priced-clause-few c = c.requires.few

pub judge_repair-requires-in-Priced-clause-fit : goal.judge_repair-requires-in-Priced-clause-fit
judge_repair-requires-in-Priced-clause-fit c =
    priced_fits _ _ c.in-Priced.total c.in-Priced.paid c.in-Priced.sets c.in-Priced.flow (subst (λ (cert : Cert). HasText cert) c.in-Priced.is c.requires.text)
    (subst (λ (cert : Cert). length (text_of_cert cert) ≤ LONGEST) c.in-Priced.is c.requires.short)

pub judge_cycle-requires : goal.judge_cycle-requires
judge_cycle-requires c = steps_fit c.in-NoSeries.steps (subst (λ (cert : Cert). length (text_of_cert cert) ≤ LONGEST) c.in-NoSeries.is c.requires.short)

pub returns-in-Repair : goal.returns-in-Repair
returns-in-Repair c =
    let total : to_z w128 (of_z w128 c.in-Repair.total) ≡ c.in-Repair.total = to_z-of_z w128 c.in-Repair.total (search rules) in
    λ other. c.judge_repair.ensures other
    ∙ (ap (λ z. answer_to_repair c.args.rules.now c.args.table.now (record { before = 3; total = z; paid = None; sets = c.in-Repair.sets; flow = c.in-Repair.flow })) total
    ∙ ap (answer_to c.args.rules.now c.args.table.now) (sym c.in-Repair.is))

pub returns-in-Priced : goal.returns-in-Priced
returns-in-Priced c =
    let total : to_z w128 (of_z w128 c.in-Priced.total) ≡ c.in-Priced.total = to_z-of_z w128 c.in-Priced.total (search rules) in
    let paid : to_z w128 (of_z w128 c.in-Priced.paid) ≡ c.in-Priced.paid = to_z-of_z w128 c.in-Priced.paid (search rules) in
    λ other. c.judge_repair-in-Priced.ensures other
    ∙ (ap (λ z. answer_to_repair c.args.rules.now c.args.table.now (record { before = 4; total = z; paid = Some (to_z w128 (of_z w128 c.in-Priced.paid)); sets = c.in-Priced.sets; flow = c.in-Priced.flow })) total
    ∙ (ap (λ z. answer_to_repair c.args.rules.now c.args.table.now (record { before = 4; total = c.in-Priced.total; paid = Some z; sets = c.in-Priced.sets; flow = c.in-Priced.flow })) paid
    ∙ ap (answer_to c.args.rules.now c.args.table.now) (sym c.in-Priced.is)))

pub returns-in-NoSeries : goal.returns-in-NoSeries
returns-in-NoSeries c = λ other. c.judge_cycle.ensures other ∙ ap (answer_to c.args.rules.now c.args.table.now) (sym c.in-NoSeries.is)
