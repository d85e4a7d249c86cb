use Rattle.std.proofs.Common.{Some, ap, refl, sym}
use Rattle.std.proofs.lemmas.Result.{err_from_is_err_and}
use Rattle.repair_report.specs.Report.{report_text}
use Rattle.screen_tool.proofs.CheckSteps.{checked_ends, checked_replies}
use Rattle.screen_tool.proofs.report.report.Goals as goal

pub returns-in_err-checked-clause-answer : goal.returns-in_err-checked-clause-answer
returns-in_err-checked-clause-answer g c =
    let p = err_from_is_err_and c.from_residual.result c.from_residual.ensures.1 in
    rw (p.1, p.2) (c.in_err-checked.ensures.checked report_text)

pub returns-in_err-text-clause-answer : goal.returns-in_err-text-clause-answer
returns-in_err-text-clause-answer g c =
    let p = err_from_is_err_and c.from_residual-in_err-text.result c.from_residual-in_err-text.ensures.1 in
    rw (p.1, p.2) (checked_ends g.S.Source.left g.S.Source.faults report_text c.files_are_one.ensures.rules c.files_are_one.ensures.readings _ _ c.in_ok-checked.checked c.in_ok-checked.ensures.checked)

pub returns-clause-answer : goal.returns-clause-answer
returns-clause-answer g c =
    checked_replies g.S.Source.left g.S.Source.faults report_text _ _ c.in_ok-checked.checked _ c.in_ok-checked.ensures.checked
    (record { outcome = refl; cert = refl; out = ap Some (sym c.in_ok-text.ensures) })
