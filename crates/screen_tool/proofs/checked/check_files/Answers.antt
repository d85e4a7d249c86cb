use Rattle.std.proofs.lemmas.Result.{err_from_is_err_and}
use Rattle.screen_steps.specs.Files.{HasFewBounds}
use Rattle.screen_tool.proofs.CheckSteps.{cert_no_done, cert_no_usage, make_no_done, make_no_usage, unchecked_bounds, unchecked_cert, unchecked_readings, unchecked_rules}
use Rattle.screen_steps.proofs.Reading.{err_one, readings_no_done, readings_no_usage}
use Rattle.screen_tool.proofs.checked.check_files.Goals as goal

pub returns-in_err-rules-clause-checked : goal.returns-in_err-rules-clause-checked
returns-in_err-rules-clause-checked g c =
    let p = err_from_is_err_and c.from_residual.result c.from_residual.ensures.1 in
    rw (p.1, p.2) (unchecked_rules g.S.Source.left g.S.Source.faults _ _ _ c.in_err-rules.ensures)

pub returns-in_err-table-clause-checked : goal.returns-in_err-table-clause-checked
returns-in_err-table-clause-checked g c =
    let p = err_from_is_err_and c.from_residual-in_err-table.result c.from_residual-in_err-table.ensures.1 in
    rw (p.1, p.2) (unchecked_readings g.S.Source.left g.S.Source.faults c.files_are_one.ensures.rules _ _ _ _ _ c.in_ok-rules.ensures c.in_err-table.ensures)

pub returns-in_err-table-clause-no_usage : goal.returns-in_err-table-clause-no_usage
returns-in_err-table-clause-no_usage g c =
    let p = err_from_is_err_and c.from_residual-in_err-table.result c.from_residual-in_err-table.ensures.1 in
    rw (p.1, p.2) (λ same. readings_no_usage c.in_err-table.field-0.0 (err_one same))

pub returns-in_err-table-clause-no_done : goal.returns-in_err-table-clause-no_done
returns-in_err-table-clause-no_done g c =
    let p = err_from_is_err_and c.from_residual-in_err-table.result c.from_residual-in_err-table.ensures.1 in
    rw (p.1, p.2) (λ same. readings_no_done c.in_err-table.field-0.0 (err_one same))

pub returns-in_err-bounds-clause-checked : goal.returns-in_err-bounds-clause-checked
returns-in_err-bounds-clause-checked g c =
    let p = err_from_is_err_and c.from_residual-in_err-bounds.result c.from_residual-in_err-bounds.ensures.1 in
    rw (p.1, p.2) (unchecked_bounds g.S.Source.left g.S.Source.faults c.files_are_one.ensures.rules _ _ _ _ _ _ c.in_ok-rules.ensures c.in_ok-table.ensures c.in_err-bounds.ensures.too_many)

pub returns-in_err-bounds-clause-no_usage : goal.returns-in_err-bounds-clause-no_usage
returns-in_err-bounds-clause-no_usage g c =
    let p = err_from_is_err_and c.from_residual-in_err-bounds.result c.from_residual-in_err-bounds.ensures.1 in
    rw (p.1, p.2) (λ same. make_no_usage c.in_err-bounds.field-0.0 (err_one same))

pub returns-in_err-bounds-clause-no_done : goal.returns-in_err-bounds-clause-no_done
returns-in_err-bounds-clause-no_done g c =
    let p = err_from_is_err_and c.from_residual-in_err-bounds.result c.from_residual-in_err-bounds.ensures.1 in
    rw (p.1, p.2) (λ same. make_no_done c.in_err-bounds.field-0.0 (err_one same))

pub returns-in_err-accepted-clause-checked : goal.returns-in_err-accepted-clause-checked
returns-in_err-accepted-clause-checked g c =
    let p = err_from_is_err_and c.from_residual-in_err-accepted.result c.from_residual-in_err-accepted.ensures.1 in
    let few : HasFewBounds c.in_ok-rules.rules c.in_ok-table.table = rw (← c.in_ok-bounds.ensures.made) c.in_ok-bounds.ensures.few in
    rw (p.1, p.2) (unchecked_cert g.S.Source.left g.S.Source.faults c.files_are_one.ensures.rules c.files_are_one.ensures.readings _ _ _ _ _ _ _ c.in_ok-rules.ensures c.in_ok-table.ensures few c.in_err-accepted.ensures)

pub returns-in_err-accepted-clause-no_usage : goal.returns-in_err-accepted-clause-no_usage
returns-in_err-accepted-clause-no_usage g c =
    let p = err_from_is_err_and c.from_residual-in_err-accepted.result c.from_residual-in_err-accepted.ensures.1 in
    rw (p.1, p.2) (λ same. cert_no_usage c.in_err-accepted.field-0.0 (err_one same))

pub returns-in_err-accepted-clause-no_done : goal.returns-in_err-accepted-clause-no_done
returns-in_err-accepted-clause-no_done g c =
    let p = err_from_is_err_and c.from_residual-in_err-accepted.result c.from_residual-in_err-accepted.ensures.1 in
    rw (p.1, p.2) (λ same. cert_no_done c.in_err-accepted.field-0.0 (err_one same))

pub returns-clause-checked : goal.returns-clause-checked
returns-clause-checked g c = record {
  rules = c.in_ok-rules.ensures;
  table = c.in_ok-table.ensures;
  few = rw (← c.in_ok-bounds.ensures.made) c.in_ok-bounds.ensures.few;
  accepted = c.in_ok-accepted.ensures;
  is_true = c.accepted_is_true.ensures _ _ c.in_ok-accepted.ensures.3;
}
