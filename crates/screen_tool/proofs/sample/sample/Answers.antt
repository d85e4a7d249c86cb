use Rattle.std.proofs.Common.{◌∙◌}
use Rattle.std.proofs.lemmas.Result.{err_from_is_err_and}
use Rattle.least_cost.specs.Answer.{CountsChanges}
use Rattle.screen_tool.proofs.SampleSteps.{repair_comes, rules_come, summary_comes, table_comes}
use Rattle.screen_steps.proofs.Reading.{err_one, readings_no_done, readings_no_usage}
use Rattle.screen_tool.proofs.Steps.{repair_no_done, repair_no_usage}
use Rattle.screen_tool.proofs.sample.sample.Goals as goal

pub returns-in_err-rules-clause-answer : goal.returns-in_err-rules-clause-answer
returns-in_err-rules-clause-answer g c =
    let p = err_from_is_err_and c.from_residual-in_err-rules.result c.from_residual-in_err-rules.ensures.1 in
    rw (p.1, p.2) (rules_come (λ problem. CountsChanges problem (g.V.Solver.most c.args.solver.now) (g.V.Solver.last c.args.solver.now)) c.args.rows c.args.seed _ _ (c.as_slice.ensures ∙ c.in_ok-texts.ensures.rules) c.in_err-rules.ensures)

pub returns-clause-answer : goal.returns-clause-answer
returns-clause-answer g c =
    summary_comes (λ problem. CountsChanges problem (g.V.Solver.most c.repair.new.solver) (g.V.Solver.last c.repair.new.solver)) c.args.rows c.args.seed
    c.in_ok-rules.rules _ (c.as_slice.ensures ∙ c.in_ok-texts.ensures.rules) c.in_ok-rules.ensures
    c.in_ok-table.table _ (c.as_slice-2.ensures ∙ c.in_ok-texts.ensures.readings) c.in_ok-table.ensures
    c.in_ok-found.found _ c.in_ok-found.ensures.few c.in_ok-found.ensures.answer c.in_ok-found.ensures.changes c.in_ok-reply.ensures.texts

pub returns-in_err-table-clause-answer : goal.returns-in_err-table-clause-answer
returns-in_err-table-clause-answer g c =
    let p = err_from_is_err_and c.from_residual-in_err-table.result c.from_residual-in_err-table.ensures.1 in
    rw (p.1, p.2) (table_comes (λ problem. CountsChanges problem (g.V.Solver.most c.args.solver.now) (g.V.Solver.last c.args.solver.now)) c.args.rows c.args.seed
    c.in_ok-rules.rules _ (c.as_slice.ensures ∙ c.in_ok-texts.ensures.rules) c.in_ok-rules.ensures _ _ (c.as_slice-2.ensures ∙ c.in_ok-texts.ensures.readings) c.in_err-table.ensures)

pub returns-in_err-table-clause-no_usage : goal.returns-in_err-table-clause-no_usage
returns-in_err-table-clause-no_usage g c =
    let p = err_from_is_err_and c.from_residual-in_err-table.result c.from_residual-in_err-table.ensures.1 in
    rw (p.1, p.2) (λ same. readings_no_usage c.in_err-table.field-0.0 (err_one same))

pub returns-in_err-table-clause-no_done : goal.returns-in_err-table-clause-no_done
returns-in_err-table-clause-no_done g c =
    let p = err_from_is_err_and c.from_residual-in_err-table.result c.from_residual-in_err-table.ensures.1 in
    rw (p.1, p.2) (λ same. readings_no_done c.in_err-table.field-0.0 (err_one same))

pub returns-in_err-found-clause-answer : goal.returns-in_err-found-clause-answer
returns-in_err-found-clause-answer g c =
    let p = err_from_is_err_and c.from_residual-in_err-found.result c.from_residual-in_err-found.ensures.1 in
    rw (p.1, p.2) (repair_comes (λ problem. CountsChanges problem (g.V.Solver.most c.repair.new.solver) (g.V.Solver.last c.repair.new.solver)) c.args.rows c.args.seed
    c.in_ok-rules.rules _ (c.as_slice.ensures ∙ c.in_ok-texts.ensures.rules) c.in_ok-rules.ensures c.in_ok-table.table _ (c.as_slice-2.ensures ∙ c.in_ok-texts.ensures.readings) c.in_ok-table.ensures c.in_err-found.field-0.0 c.in_err-found.ensures.too_many)

pub returns-in_err-found-clause-no_usage : goal.returns-in_err-found-clause-no_usage
returns-in_err-found-clause-no_usage g c =
    let p = err_from_is_err_and c.from_residual-in_err-found.result c.from_residual-in_err-found.ensures.1 in
    rw (p.1, p.2) (λ same. repair_no_usage c.in_err-found.field-0.0 (err_one same))

pub returns-in_err-found-clause-no_done : goal.returns-in_err-found-clause-no_done
returns-in_err-found-clause-no_done g c =
    let p = err_from_is_err_and c.from_residual-in_err-found.result c.from_residual-in_err-found.ensures.1 in
    rw (p.1, p.2) (λ same. repair_no_done c.in_err-found.field-0.0 (err_one same))

pub returns-in_err-reply-clause-answer : goal.returns-in_err-reply-clause-answer
returns-in_err-reply-clause-answer g c =
    let p = err_from_is_err_and c.from_residual-in_err-reply.result c.from_residual-in_err-reply.ensures.1 in
    rw (p.1, p.2) tt
