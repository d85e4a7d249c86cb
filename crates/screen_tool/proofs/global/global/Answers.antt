use Rattle.std.proofs.Common.{inr, ℕ, List}
use Rattle.std.proofs.lemmas.Result.{err_from_is_err_and}
use Rattle.least_cost.specs.Answer.{CountsChanges}
use Rattle.rule_file.specs.declared.rules.Rules.{Rules}
use Rattle.series_csv.specs.File.{TableView}
use Rattle.screen_steps.specs.Answer.{Answer}
use Rattle.screen_tool.specs.Global.{AnswersTableBy}
use Rattle.screen_tool.proofs.AnswerLaws.{global_wholly}
use Rattle.screen_tool.proofs.Steps.{table_comes}
use Rattle.screen_steps.proofs.Reading.{rules_end, readings_end, readings_no_done, readings_no_usage, readings_counted, err_one}
use Rattle.screen_tool.proofs.global.global.Goals as goal

abbrev Follows : Rules → TableView → List ℕ → Answer → Type 0
Follows rules table cert = AnswersTableBy (λ problem outcome. Unit {0}) rules table

pub returns-in_err-rules-clause-answer : goal.returns-in_err-rules-clause-answer
returns-in_err-rules-clause-answer g c =
    let p = err_from_is_err_and c.from_residual.result c.from_residual.ensures.1 in
    rw (p.1, p.2) (rules_end g.S.Source.left g.S.Source.faults Follows (global_wholly (λ problem outcome. Unit {0})) _ _ _ c.in_err-rules.ensures)

pub returns-in_err-table-clause-answer : goal.returns-in_err-table-clause-answer
returns-in_err-table-clause-answer g c =
    let p = err_from_is_err_and c.from_residual-in_err-table.result c.from_residual-in_err-table.ensures.1 in
    rw (p.1, p.2) (readings_end g.S.Source.left g.S.Source.faults Follows (global_wholly (λ problem outcome. Unit {0})) c.files_are_one.ensures.rules _ _ _ _ _ c.in_ok-rules.ensures c.in_err-table.ensures)

pub returns-in_err-table-clause-no_usage : goal.returns-in_err-table-clause-no_usage
returns-in_err-table-clause-no_usage g c =
    let p = err_from_is_err_and c.from_residual-in_err-table.result c.from_residual-in_err-table.ensures.1 in
    rw (p.1, p.2) (λ same. readings_no_usage c.in_err-table.field-0.0 (err_one same))

pub returns-in_err-table-clause-no_done : goal.returns-in_err-table-clause-no_done
returns-in_err-table-clause-no_done g c =
    let p = err_from_is_err_and c.from_residual-in_err-table.result c.from_residual-in_err-table.ensures.1 in
    rw (p.1, p.2) (λ same. readings_no_done c.in_err-table.field-0.0 (err_one same))

pub returns-in_err-table-clause-read_faults : goal.returns-in_err-table-clause-read_faults
returns-in_err-table-clause-read_faults g c =
    let p = err_from_is_err_and c.from_residual-in_err-table.result c.from_residual-in_err-table.ensures.1 in
    rw (p.1, p.2) (λ same. inr (readings_counted g.S.Source.left g.S.Source.faults c.args.ins.now _ _ _ c.in_err-table.ensures (err_one same)))

pub returns-clause-answer : goal.returns-clause-answer
returns-clause-answer g c =
    table_comes g.S.Source.left g.S.Source.faults (λ problem. CountsChanges problem (g.V.Solver.most c.reply_over.new.solver) (g.V.Solver.last c.reply_over.new.solver)) c.files_are_one.ensures.rules c.args.ins.now _ _ _ _ _ c.in_ok-rules.ensures c.in_ok-table.ensures c.reply_over.ensures.answer
