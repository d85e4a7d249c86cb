use Rattle.std.proofs.Common.{◌≤◌, length, arith}
use Rattle.std.proofs.lemmas.Result.{err_from_is_err_and}
use Rattle.least_cost.specs.Answer.{CountsChanges}
use Rattle.screen_model.specs.declared.limits.TheConstants.{MOST_READINGS}
use Rattle.series_csv.specs.Readings.{places}
use Rattle.screen_tool.proofs.Steps.{repair_comes, repair_fails}
use Rattle.screen_tool.proofs.Written.{found_for}
use Rattle.screen_tool.proofs.global.reply_over.Goals as goal

pub returns-in_err-found-clause-answer : goal.returns-in_err-found-clause-answer
returns-in_err-found-clause-answer g c =
    let p = err_from_is_err_and c.from_residual.result c.from_residual.ensures.1 in
    rw (p.1, p.2) (repair_fails (λ problem. CountsChanges problem (g.V.Solver.most c.repair.new.solver) (g.V.Solver.last c.repair.new.solver)) c.args.rules.now c.args.table.now c.in_err-found.field-0.0 c.in_err-found.ensures.too_many)

pub reply_of-requires : goal.reply_of-requires
reply_of-requires g c =
    let few : length (places c.args.table.now) ≤ MOST_READINGS = omega (arith, c.places-places.ensures.len, c.len-len.ensures.len, c.len-len.ensures.most) in
    found_for c.args.rules.now c.args.table.now c.in_ok-found.found c.names_can_be_written.ensures c.problem_is_sound.ensures c.truth_is_accepted.ensures c.shown_is_short.ensures c.places-places.ensures.order few c.in_ok-found.ensures.few c.in_ok-found.ensures.answer c.in_ok-found.ensures.made

pub returns-clause-answer : goal.returns-clause-answer
returns-clause-answer g c =
    let few : length (places c.args.table.now) ≤ MOST_READINGS = omega (arith, c.places-places.ensures.len, c.len-len.ensures.len, c.len-len.ensures.most) in
    let found = found_for c.args.rules.now c.args.table.now c.in_ok-found.found c.names_can_be_written.ensures c.problem_is_sound.ensures c.truth_is_accepted.ensures c.shown_is_short.ensures c.places-places.ensures.order few c.in_ok-found.ensures.few c.in_ok-found.ensures.answer c.in_ok-found.ensures.made in
    repair_comes (λ problem. CountsChanges problem (g.V.Solver.most c.repair.new.solver) (g.V.Solver.last c.repair.new.solver)) c.args.rules.now c.args.table.now c.in_ok-found.found c.in_ok-reply.reply
    c.in_ok-found.ensures.few found c.in_ok-found.ensures.changes c.in_ok-reply.ensures.texts
