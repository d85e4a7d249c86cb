use Rattle.std.proofs.Common.{◌≡◌, ◌∙◌, Option, Some, subst, sym}
use Rattle.cert_check.specs.Laws.{IsTrueClaim}
use Rattle.least_cost.specs.Answer.{CountsChanges}
use Rattle.repair_report.specs.Report.{report_text}
use Rattle.screen_words.specs.declared.command.Command.{Command}
use Rattle.screen_words.specs.declared.command.Command.TheVariants.{Check, Global, Online, Report, Sample}
use Rattle.screen_words.specs.declared.status.Ending.TheVariants as ending
use Rattle.screen_words.specs.declared.status.Outcome.TheVariants as outcome
use Rattle.screen_tool.specs.Answers.{Answers, AnswersBy}
use Rattle.screen_tool.specs.Check.{check_text}
use Rattle.screen_words.specs.Command.{roles_of, texts}
use Rattle.screen_words.specs.Ending.{status_of}
use Rattle.screen_words.specs.Note.{note_text}
use Rattle.screen_steps.specs.Performance.{IsDue, Performs}
use Rattle.screen_tool.specs.Sample.{HasLimits}
use Rattle.screen_tool.proofs.Decided.{headline, is_done}
use Rattle.screen_tool.proofs.DecidedCheck.{headline_check}
use Rattle.screen_tool.proofs.Due.{due}
use Rattle.screen_tool.proofs.SampleSteps.{words_limits, writes_summary}
use Rattle.screen_steps.proofs.Reading.{noted}
use Rattle.screen_tool.specs.Leaves.{Leaves}
use Rattle.screen_tool.proofs.DecidedOnline.{headline_online}
use Rattle.screen_tool.proofs.DecidedSample.{decides_sample}
use Rattle.screen_tool.proofs.OnlineSteps.{leaves_noted}
use Rattle.screen_tool.proofs.program.run.Goals as goal

pub returns-clause-performs : goal.returns-clause-performs
returns-clause-performs g c =
    let how = c.ending_of-ending.result in
    let note = noted g.K.Sink.held g.K.Sink.faults (note_text how) c.as_bytes.result.now _ _ c.write_all_of.result
    (c.as_bytes.ensures.value ∙ c.as_str.ensures.value ∙ c.note_of-note.ensures)
    c.write_all_of.ensures.whole c.write_all_of.ensures.part c.write_all_of.ensures.cause c.write_all_of.ensures.unfailed
    in
    let left = leaves_noted g.S.Source.left g.S.Source.faults g.K.Sink.held g.K.Sink.faults c.command_from.result c.args.ins.now c.ending_of-ending.new.ins c.args.outs.now c.ending_of-ending.new.outs c.write_all_of.new.sink how c.ending_of-ending.ensures.performs in (
      how,
      c.status.ensures,
      rw (← c.ending_of-ending.ensures.note) note,
      subst
          (λ (command : Option Command). Leaves g.S.Source.left g.S.Source.faults g.K.Sink.held g.K.Sink.faults command c.args.ins.now c.ending_of-ending.new.ins c.args.outs.now (record c.ending_of-ending.new.outs { note = c.write_all_of.new.sink }) how)
          c.command_from.ensures left,
    )

pub returns-clause-due : goal.returns-clause-due
returns-clause-due g c =
    let is_due = due g.S.Source.left g.S.Source.faults g.K.Sink.held g.K.Sink.faults c.one_outcome.ensures c.rests_on_read.ensures c.command_from.result c.args.ins.now c.ending_of-ending.new.ins c.args.outs.now c.ending_of-ending.new.outs c.ending_of-ending.result c.ending_of-ending.ensures.performs in
    rw c.status.ensures (subst (λ (command : Option Command). IsDue g.S.Source.left (roles_of command) (Answers command) c.args.ins.now (status_of c.ending_of-ending.result)) c.command_from.ensures is_due)

pub returns-clause-headline : goal.returns-clause-headline
returns-clause-headline g c = λ is.
    let how = c.ending_of-ending.result in
    let asked : c.command_from.result ≡ Some Global = c.command_from.ensures ∙ is in
    let outs_now = record c.ending_of-ending.new.outs { note = c.write_all_of.new.sink } in
    let left = leaves_noted g.S.Source.left g.S.Source.faults g.K.Sink.held g.K.Sink.faults c.command_from.result c.args.ins.now c.ending_of-ending.new.ins c.args.outs.now c.ending_of-ending.new.outs c.write_all_of.new.sink how c.ending_of-ending.ensures.performs in
    let given = subst (λ (command : Option Command). Leaves g.S.Source.left g.S.Source.faults g.K.Sink.held g.K.Sink.faults command c.args.ins.now c.ending_of-ending.new.ins c.args.outs.now outs_now how) asked left in
    rw c.status.ensures
    (headline g.S.Source.left g.S.Source.faults g.K.Sink.held g.K.Sink.faults c.files_are_one.ensures.rules c.files_are_one.ensures.readings c.args.ins.now c.ending_of-ending.new.ins c.args.outs.now outs_now
    (g.V.Solver.most c.ending_of-ending.new.solver) (g.V.Solver.last c.ending_of-ending.new.solver) how given
    (λ done. subst
    (λ (command : Option Command). Performs g.S.Source.left g.S.Source.faults g.K.Sink.held g.K.Sink.faults (AnswersBy (λ problem. CountsChanges problem (g.V.Solver.most c.ending_of-ending.new.solver) (g.V.Solver.last c.ending_of-ending.new.solver)) IsTrueClaim command) c.args.ins.now c.ending_of-ending.new.ins c.args.outs.now outs_now (ending.Ended outcome.Done))
    asked (c.ending_of-ending.ensures.counts done))
    (λ failed. c.ending_of-ending.ensures.read_faults asked failed))

pub returns-clause-check : goal.returns-clause-check
returns-clause-check g c = λ is.
    let how = c.ending_of-ending.result in
    let asked : c.command_from.result ≡ Some Check = c.command_from.ensures ∙ is in
    let outs_now = record c.ending_of-ending.new.outs { note = c.write_all_of.new.sink } in
    let left = leaves_noted g.S.Source.left g.S.Source.faults g.K.Sink.held g.K.Sink.faults c.command_from.result c.args.ins.now c.ending_of-ending.new.ins c.args.outs.now c.ending_of-ending.new.outs c.write_all_of.new.sink how c.ending_of-ending.ensures.performs in
    let given = subst (λ (command : Option Command). Leaves g.S.Source.left g.S.Source.faults g.K.Sink.held g.K.Sink.faults command c.args.ins.now c.ending_of-ending.new.ins c.args.outs.now outs_now how) asked left in
    rw c.status.ensures
    (headline_check g.S.Source.left g.S.Source.faults g.K.Sink.held g.K.Sink.faults (λ rules table. check_text) c.files_are_one.ensures.rules c.files_are_one.ensures.readings c.files_are_one.ensures.certs
    c.args.ins.now c.ending_of-ending.new.ins c.args.outs.now outs_now how given
    (λ done. subst
    (λ (command : Option Command). Performs g.S.Source.left g.S.Source.faults g.K.Sink.held g.K.Sink.faults (AnswersBy (λ problem. CountsChanges problem (g.V.Solver.most c.ending_of-ending.new.solver) (g.V.Solver.last c.ending_of-ending.new.solver)) IsTrueClaim command) c.args.ins.now c.ending_of-ending.new.ins c.args.outs.now outs_now (ending.Ended outcome.Done))
    asked (c.ending_of-ending.ensures.counts done)))

pub returns-clause-report : goal.returns-clause-report
returns-clause-report g c = λ is.
    let how = c.ending_of-ending.result in
    let asked : c.command_from.result ≡ Some Report = c.command_from.ensures ∙ is in
    let outs_now = record c.ending_of-ending.new.outs { note = c.write_all_of.new.sink } in
    let left = leaves_noted g.S.Source.left g.S.Source.faults g.K.Sink.held g.K.Sink.faults c.command_from.result c.args.ins.now c.ending_of-ending.new.ins c.args.outs.now c.ending_of-ending.new.outs c.write_all_of.new.sink how c.ending_of-ending.ensures.performs in
    let given = subst (λ (command : Option Command). Leaves g.S.Source.left g.S.Source.faults g.K.Sink.held g.K.Sink.faults command c.args.ins.now c.ending_of-ending.new.ins c.args.outs.now outs_now how) asked left in
    rw c.status.ensures
    (headline_check g.S.Source.left g.S.Source.faults g.K.Sink.held g.K.Sink.faults report_text c.files_are_one.ensures.rules c.files_are_one.ensures.readings c.files_are_one.ensures.certs
    c.args.ins.now c.ending_of-ending.new.ins c.args.outs.now outs_now how given
    (λ done. subst
    (λ (command : Option Command). Performs g.S.Source.left g.S.Source.faults g.K.Sink.held g.K.Sink.faults (AnswersBy (λ problem. CountsChanges problem (g.V.Solver.most c.ending_of-ending.new.solver) (g.V.Solver.last c.ending_of-ending.new.solver)) IsTrueClaim command) c.args.ins.now c.ending_of-ending.new.ins c.args.outs.now outs_now (ending.Ended outcome.Done))
    asked (c.ending_of-ending.ensures.counts done)))

pub returns-clause-online : goal.returns-clause-online
returns-clause-online g c = λ is.
    let how = c.ending_of-ending.result in
    let asked : c.command_from.result ≡ Some Online = c.command_from.ensures ∙ is in
    let outs_now = record c.ending_of-ending.new.outs { note = c.write_all_of.new.sink } in
    let left = leaves_noted g.S.Source.left g.S.Source.faults g.K.Sink.held g.K.Sink.faults c.command_from.result c.args.ins.now c.ending_of-ending.new.ins c.args.outs.now c.ending_of-ending.new.outs c.write_all_of.new.sink how c.ending_of-ending.ensures.performs in
    let given = subst (λ (command : Option Command). Leaves g.S.Source.left g.S.Source.faults g.K.Sink.held g.K.Sink.faults command c.args.ins.now c.ending_of-ending.new.ins c.args.outs.now outs_now how) asked left in
    rw c.status.ensures
    (headline_online g.S.Source.left g.S.Source.faults g.K.Sink.held g.K.Sink.faults c.rests_on_read.ensures c.files_are_one.ensures.rules c.outputs_are_one.ensures c.refusals_stay.ensures
    c.repairs_cost_least.ensures c.repairs_keep_the_rates.ensures c.args.ins.now c.ending_of-ending.new.ins c.args.outs.now outs_now how given)

pub returns-clause-sample_status : goal.returns-clause-sample_status
returns-clause-sample_status g c = λ rows seed is.
    let how = c.ending_of-ending.result in
    let asked : c.command_from.result ≡ Some (Sample rows seed) = c.command_from.ensures ∙ is in
    let outs_now = record c.ending_of-ending.new.outs { note = c.write_all_of.new.sink } in
    let left = leaves_noted g.S.Source.left g.S.Source.faults g.K.Sink.held g.K.Sink.faults c.command_from.result c.args.ins.now c.ending_of-ending.new.ins c.args.outs.now c.ending_of-ending.new.outs c.write_all_of.new.sink how c.ending_of-ending.ensures.performs in
    let given = subst (λ (command : Option Command). Leaves g.S.Source.left g.S.Source.faults g.K.Sink.held g.K.Sink.faults command c.args.ins.now c.ending_of-ending.new.ins c.args.outs.now outs_now how) asked left in
    rw c.status.ensures
    (decides_sample g.S.Source.left g.S.Source.faults g.K.Sink.held g.K.Sink.faults rows seed c.files_are_one.ensures.rules c.files_are_one.ensures.readings
    c.args.ins.now c.ending_of-ending.new.ins c.args.outs.now outs_now how given (c.ending_of-ending.ensures.none_read rows seed asked))

pub returns-clause-sample : goal.returns-clause-sample
returns-clause-sample g c = λ rows seed is done.
    let asked : c.command_from.result ≡ Some (Sample rows seed) = c.command_from.ensures ∙ is in
    let ended = is_done c.ending_of-ending.result (sym c.status.ensures ∙ done) in
    writes_summary g.S.Source.left g.S.Source.faults g.K.Sink.held g.K.Sink.faults
    (g.V.Solver.most c.ending_of-ending.new.solver) (g.V.Solver.last c.ending_of-ending.new.solver) rows seed c.args.ins.now c.ending_of-ending.new.ins c.args.outs.now
    (record c.ending_of-ending.new.outs { note = c.write_all_of.new.sink })
    (subst
    (λ (command : Option Command). Performs g.S.Source.left g.S.Source.faults g.K.Sink.held g.K.Sink.faults (AnswersBy (λ problem. CountsChanges problem (g.V.Solver.most c.ending_of-ending.new.solver) (g.V.Solver.last c.ending_of-ending.new.solver)) IsTrueClaim command) c.args.ins.now c.ending_of-ending.new.ins c.args.outs.now (record c.ending_of-ending.new.outs { note = c.write_all_of.new.sink }) (ending.Ended outcome.Done))
    asked (c.ending_of-ending.ensures.counts ended))

pub ending_of-ending-requires : goal.ending_of-ending-requires
ending_of-ending-requires g c = subst HasLimits (sym c.command_from.ensures) (words_limits (texts c.args.words.now))
