use Rattle.std.proofs.Common.{◌≡◌, ◌≢◌, ◌∙◌, Option, Some, ap, rules, subst, sym}
use Rattle.cert_check.specs.Laws.{IsTrueClaim}
use Rattle.least_cost.specs.Answer.{CountsChanges}
use Rattle.screen_online.specs.Online.{PerformsOnline}
use Rattle.screen_steps.specs.Performance.{LeavesUnused, Performs}
use Rattle.screen_words.specs.Command.{roles_of}
use Rattle.screen_words.specs.declared.command.Command.{Command}
use Rattle.screen_words.specs.declared.command.Command.TheVariants.{Online}
use Rattle.screen_words.specs.declared.status.Ending.TheVariants.{Ended}
use Rattle.screen_words.specs.declared.status.Outcome.TheVariants.{Done}
use Rattle.screen_tool.specs.Answers.{AnswersBy}
use Rattle.screen_tool.specs.Leaves.{Leaves}
use Rattle.screen_tool.proofs.Leaving.{leaves_performed}
use Rattle.screen_tool.proofs.OnlineSteps.{online_unused}
use Rattle.screen_tool.proofs.program.ending_of.Goals as goal

pub returns-in-Some-Online-clause-performs : goal.returns-in-Some-Online-clause-performs
returns-in-Some-Online-clause-performs g c =
    let inner : c.in-Some-Online.field-0 ≡ Online = rw c.in-Some-Online.is at c.in-Some-Online.field-0-is in
    let asked : c.args.command ≡ Some Online = c.in-Some-Online.is ∙ ap Some inner in
    subst (λ (command : Option Command). Leaves g.S.Source.left g.S.Source.faults g.K.Sink.held g.K.Sink.faults command c.args.ins.now c.online.new.ins c.args.outs.now c.online.new.outs c.online.result) (sym asked) c.online.ensures.performs

pub returns-in-Some-Online-clause-counts : goal.returns-in-Some-Online-clause-counts
returns-in-Some-Online-clause-counts g c = λ done.
    let inner : c.in-Some-Online.field-0 ≡ Online = rw c.in-Some-Online.is at c.in-Some-Online.field-0-is in
    let asked : c.args.command ≡ Some Online = c.in-Some-Online.is ∙ ap Some inner in
    subst
    (λ (command : Option Command). Performs g.S.Source.left g.S.Source.faults g.K.Sink.held g.K.Sink.faults (AnswersBy (λ problem. CountsChanges problem (g.V.Solver.most c.args.solver.now) (g.V.Solver.last c.args.solver.now)) IsTrueClaim command) c.args.ins.now c.online.new.ins c.args.outs.now c.online.new.outs (Ended Done))
    (sym asked)
    (subst (λ how. PerformsOnline g.S.Source.left g.S.Source.faults g.K.Sink.held g.K.Sink.faults c.args.ins.now c.online.new.ins c.args.outs.now c.online.new.outs how) done c.online.ensures.performs)

pub returns-in-Some-Online-clause-unused : goal.returns-in-Some-Online-clause-unused
returns-in-Some-Online-clause-unused g c =
    let inner : c.in-Some-Online.field-0 ≡ Online = rw c.in-Some-Online.is at c.in-Some-Online.field-0-is in
    let asked : c.args.command ≡ Some Online = c.in-Some-Online.is ∙ ap Some inner in
    subst (λ (command : Option Command). LeavesUnused (roles_of command) c.args.ins.now c.online.new.ins c.args.outs.now c.online.new.outs) (sym asked)
    (online_unused g.S.Source.left g.S.Source.faults g.K.Sink.held g.K.Sink.faults c.args.ins.now c.online.new.ins c.args.outs.now c.online.new.outs c.online.result c.online.ensures.performs)

pub returns-in_default-clause-performs : goal.returns-in_default-clause-performs
returns-in_default-clause-performs g c =
    let other : c.args.command ≢ Some Online = search rules in
    leaves_performed g.S.Source.left g.S.Source.faults g.K.Sink.held g.K.Sink.faults c.args.command c.args.ins.now c.ending_by_reply.new.ins c.args.outs.now c.ending_by_reply.new.outs c.ending_by_reply.result other c.ending_by_reply.ensures.performs
