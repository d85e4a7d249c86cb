use Rattle.std.proofs.Common.{◌≡◌, ◌∙◌, Option, Some, MatchResult, ap, sym, subst}
use Rattle.cert_check.specs.Laws.{IsTrueClaim}
use Rattle.least_cost.specs.Answer.{CountsChanges}
use Rattle.screen_words.specs.declared.command.Command.{Command}
use Rattle.screen_words.specs.declared.command.Command.TheVariants.{Check, Global, Online, Report, Sample}
use Rattle.screen_tool.specs.Answers.{Answers, AnswersBy}
use Rattle.screen_tool.specs.Sample.{HasLimits}
use Rattle.screen_steps.specs.Step.{Ends, Replies}
use Rattle.screen_tool.proofs.SampleSteps.{sample_comes}
use Rattle.screen_tool.proofs.Steps.{usage_ends}
use Rattle.screen_tool.proofs.program.reply_of.Goals as goal

pub returns-in-Some-Global-clause-answer : goal.returns-in-Some-Global-clause-answer
returns-in-Some-Global-clause-answer g c =
    let inner : c.in-Some-Global.field-0 ≡ Global = rw c.in-Some-Global.is at c.in-Some-Global.field-0-is in
    let asked : c.args.command ≡ Some Global = c.in-Some-Global.is ∙ ap Some inner in
    subst
    (λ (command : Option Command). MatchResult c.global.result
    (Replies g.S.Source.left g.S.Source.faults (AnswersBy (λ problem. CountsChanges problem (g.V.Solver.most c.global.new.solver) (g.V.Solver.last c.global.new.solver)) IsTrueClaim command) c.args.ins.now c.global.new.ins)
    (Ends g.S.Source.left g.S.Source.faults (Answers command) c.args.ins.now c.global.new.ins))
    (sym asked) c.global.ensures.answer

pub returns-in-Some-Check-clause-answer : goal.returns-in-Some-Check-clause-answer
returns-in-Some-Check-clause-answer g c =
    let inner : c.in-Some-Check.field-0 ≡ Check = rw c.in-Some-Check.is at c.in-Some-Check.field-0-is in
    let asked : c.args.command ≡ Some Check = c.in-Some-Check.is ∙ ap Some inner in
    subst
    (λ (command : Option Command). MatchResult c.check.result
    (Replies g.S.Source.left g.S.Source.faults (AnswersBy (λ problem. CountsChanges problem (g.V.Solver.most c.args.solver.now) (g.V.Solver.last c.args.solver.now)) IsTrueClaim command) c.args.ins.now c.check.new.ins)
    (Ends g.S.Source.left g.S.Source.faults (Answers command) c.args.ins.now c.check.new.ins))
    (sym asked) c.check.ensures.answer

pub returns-in-Some-Report-clause-answer : goal.returns-in-Some-Report-clause-answer
returns-in-Some-Report-clause-answer g c =
    let inner : c.in-Some-Report.field-0 ≡ Report = rw c.in-Some-Report.is at c.in-Some-Report.field-0-is in
    let asked : c.args.command ≡ Some Report = c.in-Some-Report.is ∙ ap Some inner in
    subst
    (λ (command : Option Command). MatchResult c.report.result
    (Replies g.S.Source.left g.S.Source.faults (AnswersBy (λ problem. CountsChanges problem (g.V.Solver.most c.args.solver.now) (g.V.Solver.last c.args.solver.now)) IsTrueClaim command) c.args.ins.now c.report.new.ins)
    (Ends g.S.Source.left g.S.Source.faults (Answers command) c.args.ins.now c.report.new.ins))
    (sym asked) c.report.ensures.answer

pub returns-in-Some-Sample-clause-answer : goal.returns-in-Some-Sample-clause-answer
returns-in-Some-Sample-clause-answer g c =
    let inner : c.in-Some-Sample.field-0 ≡ Sample c.in-Some-Sample.rows c.in-Some-Sample.seed = rw c.in-Some-Sample.is at c.in-Some-Sample.field-0-is in
    let asked : c.args.command ≡ Some (Sample c.in-Some-Sample.rows c.in-Some-Sample.seed) = c.in-Some-Sample.is ∙ ap Some inner in
    subst
    (λ (command : Option Command). MatchResult c.sample.result
    (Replies g.S.Source.left g.S.Source.faults (AnswersBy (λ problem. CountsChanges problem (g.V.Solver.most c.sample.new.solver) (g.V.Solver.last c.sample.new.solver)) IsTrueClaim command) c.args.ins.now c.args.ins.now)
    (Ends g.S.Source.left g.S.Source.faults (Answers command) c.args.ins.now c.args.ins.now))
    (sym asked)
    (sample_comes g.S.Source.left g.S.Source.faults (λ problem. CountsChanges problem (g.V.Solver.most c.sample.new.solver) (g.V.Solver.last c.sample.new.solver)) IsTrueClaim c.in-Some-Sample.rows c.in-Some-Sample.seed c.args.ins.now c.sample.result c.sample.ensures.answer)

pub sample-requires : goal.sample-requires
sample-requires g c =
    let inner : c.in-Some-Sample.field-0 ≡ Sample c.in-Some-Sample.rows c.in-Some-Sample.seed = rw c.in-Some-Sample.is at c.in-Some-Sample.field-0-is in
    let asked : c.args.command ≡ Some (Sample c.in-Some-Sample.rows c.in-Some-Sample.seed) = c.in-Some-Sample.is ∙ ap Some inner in
    let limits : HasLimits (Some (Sample c.in-Some-Sample.rows c.in-Some-Sample.seed)) = subst HasLimits asked c.requires.limits in
    record { rows_least = limits.0; rows_most = limits.1; seed = limits.2 }

pub returns-in-None-clause-answer : goal.returns-in-None-clause-answer
returns-in-None-clause-answer g c = usage_ends g.S.Source.left g.S.Source.faults c.args.command c.args.ins.now c.in-None.is

pub returns-in-Some-Online-clause-answer : goal.returns-in-Some-Online-clause-answer
returns-in-Some-Online-clause-answer g c =
    let inner : c.in-Some-Online.field-0 ≡ Online = rw c.in-Some-Online.is at c.in-Some-Online.field-0-is in
    let asked : c.args.command ≡ Some Online = c.in-Some-Online.is ∙ ap Some inner in
    absurd (c.requires.replies asked)

pub returns-in-Some-Online-clause-usage : goal.returns-in-Some-Online-clause-usage
returns-in-Some-Online-clause-usage g c =
    let inner : c.in-Some-Online.field-0 ≡ Online = rw c.in-Some-Online.is at c.in-Some-Online.field-0-is in
    let asked : c.args.command ≡ Some Online = c.in-Some-Online.is ∙ ap Some inner in
    absurd (c.requires.replies asked)
