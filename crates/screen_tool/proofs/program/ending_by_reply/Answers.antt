use Rattle.cert_check.specs.Laws.{IsTrueClaim}
use Rattle.least_cost.specs.Answer.{CountsChanges}
use Rattle.screen_words.specs.declared.status.Ending.TheVariants.{Ended, WriteFault}
use Rattle.screen_tool.proofs.Due.{unused}
use Rattle.screen_tool.proofs.Steps.{any_reply}
use Rattle.screen_tool.proofs.program.ending_by_reply.Goals as goal

pub returns-in-Ok-write_reply-clause-performs : goal.returns-in-Ok-write_reply-clause-performs
returns-in-Ok-write_reply-clause-performs g c =
    let q = any_reply g.S.Source.left g.S.Source.faults (λ problem. CountsChanges problem (g.V.Solver.most c.reply_of.new.solver) (g.V.Solver.last c.reply_of.new.solver)) IsTrueClaim c.args.command c.args.ins.now c.reply_of.new.ins c.in-Ok.reply c.in-Ok.ensures.answer in
    (q.0, q.1.outcome, q.2, c.in-Ok-write_reply.ensures.texts q.0 q.1)

pub returns-in-Ok-clause-performs : goal.returns-in-Ok-clause-performs
returns-in-Ok-clause-performs g c =
    let q = any_reply g.S.Source.left g.S.Source.faults (λ problem. CountsChanges problem (g.V.Solver.most c.reply_of.new.solver) (g.V.Solver.last c.reply_of.new.solver)) IsTrueClaim c.args.command c.args.ins.now c.reply_of.new.ins c.in-Ok.reply c.in-Ok.ensures.answer in
    (q.0, q.2, c.in-Err-write_reply.ensures.texts q.0 q.1)

pub returns-in-Ok-write_reply-clause-unused : goal.returns-in-Ok-write_reply-clause-unused
returns-in-Ok-write_reply-clause-unused g c =
    unused g.S.Source.left g.S.Source.faults g.K.Sink.held g.K.Sink.faults c.args.command c.args.ins.now c.reply_of.new.ins c.args.outs.now c.write_reply.new.outs (Ended c.in-Ok.reply.outcome) (returns-in-Ok-write_reply-clause-performs g c) c.in-Ok.ensures.idle c.in-Ok.ensures.unread

pub returns-in-Ok-clause-unused : goal.returns-in-Ok-clause-unused
returns-in-Ok-clause-unused g c =
    unused g.S.Source.left g.S.Source.faults g.K.Sink.held g.K.Sink.faults c.args.command c.args.ins.now c.reply_of.new.ins c.args.outs.now c.write_reply.new.outs WriteFault (returns-in-Ok-clause-performs g c) c.in-Ok.ensures.idle c.in-Ok.ensures.unread
