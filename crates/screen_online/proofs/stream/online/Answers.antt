use Rattle.std.proofs.Common.{Ok, Err}
use Rattle.screen_online.proofs.Performing.{repairs_perform, rules_end_so}
use Rattle.screen_online.proofs.stream.online.Goals as goal

pub returns-in-Err-clause-performs : goal.returns-in-Err-clause-performs
returns-in-Err-clause-performs g c =
    rules_end_so g.S.Source.left g.S.Source.faults g.K.Sink.held g.K.Sink.faults c.args.ins.now c.rules_from.new.src c.args.outs.now c.in-Err.fault c.from.result c.from.ensures c.in-Err.ensures

pub returns-in-Ok-repair_all-clause-performs : goal.returns-in-Ok-repair_all-clause-performs
returns-in-Ok-repair_all-clause-performs g c =
    repairs_perform g.S.Source.left g.S.Source.faults g.K.Sink.held g.K.Sink.faults c.args.ins.now c.rules_from.new.src c.repair_all.new.readings c.args.outs.now c.repair_all.new.out c.in-Ok.rules (Ok tt)
    c.in-Ok.ensures c.in-Ok-repair_all.ensures

pub returns-clause-performs : goal.returns-clause-performs
returns-clause-performs g c =
    repairs_perform g.S.Source.left g.S.Source.faults g.K.Sink.held g.K.Sink.faults c.args.ins.now c.rules_from.new.src c.repair_all.new.readings c.args.outs.now c.repair_all.new.out c.in-Ok.rules (Err c.in-Err-repair_all.ending)
    c.in-Ok.ensures c.in-Err-repair_all.ensures
