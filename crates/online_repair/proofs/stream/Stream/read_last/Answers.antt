use Rattle.std.proofs.Common.{Ok, refl, ap, ◌∙◌}
use Rattle.online_repair.proofs.Own.{can_read, own_last_event, own_last_may, own_last_none, own_last_refused}
use Rattle.online_repair.proofs.stream.Stream.read_last.Goals as goal

pub finish-requires : goal.finish-requires
finish-requires c = can_read c.args.self.now c.requires

pub take-requires : goal.take-requires
take-requires c = own_last_may c.args.self.now c.finish.result c.in-Ok-Some.event (c.in-Ok-Some.is ∙ ap Ok c.in-Ok-Some.field-0-is) c.finish.ensures.ends c.requires

pub returns-in-Ok-None : goal.returns-in-Ok-None
returns-in-Ok-None c = own_last_none c.one_answer.ensures c.args.self.now _ c.finish.result c.args.out.now.items (c.in-Ok-None.is ∙ ap Ok c.in-Ok-None.field-0-is) c.finish.ensures.ends refl refl

pub returns-in-Ok-Some : goal.returns-in-Ok-Some
returns-in-Ok-Some c =
    own_last_event c.one_answer.ensures c.args.self.now _ c.finish.result c.in-Ok-Some.event c.take.result c.args.out.now.items c.take.new.out.items (c.in-Ok-Some.is ∙ ap Ok c.in-Ok-Some.field-0-is) c.finish.ensures.ends refl c.take.ensures

pub returns-in-Err : goal.returns-in-Err
returns-in-Err c =
    own_last_refused c.one_answer.ensures c.read_stays.ensures c.args.self.now c.finish.result c.in-Err.fault c.fault_of.result c.args.out.now.items c.in-Err.is c.fault_of.ensures c.finish.ensures.ends
