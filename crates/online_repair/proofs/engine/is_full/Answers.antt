use Rattle.online_repair.proofs.Greatest.{not_full}
use Rattle.online_repair.proofs.engine.is_full.Goals as goal

pub returns-else-is_full : goal.returns-else-is_full
returns-else-is_full c = not_full c.args.held.now.capacity c.args.most c.args.now c.args.held.now.items c.requires c.is_full.result c.is_full.ensures c.if-is_full.false
