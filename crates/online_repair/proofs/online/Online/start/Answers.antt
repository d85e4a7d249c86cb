use Rattle.std.proofs.Common.{[], refl, sym}
use Rattle.online_repair.proofs.online.Online.start.Goals as goal

pub invariant_of-result : goal.invariant_of-result
invariant_of-result c = (c.args.rules.now, [], c.new.ensures)

pub returns : goal.returns
returns c = record { started = (sym c.in_default.ensures, record { stage_is = refl; stream = c.new.ensures }) }
