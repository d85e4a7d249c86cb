use Rattle.cert_check.proofs.Steps.{last_is}
use Rattle.cert_check.proofs.cycle.last_second.Goals as goal

pub returns-in-Some : goal.returns-in-Some
returns-in-Some c = last_is c.args.cycle.now c.in-Some.bound.now c.in-Some.ensures.value
