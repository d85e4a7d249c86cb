use Rattle.cancel_flow.proofs.Pushing.{value_nears}
use Rattle.cancel_flow.proofs.cancel.cancel_all.Goals as goal

pub cycles-smaller : goal.cycles-smaller
cycles-smaller c = value_nears c.cycles.net c.push_around.new.net c.push_around.ensures.network c.push_around.ensures.value
