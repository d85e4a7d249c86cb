use Rattle.bound_graph.proofs.Values.{obeys_is_respects}
use Rattle.bound_graph.proofs.laws.obeying_is_respecting.Goals as goal

pub returns : goal.returns
returns c = obeys_is_respects
