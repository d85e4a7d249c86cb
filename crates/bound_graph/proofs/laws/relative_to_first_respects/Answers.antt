use Rattle.bound_graph.proofs.Values.{relative_respects}
use Rattle.bound_graph.proofs.laws.relative_to_first_respects.Goals as goal

pub returns : goal.returns
returns c = relative_respects
