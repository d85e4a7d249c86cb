use Rattle.bound_graph.proofs.Values.{value_at_node}
use Rattle.bound_graph.proofs.laws.values_at_ends.Goals as goal

pub returns : goal.returns
returns c = value_at_node
