use Rattle.bound_graph.proofs.Arcs.{arcs_of_bounds_valid}
use Rattle.bound_graph.proofs.laws.arcs_of_bounds_are_arcs.Goals as goal

pub returns : goal.returns
returns c = arcs_of_bounds_valid
