use Rattle.bound_graph.proofs.Values.{series_obeys}
use Rattle.bound_graph.proofs.laws.distances_give_series.Goals as goal

pub returns : goal.returns
returns c = series_obeys
