use Rattle.bound_graph.proofs.Values.{without_price}
use Rattle.bound_graph.proofs.laws.arcs_without_prices.Goals as goal

pub returns : goal.returns
returns c = without_price
