use Rattle.bound_graph.proofs.Among.{respects}
use Rattle.bound_graph.proofs.laws.respects_those_among.Goals as goal

pub returns : goal.returns
returns c = respects
