use Rattle.bound_graph.proofs.Nodes.{numbered_more}
use Rattle.bound_graph.proofs.index.node_map.Goals as goal

pub loop-i-preserved : goal.loop-i-preserved
loop-i-preserved c = numbered_more c.args.places.now c.loop-i.i _ c.loop-i.nodes c.insert.new.self c.requires.distinct c.loop-i-test.true c.loop-i.invariant c.in_ok-insert.ensures.updates
