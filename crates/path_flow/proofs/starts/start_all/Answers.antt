use Rattle.std.proofs.Common.{pos, sym, ◌∙◌, arith}
use Rattle.std.proofs.lemmas.List.{ext_get_or}
use Rattle.path_flow.proofs.starts.start_all.Goals as goal

pub returns-clause-starts : goal.returns-clause-starts
returns-clause-starts c =
    let is = c.nodes-node-end.ensures.network in
    let done = c.loop-node.invariant in
    ext_get_or (pos 0) c.loop-node.room.distances c.args.net.now.potentials (done.size ∙ sym is.potential_each)
    (λ i below. done.done i (omega (arith, done.size, c.loop-node-test.false, c.loop-node.auto.node-end, c.nodes-node-end.ensures.count)))
