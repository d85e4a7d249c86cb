use Rattle.std.proofs.Common.{◌∙◌, arith}
use Rattle.std.proofs.lemmas.List.{length-set}
use Rattle.neg_cycle.specs.Forest.{parent_at}
use Rattle.neg_cycle.specs.Labels.{parent_arc}
use Rattle.neg_cycle.proofs.Writing.{written_more}
use Rattle.neg_cycle.proofs.cycle.write_cycle.Goals as goal

pub loop-place-preserved : goal.loop-place-preserved
loop-place-preserved c =
    let written = c.loop-place.cycle.items in
    record {
      arcs = written_more (λ node. parent_arc (parent_at c.args.parents.now node)) c.args.nodes.now written c.loop-place.place c.arc_into.result (omega arith) (omega arith) c.loop-place.invariant.arcs c.arc_into.ensures;
      room = length-set written c.loop-place.place c.arc_into.result ∙ c.loop-place.invariant.room;
    }
