use Rattle.neg_cycle.proofs.Relaxing.{lowers_trans}
use Rattle.neg_cycle.proofs.sweep.sweep_twice.Goals as goal

pub returns-then-sweep_up-clause-lowers : goal.returns-then-sweep_up-clause-lowers
returns-then-sweep_up-clause-lowers g c =
    lowers_trans (g.A.ArcList.listed c.args.arcs.now) c.args.labels.now.distances.items c.sweep_up.new.labels.distances.items c.sweep_down.new.labels.distances.items c.sweep_up.ensures.lowers c.sweep_down.ensures.lowers
