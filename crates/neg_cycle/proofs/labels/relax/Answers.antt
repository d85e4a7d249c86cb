use Rattle.std.proofs.Common.{sym, subst}
use Rattle.bound_graph.specs.Arcs.{IsArc}
use Rattle.neg_cycle.proofs.Relaxing.{tried}
use Rattle.neg_cycle.proofs.labels.relax.Goals as goal

pub returns-in-Some : goal.returns-in-Some
returns-in-Some g c =
    let head = c.lower_head.ensures in
    let valid = subst (λ nodes. IsArc nodes c.in-Some.arc) (sym c.requires.nodes) c.in-Some.ensures.valid in
    let all = tried (g.A.ArcList.listed c.args.arcs.now) c.args.rank c.args.i c.in-Some.arc c.lower_head.result c.args.labels.now c.lower_head.new.labels c.requires.labels (sym c.in-Some.ensures.found) valid head.when head.same head.distances head.parents head.ranks in
    record { labels = all.labels; lowers = all.lowers; fell = all.falls; kept = all.kept }
