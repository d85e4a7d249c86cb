use Rattle.std.proofs.Common.{◌≡◌, length}
use Rattle.neg_cycle.specs.Labels.{IsLabelling, Lowers}
use Rattle.neg_cycle.proofs.Ranked.{height}
use Rattle.neg_cycle.proofs.sweep.lower.Given as goal

abbrev pub invariant-turns : goal.invariant-turns
invariant-turns g l = record {
  nodes : length l.labels.distances.items ≡ g.A.ArcList.node_count l.arcs;
  labels : IsLabelling (g.A.ArcList.listed l.arcs) (g.A.ArcList.node_count l.arcs) l.labels.distances.items l.labels.parents.items l.labels.ranks.items;
  lowers : Lowers (g.A.ArcList.listed l.arcs) l.initial.labels.distances.items l.labels.distances.items;
  path : length l.path.items ≡ g.A.ArcList.node_count l.arcs;
}

abbrev pub decreases-turns : goal.decreases-turns
decreases-turns g l = height l.labels.distances.items
