use Rattle.std.proofs.Common.{◌≡◌, ◌≤◌, ◌+◌, ◌-◌, ℕ, false, length}
use Rattle.bound_graph.specs.Arcs.{arc_at}
use Rattle.bound_graph.specs.Values.{RespectsIfThere}
use Rattle.neg_cycle.specs.Labels.{IsLabelling, Fell, Lowers}
use Rattle.neg_cycle.proofs.sweep.sweep_down.Given as goal

abbrev pub invariant-loop-i : goal.invariant-loop-i
invariant-loop-i g l = record {
  nodes : length l.labels.distances.items ≡ g.A.ArcList.node_count l.arcs;
  labels : IsLabelling (g.A.ArcList.listed l.arcs) (l.bound + (l.count - l.i)) l.labels.distances.items l.labels.parents.items l.labels.ranks.items;
  lowers : Lowers (g.A.ArcList.listed l.arcs) l.initial.labels.distances.items l.labels.distances.items;
  fell : Fell l.fell l.initial.labels.distances.items l.labels.distances.items;
  kept : l.fell ≡ false → (j : ℕ) → l.i ≤ j → RespectsIfThere l.labels.distances.items (arc_at (g.A.ArcList.listed l.arcs) j);
}
