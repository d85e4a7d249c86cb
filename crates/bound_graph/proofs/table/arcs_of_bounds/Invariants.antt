use Rattle.std.proofs.Common.{◌≡◌, map, take}
use Rattle.bound_graph.specs.Graph.{arc_of_bound}
use Rattle.bound_graph.specs.Index.{IsIndexed}
use Rattle.bound_graph.proofs.table.arcs_of_bounds.Given as goal

abbrev pub invariant-loop-bound : goal.invariant-loop-bound
invariant-loop-bound l = record {
  indexed : IsIndexed l.places l.index;
  arcs : l.arcs ≡ map (arc_of_bound l.places) (take l.bound-index l.bound-items);
}
