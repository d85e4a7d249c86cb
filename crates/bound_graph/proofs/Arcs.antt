-- Arcs whose ends are among the nodes.
use Rattle.std.proofs.Common.{◌≡◌, ℕ, ◌+◌, ◌*◌, ◌^◌, ◌<◌, ◌≤◌, List, [], ◌∷◌, length, map, unsigned_abs, arith}
use Rattle.std.specs.List.{AllByRecursion}
use Rattle.screen_model.specs.declared.place.Place.{Place}
use Rattle.screen_model.specs.declared.place.End.{End}
use Rattle.screen_model.specs.declared.place.End.TheVariants.{Zero, At}
use Rattle.screen_model.specs.declared.bound.Bound.{Bound}
use Rattle.bound_graph.specs.declared.arc.Arc.{Arc}
use Rattle.bound_graph.specs.Arcs.{IsArc}
use Rattle.bound_graph.specs.Graph.{node_of, arc_of_bound}
use Rattle.screen_model.specs.Obeys.{HasEnds}
use Rattle.screen_model.specs.Series.{IsEnd}
use Rattle.bound_graph.proofs.Nodes.{index_of_contained}

pub tails_below : (nodes count : ℕ) (arcs : List Arc) → count ≡ nodes + 1 → AllByRecursion (IsArc nodes) arcs → AllByRecursion (λ arc. arc.tail < count) arcs
tails_below nodes count [] e valid = tt
tails_below nodes count (arc ∷ arcs) e valid = (omega (arith, valid.0.tail), tails_below nodes count arcs e valid.1)

pub node_below : (places : List Place) (end : End) → IsEnd places end → node_of places end < length places + 1
node_below places Zero ok = omega arith
node_below places (At p) ok = omega (arith, index_of_contained places p ok)

pub arcs_of_bounds_valid : (places : List Place) (bounds : List Bound) → AllByRecursion (HasEnds places) bounds → AllByRecursion (λ bound. unsigned_abs bound.limit ≤ 4 * 10 ^ 15) bounds
    → AllByRecursion (IsArc (length places + 1)) (map (arc_of_bound places) bounds)
arcs_of_bounds_valid places [] ends limits = tt
arcs_of_bounds_valid places (bound ∷ bounds) ends limits = (
  record { tail = node_below places bound.first ends.0.0; head = node_below places bound.second ends.0.1; cost = limits.0 },
  arcs_of_bounds_valid places bounds ends.1 limits.1,
)
