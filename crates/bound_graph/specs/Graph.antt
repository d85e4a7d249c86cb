-- To be believed: the graph of bounds, and the arcs that leave a node.
use Rattle.std.specs.Prelude.{ℕ, suc, ◌+◌, ◌==◌, if◌then◌else◌, List, [], ◌∷◌, length, map}
use Rattle.screen_model.specs.declared.place.Place.{Place}
use Rattle.screen_model.specs.declared.place.End.{End}
use Rattle.screen_model.specs.declared.place.End.TheVariants.{Zero, At}
use Rattle.screen_model.specs.declared.bound.Bound.{Bound}
use Rattle.screen_model.specs.Series.{is_same_place}
use Rattle.bound_graph.specs.declared.arc.Arc.{Arc}

-- a directed graph: the number of nodes, and the arcs by their numbers
pub record Digraph : Type 0 where
  pub nodes : ℕ
  pub arcs : List Arc

-- how many places stand before this one
abbrev pub index_of : List Place → Place → ℕ
index_of [] p = 0
index_of (q ∷ places) p = if is_same_place p q then 0 else suc (index_of places p)

-- node 0 is the end Zero, and node i + 1 the reading at place i
abbrev pub node_of : List Place → End → ℕ
node_of places Zero = 0
node_of places (At p) = suc (index_of places p)

-- from the bound's first end to its second, for its limit
abbrev pub arc_of_bound : List Place → Bound → Arc
arc_of_bound places bound = record { tail = node_of places bound.first; head = node_of places bound.second; cost = bound.limit }

-- the arcs of bounds, each under its bound's number
abbrev pub arcs_of_bounds : List Place → List Bound → List Arc
arcs_of_bounds places bounds = map (arc_of_bound places) bounds

abbrev pub graph_of : List Place → List Bound → Digraph
graph_of places bounds = record { nodes = length places + 1; arcs = arcs_of_bounds places bounds }

-- the numbers of the arcs that leave a node, in rising order; the first arc of the list has the number given
abbrev pub leaving_from : ℕ → List Arc → ℕ → List ℕ
leaving_from number [] node = []
leaving_from number (arc ∷ arcs) node =
    if arc.tail == node then number ∷ leaving_from (number + 1) arcs node else leaving_from (number + 1) arcs node

abbrev pub leaving : List Arc → ℕ → List ℕ
leaving arcs node = leaving_from 0 arcs node
