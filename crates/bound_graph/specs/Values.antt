-- To be believed: values at the nodes of a graph, and what it means that they respect its arcs.
use Rattle.std.specs.Prelude.{ℕ, ℤ, pos, ◌+ℤ◌, ◌-ℤ◌, ◌≤ℤ◌, List, map, drop, Option, get_or, IfSome}
use Rattle.bound_graph.specs.declared.arc.Arc.{Arc}
use Rattle.bound_graph.specs.Arcs.{arc_at}

-- the value at a node; the first of the values is that at node 0
abbrev pub value_of : List ℤ → ℕ → ℤ
value_of values node = get_or values node (pos 0)

-- the value at the arc's head is at most the cost above the value at its tail
abbrev pub RespectsArc : List ℤ → Arc → Type 0
RespectsArc values arc = value_of values arc.head ≤ℤ (value_of values arc.tail +ℤ arc.cost)

-- an arc that is not there asks nothing
abbrev pub RespectsIfThere : List ℤ → Option Arc → Type 0
RespectsIfThere values arc = IfSome arc (RespectsArc values)

-- the values respect each arc that is there
abbrev pub RespectsArcs : List ℤ → List (Option Arc) → Type 0
RespectsArcs values arcs = (i : ℕ) → RespectsIfThere values (arc_at arcs i)

-- the values, each less the one at node 0
abbrev pub relative_to_first : List ℤ → List ℤ
relative_to_first values = map (λ value. value -ℤ value_of values 0) values

-- the series that distances give: for each reading the distance of its node, less that of node 0
abbrev pub series_of : List ℤ → List ℤ
series_of distances = drop 1 (relative_to_first distances)
