-- To be believed: arcs transposed, which is with their ends swapped, and values negated.
use Rattle.std.specs.Prelude.{ℤ, pos, ◌-ℤ◌, ◌↔◌, List, map, Option, option_map}
use Rattle.bound_graph.specs.declared.arc.Arc.{Arc}
use Rattle.bound_graph.specs.Values.{RespectsArcs}
use Rattle.neg_cycle.specs.Distances.{IsGreatest, IsLeast}

-- the arc from the head to the tail, at the same cost
abbrev pub transposed : Arc → Arc
transposed arc = record { tail = arc.head; head = arc.tail; cost = arc.cost }

-- each arc that is there transposed, under its number
abbrev pub all_transposed : List (Option Arc) → List (Option Arc)
all_transposed arcs = map (option_map transposed) arcs

abbrev pub negated : List ℤ → List ℤ
negated values = map (λ value. pos 0 -ℤ value) values

-- Values respect arcs exactly where the values negated respect the arcs transposed.
abbrev pub TransposedIsNegated : Type 0
TransposedIsNegated = (arcs : List (Option Arc)) (values : List ℤ) → RespectsArcs values arcs ↔ RespectsArcs (negated values) (all_transposed arcs)

-- So the greatest distances for the arcs transposed and the starts negated are, negated, the least for the arcs and the starts.
abbrev pub LeastByTransposing : Type 0
LeastByTransposing = (arcs : List (Option Arc)) (starts distances : List ℤ) → IsGreatest (all_transposed arcs) (negated starts) distances
    → IsLeast arcs starts (negated distances)
