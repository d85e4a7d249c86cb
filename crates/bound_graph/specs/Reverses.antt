-- To be believed: arcs both ways, each followed by its reverse.
use Rattle.std.specs.Prelude.{ℕ, ◌%◌, ◌==◌, Bool, if◌then◌else◌, pos, ◌-ℤ◌, List, [], ◌∷◌}
use Rattle.bound_graph.specs.declared.arc.Arc.{Arc}

-- the arc in the other direction, for its cost negated
abbrev pub reversed : Arc → Arc
reversed arc = record { tail = arc.head; head = arc.tail; cost = pos 0 -ℤ arc.cost }

-- the arc, or its reverse
abbrev pub turned : Bool → Arc → Arc
turned back arc = if back then reversed arc else arc

-- the arcs and their reverses: number 2 * k is arc k, and number 2 * k + 1 its reverse
abbrev pub with_reverses : List Arc → List Arc
with_reverses [] = []
with_reverses (arc ∷ arcs) = arc ∷ (reversed arc ∷ with_reverses arcs)

-- whether the number is that of a reverse
abbrev pub is_back : ℕ → Bool
is_back number = number % 2 == 1
