-- To be believed: numbered arcs, of which some may not be there now.
use Rattle.std.specs.Prelude.{◌≡◌, ℕ, pos, ◌*◌, ◌^◌, ◌<◌, ◌≤◌, List, Option, None, Some, get_or, unsigned_abs, IfSome}
use Rattle.bound_graph.specs.declared.arc.Arc.{Arc}

-- what is read where there is no arc
abbrev pub no_arc : Arc
no_arc = record { tail = 0; head = 0; cost = pos 0 }

-- the arc of a number, if it is there
abbrev pub arc_at : List (Option Arc) → ℕ → Option Arc
arc_at arcs i = get_or arcs i None

-- each arc that is there is also among the others, under the number that is given for its own
abbrev pub AreAmong : List (Option Arc) → List (Option Arc) → (ℕ → ℕ) → Type 0
AreAmong arcs others number = (i : ℕ) → IfSome (arc_at arcs i) (λ arc. arc_at others (number i) ≡ Some arc)

-- both ends are among the nodes
abbrev pub IsBetween : ℕ → Arc → Type 0
IsBetween nodes arc = (arc.tail < nodes) × (arc.head < nodes)

-- both ends are among the nodes, and the cost is not too great
pub record IsArc (nodes : ℕ) (arc : Arc) : Type 0 where
  pub tail : arc.tail < nodes
  pub head : arc.head < nodes
  pub cost : unsigned_abs arc.cost ≤ 4 * 10 ^ 15
