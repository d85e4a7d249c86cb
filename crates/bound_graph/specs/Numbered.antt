-- For proofs: the arcs of a table by their numbers, one way or both ways.
use Rattle.std.specs.Prelude.{◌*◌, ◌^◌, ◌<◌, ◌≤◌, Bool, if◌then◌else◌, List, length, unsigned_abs}
use Rattle.std.specs.List.{AllByRecursion}
use Rattle.bound_graph.specs.declared.arc.Arc.{Arc}
use Rattle.bound_graph.specs.Reverses.{with_reverses}

-- the arcs that have numbers: those of the table, and both ways their reverses as well
abbrev pub numbered : Bool → List Arc → List Arc
numbered both_ways table = if both_ways then with_reverses table else table

-- each cost is small enough to be negated
abbrev pub HaveCosts : List Arc → Type 0
HaveCosts table = AllByRecursion (λ arc. unsigned_abs arc.cost ≤ 4 * 10 ^ 15) table

-- what holds of every table whose arcs have numbers
pub record AreNumbered (both_ways : Bool) (table : List Arc) : Type 0 where
  pub costs : HaveCosts table
  pub few : length (numbered both_ways table) < 2 ^ 32
