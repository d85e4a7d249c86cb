-- Arcs that are stored in a table, by their numbers.
use Rattle.std.proofs.Common.{ℕ, zero, suc, ◌^◌, ◌<◌, Bool, true, false, List, [], ◌∷◌, length, map, Some, IfSome, arith}
use Rattle.std.specs.List.{AllByRecursion}
use Rattle.bound_graph.specs.declared.arc.Arc.{Arc}
use Rattle.bound_graph.specs.Arcs.{IsArc, arc_at}
use Rattle.bound_graph.specs.Numbered.{numbered, HaveCosts}
use Rattle.bound_graph.proofs.Reverses.{length-with_reverses}

pub costs_of_valid : (nodes : ℕ) (arcs : List Arc) → AllByRecursion (IsArc nodes) arcs → HaveCosts arcs
costs_of_valid nodes [] all = tt
costs_of_valid nodes (arc ∷ arcs) all = (all.0.cost, costs_of_valid nodes arcs all.1)

-- no more arcs stand in the table than have numbers
pub stored_few : (both_ways : Bool) (table : List Arc) → length (numbered both_ways table) < 2 ^ 32 → length table < 2 ^ 32
stored_few true table few = omega (arith, few, length-with_reverses table)
stored_few false table few = few

pub valid_at : (nodes : ℕ) (arcs : List Arc) (i : ℕ) → AllByRecursion (IsArc nodes) arcs → IfSome (arc_at (map Some arcs) i) (IsArc nodes)
valid_at nodes [] i all = tt
valid_at nodes (arc ∷ arcs) zero all = all.0
valid_at nodes (arc ∷ arcs) (suc i) all = valid_at nodes arcs i all.1
