-- To be believed: cycles of arcs whose costs have a negative sum.
use Rattle.std.specs.Prelude.{◌≡◌, ℕ, ◌≤◌, negsuc, ◌≤ℤ◌, List, length, map, Option, Some}
use Rattle.words.specs.Lists.{Distinct, rotated, total}
use Rattle.bound_graph.specs.declared.arc.Arc.{Arc}
use Rattle.bound_graph.specs.Arcs.{arc_at}

-- The numbers are those of arcs that are there. Each arc enters the node that the next one leaves, the last one
-- the node that the first one leaves; no node is left twice; and the costs have a negative sum.
pub record IsNegativeCycle (arcs : List (Option Arc)) (numbers : List ℕ) : Type 0 where
  pub cycle : List Arc
  pub there : map (arc_at arcs) numbers ≡ map Some cycle
  pub some : 1 ≤ length cycle
  pub closed : map (λ arc. arc.head) cycle ≡ rotated (map (λ arc. arc.tail) cycle)
  pub simple : Distinct (map (λ arc. arc.tail) cycle)
  pub negative : total (map (λ arc. arc.cost) cycle) ≤ℤ negsuc 0
