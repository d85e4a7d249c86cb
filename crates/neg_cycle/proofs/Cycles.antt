-- Cycles of arcs, and those that cycles of parents are.
use Rattle.std.proofs.Common.{◌≡◌, ℕ, ◌-◌, ◌<◌, ◌≤◌, ◌⊎◌, ℤ, pos, negsuc, ◌+ℤ◌, ◌≤ℤ◌, ◌<ℤ◌, List, [], ◌∷◌, map, reverse, take, drop, length, get_or, Option, None, Some, MatchOption, refl, sym, ap, ◌∙◌, subst, inl, inr, ⊎_elim, arith}
use Rattle.std.specs.List.{All, AllByRecursion}
use Rattle.std.proofs.lemmas.Int.{ints}
use Rattle.std.proofs.lemmas.List.Elements.{All-from_recursion}
use Rattle.std.proofs.lemmas.Bool.{cases_lt}
use Rattle.std.proofs.lemmas.List.{length-map, length-reverse, get_or_past}
use Rattle.words.specs.Lists.{rotated, total}
use Rattle.bound_graph.specs.declared.arc.Arc.{Arc}
use Rattle.bound_graph.specs.Arcs.{arc_at}
use Rattle.neg_cycle.specs.declared.forest.Parent.{Parent}
use Rattle.bound_graph.specs.Cycle.{IsNegativeCycle}
use Rattle.neg_cycle.specs.Forest.{parent_at, IsParentCycle}
use Rattle.neg_cycle.specs.Labels.{IsParentOf, IsWithin, IsLabelling, HoldsCycle, parent_arc, parent_arcs}
use Rattle.bound_graph.proofs.Cycles.{over, over-rotated}
use Rattle.words.proofs.Lists.{map-reverse, rotated-reverse-rotated, distinct_rotated, distinct_reverse}
use Rattle.words.proofs.Sums.{total-reverse}

-- the distance of a node, and its rank
abbrev distance : List ℤ → ℕ → ℤ
distance distances node = get_or distances node (pos 0)

abbrev rank : List ℕ → ℕ → ℤ
rank ranks node = pos (get_or ranks node 0)

-- the arcs of the parents of nodes
record Walk (arcs : List (Option Arc)) (distances : List ℤ) (ranks : List ℕ) (nodes : List ℕ) (steps : List Parent) : Type 0 where
  pub walked : List Arc
  pub there : map (arc_at arcs) (map (λ step. step.arc) steps) ≡ map Some walked
  pub heads : map (λ arc. arc.head) walked ≡ nodes
  pub tails : map (λ arc. arc.tail) walked ≡ map (λ step. step.tail) steps
  pub reached : (over (distance distances) (map (λ step. step.tail) steps) +ℤ total (map (λ arc. arc.cost) walked)) ≤ℤ over (distance distances) nodes
  pub strict : ((over (distance distances) (map (λ step. step.tail) steps) +ℤ total (map (λ arc. arc.cost) walked)) <ℤ over (distance distances) nodes) ⊎ ((over (rank ranks) (map (λ step. step.tail) steps) +ℤ pos (length nodes)) ≤ℤ over (rank ranks) nodes)

-- one more node, before the others
walk_on : (arcs : List (Option Arc)) (distances : List ℤ) (ranks : List ℕ) (node : ℕ) (nodes : List ℕ) (step : Parent) (steps : List Parent) → IsParentOf arcs distances ranks node step → Walk arcs distances ranks nodes steps → Walk arcs distances ranks (node ∷ nodes) (step ∷ steps)
walk_on arcs distances ranks node nodes step steps here rest =
    let here_reached = here.reached in
    let rest_reached = rest.reached in
    record {
      walked = here.arc ∷ rest.walked;
      there = ap (λ (o : Option Arc). o ∷ map (arc_at arcs) (map (λ (s : Parent). s.arc) steps)) here.there ∙ ap (λ (l : List (Option Arc)). Some here.arc ∷ l) rest.there;
      heads = ap (λ (n : ℕ). n ∷ map (λ (arc : Arc). arc.head) rest.walked) here.head ∙ ap (λ (l : List ℕ). node ∷ l) rest.heads;
      tails = ap (λ (n : ℕ). n ∷ map (λ (arc : Arc). arc.tail) rest.walked) here.tail ∙ ap (λ (l : List ℕ). step.tail ∷ l) rest.tails;
      reached = omega (arith, ints);
      strict = ⊎_elim
          (λ (first : (distance distances step.tail +ℤ here.arc.cost) <ℤ distance distances node). inl (omega (arith, ints)))
          (λ (first : get_or ranks step.tail 0 < get_or ranks node 0). ⊎_elim
          (λ (later : (over (distance distances) (map (λ (s : Parent). s.tail) steps) +ℤ total (map (λ (arc : Arc). arc.cost) rest.walked)) <ℤ over (distance distances) nodes). inl (omega (arith, ints)))
          (λ (later : (over (rank ranks) (map (λ (s : Parent). s.tail) steps) +ℤ pos (length nodes)) ≤ℤ over (rank ranks) nodes). inr (omega (arith, ints)))
          rest.strict)
          here.strict;
    }

-- a node that has a parent is among the nodes
has_label : (arcs : List (Option Arc)) (bound : ℕ) (distances : List ℤ) (parents : List (Option Parent)) (ranks : List ℕ) (node : ℕ) (parent : Parent) → IsLabelling arcs bound distances parents ranks → parent_at parents node ≡ Some parent → IsParentOf arcs distances ranks node parent
has_label arcs bound distances parents ranks node parent labels is =
    ⊎_elim
    (λ (within : node < length parents).
    subst (λ (o : Option Parent). MatchOption o (IsWithin 1 (get_or distances node (pos 0))) (IsParentOf arcs distances ranks node)) is (labels.each node (omega (arith, labels.parents_of))))
    (λ (past : length parents ≤ node). let none = get_or_past parents node None past in absurd cc)
    (cases_lt node (length parents))

nodes_within : (parents : List (Option Parent)) (nodes : List ℕ) (steps : List Parent) → map (parent_at parents) nodes ≡ map Some steps → AllByRecursion (λ node. node < length parents) nodes
nodes_within parents [] steps are = tt
nodes_within parents (node ∷ nodes) [] are = absurd cc
nodes_within parents (node ∷ nodes) (step ∷ steps) are =
    let this : parent_at parents node ≡ Some step = cc in
    let others : map (parent_at parents) nodes ≡ map Some steps = cc in
    let within : node < length parents = ⊎_elim
    (λ (h : node < length parents). h)
    (λ (past : length parents ≤ node). let none = get_or_past parents node None past in absurd cc)
    (cases_lt node (length parents)) in
    (within, nodes_within parents nodes steps others)

-- each node of a cycle of parents is among the nodes
pub all_within : (parents : List (Option Parent)) (nodes : List ℕ) → IsParentCycle parents nodes → All (λ node. node < length parents) nodes
all_within parents nodes round = All-from_recursion (λ node. node < length parents) nodes (nodes_within parents nodes round.steps round.parents_of)

walk : (arcs : List (Option Arc)) (bound : ℕ) (distances : List ℤ) (parents : List (Option Parent)) (ranks : List ℕ) (nodes : List ℕ) (steps : List Parent) → IsLabelling arcs bound distances parents ranks → map (parent_at parents) nodes ≡ map Some steps → Walk arcs distances ranks nodes steps
walk arcs bound distances parents ranks [] [] labels are = record { walked = []; there = refl; heads = refl; tails = refl; reached = omega (arith, ints); strict = inr (omega (arith, ints)) }
walk arcs bound distances parents ranks [] (step ∷ steps) labels are = absurd cc
walk arcs bound distances parents ranks (node ∷ nodes) [] labels are = absurd cc
walk arcs bound distances parents ranks (node ∷ nodes) (step ∷ steps) labels are =
    let this : parent_at parents node ≡ Some step = cc in
    let others : map (parent_at parents) nodes ≡ map Some steps = cc in
    walk_on arcs distances ranks node nodes step steps (has_label arcs bound distances parents ranks node step labels this) (walk arcs bound distances parents ranks nodes steps labels others)

-- the numbers of the arcs from the parents
arcs_of_steps : (parents : List (Option Parent)) (nodes : List ℕ) (steps : List Parent) → map (parent_at parents) nodes ≡ map Some steps → map (λ node. parent_arc (parent_at parents node)) nodes ≡ map (λ step. step.arc) steps
arcs_of_steps parents [] [] are = refl
arcs_of_steps parents [] (step ∷ steps) are = absurd cc
arcs_of_steps parents (node ∷ nodes) [] are = absurd cc
arcs_of_steps parents (node ∷ nodes) (step ∷ steps) are =
    let this : parent_at parents node ≡ Some step = cc in
    let others : map (parent_at parents) nodes ≡ map Some steps = cc in
    let rest = arcs_of_steps parents nodes steps others in
    rw (this, rest) refl

-- a closed walk has a negative sum
negative_sum : (arcs : List (Option Arc)) (distances : List ℤ) (ranks : List ℕ) (nodes : List ℕ) (steps : List Parent) (way : Walk arcs distances ranks nodes steps) → 1 ≤ length nodes → map (λ step. step.tail) steps ≡ rotated nodes → total (map (λ arc. arc.cost) way.walked) ≤ℤ negsuc 0
negative_sum arcs distances ranks nodes steps way some closed =
    let same_distances : over (distance distances) (map (λ (s : Parent). s.tail) steps) ≡ over (distance distances) nodes = ap (over (distance distances)) closed ∙ over-rotated (distance distances) nodes in
    let same_ranks : over (rank ranks) (map (λ (s : Parent). s.tail) steps) ≡ over (rank ranks) nodes = ap (over (rank ranks)) closed ∙ over-rotated (rank ranks) nodes in
    ⊎_elim
    (λ (lower : (over (distance distances) (map (λ (s : Parent). s.tail) steps) +ℤ total (map (λ (arc : Arc). arc.cost) way.walked)) <ℤ over (distance distances) nodes). omega (arith, ints))
    (λ (ranked : (over (rank ranks) (map (λ (s : Parent). s.tail) steps) +ℤ pos (length nodes)) ≤ℤ over (rank ranks) nodes). absurd (omega (arith, ints)))
    way.strict

-- the arcs of a cycle of parents, against the order of its nodes
pub negative_cycle : (arcs : List (Option Arc)) (bound : ℕ) (distances : List ℤ) (parents : List (Option Parent)) (ranks : List ℕ) (nodes : List ℕ) → IsLabelling arcs bound distances parents ranks → IsParentCycle parents nodes → IsNegativeCycle arcs (parent_arcs parents nodes)
negative_cycle arcs bound distances parents ranks nodes labels round =
    let steps = round.steps in
    let way = walk arcs bound distances parents ranks nodes steps labels round.parents_of in
    let arc_numbers : parent_arcs parents nodes ≡ reverse (map (λ (s : Parent). s.arc) steps) = map-reverse (λ (node : ℕ). parent_arc (parent_at parents node)) nodes ∙ ap (λ (l : List ℕ). reverse l) (arcs_of_steps parents nodes steps round.parents_of) in
    let tails : map (λ (arc : Arc). arc.tail) (reverse way.walked) ≡ reverse (rotated nodes) = map-reverse (λ (arc : Arc). arc.tail) way.walked ∙ ap (λ (l : List ℕ). reverse l) (way.tails ∙ round.closed) in
    let heads : map (λ (arc : Arc). arc.head) (reverse way.walked) ≡ reverse nodes = map-reverse (λ (arc : Arc). arc.head) way.walked ∙ ap (λ (l : List ℕ). reverse l) way.heads in
    let costs : total (map (λ (arc : Arc). arc.cost) (reverse way.walked)) ≡ total (map (λ (arc : Arc). arc.cost) way.walked) = ap total (map-reverse (λ (arc : Arc). arc.cost) way.walked) ∙ total-reverse (map (λ (arc : Arc). arc.cost) way.walked) in
    let count : length (reverse way.walked) ≡ length nodes = length-reverse way.walked ∙ sym (length-map way.walked (λ (arc : Arc). arc.head)) ∙ ap (λ (l : List ℕ). length l) way.heads in
    let below = negative_sum arcs distances ranks nodes steps way round.some round.closed in
    record {
      cycle = reverse way.walked;
      there = ap (map (arc_at arcs)) arc_numbers ∙ map-reverse (arc_at arcs) (map (λ (s : Parent). s.arc) steps) ∙ ap (λ (l : List (Option Arc)). reverse l) way.there ∙ sym (map-reverse (λ (arc : Arc). Some arc) way.walked);
      some = omega (arith, round.some);
      closed = heads ∙ sym (rotated-reverse-rotated nodes) ∙ ap (λ (l : List ℕ). rotated l) (sym tails);
      simple = rw tails (distinct_reverse (rotated nodes) (distinct_rotated nodes round.simple));
      negative = omega (arith, ints);
    }

-- what is found where such a cycle stands in a stretch of a path
pub holds_cycle : (arcs : List (Option Arc)) (bound : ℕ) (distances : List ℤ) (parents : List (Option Parent)) (ranks path : List ℕ) (start end : ℕ) → IsLabelling arcs bound distances parents ranks → start ≤ end → end ≤ length path → IsParentCycle parents (take (end - start) (drop start path)) → HoldsCycle arcs parents path start end
holds_cycle arcs bound distances parents ranks path start end labels ordered within round = record {
  ordered = ordered;
  within = within;
  nodes = all_within parents (take (end - start) (drop start path)) round;
  negative = negative_cycle arcs bound distances parents ranks (take (end - start) (drop start path)) labels round;
}
