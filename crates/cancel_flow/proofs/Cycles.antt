-- What a negative cycle of residual arcs is by its numbers.
use Rattle.std.proofs.Common.{◌≡◌, ◌≢◌, ℕ, zero, suc, ◌<◌, eqb, ℤ, pos, negsuc, ◌-ℤ◌, ◌≤ℤ◌, List, [], ◌∷◌, length, map, get_or, Some, refl, sym, ap, ◌∙◌, subst, arith}
use Rattle.std.proofs.lemmas.Int.{ints}
use Rattle.std.proofs.lemmas.List.{length-map, get_or-map}
use Rattle.words.specs.Lists.{Distinct, total}
use Rattle.bound_graph.specs.declared.arc.Arc.{Arc}
use Rattle.bound_graph.specs.Arcs.{arc_at}
use Rattle.bound_graph.specs.Cycle.{IsNegativeCycle}
use Rattle.bound_graph.proofs.Cycles.{over, over-rotated}
use Rattle.flow_core.specs.State.{NetworkState, one_if, unit_balance}
use Rattle.flow_core.specs.Views.{residual_arcs, arc_both_ways}
use Rattle.cancel_flow.specs.Cycles.{HasRoom, HaveRoom}
use Rattle.cancel_flow.proofs.Numbers.{found}
use Rattle.cancel_flow.proofs.Views.{all_get}

-- Residual arcs by their numbers, none of them twice, that enter each node as often as they leave it, and whose costs
-- have a negative sum.
pub record IsResidualCycle (net : NetworkState) (numbers : List ℕ) : Type 0 where
  pub room : HaveRoom net (pos 1) numbers
  pub apart : (i j : ℕ) → i < j → j < length numbers → get_or numbers i 0 ≢ get_or numbers j 0
  pub closed : (node : ℕ) → total (map (λ number. unit_balance node (arc_both_ways net.network number)) numbers) ≡ pos 0
  pub negative : total (map (λ number. (arc_both_ways net.network number).cost) numbers) ≤ℤ negsuc 0

-- each number has room, and its arc is the one in the cycle
record AreFound (net : NetworkState) (numbers : List ℕ) (cycle : List Arc) : Type 0 where
  room : HaveRoom net (pos 1) numbers
  are : map (arc_both_ways net.network) numbers ≡ cycle

first_or_later : (net : NetworkState) (number : ℕ) (numbers : List ℕ) → HasRoom net (pos 1) number → HaveRoom net (pos 1) numbers → HaveRoom net (pos 1) (number ∷ numbers)
first_or_later net number numbers here rest zero below = here
first_or_later net number numbers here rest (suc i) below = rest i (omega (arith, below))

all_found : (net : NetworkState) (numbers : List ℕ) (cycle : List Arc) → map (arc_at (residual_arcs net)) numbers ≡ map Some cycle → AreFound net numbers cycle
all_found net [] [] there = record { room = λ i below. absurd (omega (arith, below)); are = refl }
all_found net [] (arc ∷ cycle) there = absurd cc
all_found net (number ∷ numbers) [] there = absurd cc
all_found net (number ∷ numbers) (arc ∷ cycle) there =
    let this : arc_at (residual_arcs net) number ≡ Some arc = cc in
    let later : map (arc_at (residual_arcs net)) numbers ≡ map Some cycle = cc in
    let one = found net number arc this in
    let rest = all_found net numbers cycle later in
    record {
      room = first_or_later net number numbers one.has rest.room;
      are = (λ i. one.is i ∷ map (arc_both_ways net.network) numbers) ∙ ap (λ (l : List Arc). arc ∷ l) rest.are;
    }

distinct_at : (xs : List ℕ) (i j : ℕ) → Distinct xs → i < j → j < length xs → get_or xs i 0 ≢ get_or xs j 0
distinct_at [] i j distinct less below = absurd (omega (arith, below))
distinct_at (x ∷ xs) i zero distinct less below = absurd (omega (arith, less))
distinct_at (x ∷ xs) zero (suc j) distinct less below = all_get _ xs j 0 distinct.0 (omega (arith, below))
distinct_at (x ∷ xs) (suc i) (suc j) distinct less below = distinct_at xs i j distinct.1 (omega (arith, less)) (omega (arith, below))

-- arcs with distinct tails have distinct numbers
apart_by : (tail_of : ℕ → ℕ) (numbers : List ℕ) (i j : ℕ) → Distinct (map tail_of numbers) → i < j → j < length numbers → get_or numbers i 0 ≢ get_or numbers j 0
apart_by tail_of numbers i j distinct less below same =
    let long = length-map numbers tail_of in
    distinct_at (map tail_of numbers) i j distinct less (omega (arith, below))
    (get_or-map tail_of numbers i 0 0 (omega (arith, less, below)) ∙ ap tail_of same ∙ sym (get_or-map tail_of numbers j 0 0 below))

map_map : {A B C : Type 0} (f : A → B) (g : B → C) (xs : List A) → map (λ x. g (f x)) xs ≡ map g (map f xs)
map_map f g [] = refl
map_map f g (x ∷ xs) = ap (λ ys. g (f x) ∷ ys) (map_map f g xs)

-- the balance of arcs at a node, by their heads and by their tails
balance_by_ends : (node : ℕ) (arcs : List Arc)
    → total (map (unit_balance node) arcs) ≡ over (λ n. one_if (eqb n node)) (map (λ arc. arc.head) arcs) -ℤ over (λ n. one_if (eqb n node)) (map (λ arc. arc.tail) arcs)
balance_by_ends node [] = omega (arith, ints)
balance_by_ends node (arc ∷ arcs) = omega (arith, ints, balance_by_ends node arcs)

taken : {C : Type 0} (of : ℕ → Arc) (g : Arc → C) (numbers : List ℕ) (cycle : List Arc) → map of numbers ≡ cycle → map (λ number. g (of number)) numbers ≡ map g cycle
taken of g numbers cycle are = map_map of g numbers ∙ ap (map g) are

pub residual_cycle : (net : NetworkState) (numbers : List ℕ) → IsNegativeCycle (residual_arcs net) numbers → IsResidualCycle net numbers
residual_cycle net numbers negative =
    let cycle = negative.cycle in
    let all = all_found net numbers cycle negative.there in
    let of = arc_both_ways net.network in
    record {
      room = all.room;
      apart = λ i j less below. apart_by (λ number. (of number).tail) numbers i j (subst Distinct (sym (taken of (λ arc. arc.tail) numbers cycle all.are)) negative.simple) less below;
      closed = λ node.
          let at : ℕ → ℤ = λ n. one_if (eqb n node) in
          let round : over at (map (λ arc. arc.head) cycle) ≡ over at (map (λ arc. arc.tail) cycle) = ap (over at) negative.closed ∙ over-rotated at (map (λ arc. arc.tail) cycle) in
          ap total (taken of (unit_balance node) numbers cycle all.are) ∙ balance_by_ends node cycle ∙ omega (arith, ints, round);
      negative = subst (λ (costs : List ℤ). total costs ≤ℤ negsuc 0) (sym (taken of (λ arc. arc.cost) numbers cycle all.are)) negative.negative;
    }
