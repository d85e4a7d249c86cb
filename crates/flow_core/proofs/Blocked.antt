-- A negative cycle of the bare arcs is one of the bounds without a price.
use Rattle.std.proofs.Common.{◌≡◌, ℕ, zero, suc, ◌*◌, ◌/◌, ◌%◌, ◌<◌, Bool, true, false, cond, eqb, ◌&&◌, not, List, [], ◌∷◌, length, map, get_or, Option, None, Some, IfSome, refl, sym, ap, ◌∙◌, subst, arith}
use Rattle.std.proofs.lemmas.Bool.{eqb-true, eqb-false, eq-eqb, cond-true}
use Rattle.std.proofs.lemmas.List.{length-map}
use Rattle.screen_model.specs.declared.place.Place.{Place}
use Rattle.screen_model.specs.Obeys.{Priced}
use Rattle.screen_model.specs.Cost.{Problem}
use Rattle.bound_graph.specs.declared.arc.Arc.{Arc}
use Rattle.bound_graph.specs.Arcs.{arc_at, AreAmong, no_arc}
use Rattle.bound_graph.specs.Graph.{arc_of_bound, arcs_of_bounds}
use Rattle.bound_graph.specs.Nodes.{unpriced_arcs}
use Rattle.bound_graph.specs.Reverses.{is_back}
use Rattle.bound_graph.proofs.Among.{cycle}
use Rattle.bound_graph.proofs.Cycles.{blocks}
use Rattle.bound_graph.proofs.Reverses.{both_ways, arc_there}
use Rattle.flow_core.specs.Layout.{network_of, is_unpriced}
use Rattle.flow_core.specs.State.{NetworkState}
use Rattle.flow_core.specs.Laws.{NegativeCycleIsBlocked}
use Rattle.flow_core.specs.Views.{is_bare, bare_arcs}
use Rattle.flow_core.proofs.BothWays.{there_at, and_second, unpriced_below}

and_first : (a b : Bool) → (a && b) ≡ true → a ≡ true
and_first true b both = refl
and_first false b both = absurd cc

-- a number that is not that of a reverse is even
even_if_there : (number : ℕ) (b : Bool) → is_back number ≡ b → not b ≡ true → number ≡ 2 * (number / 2)
even_if_there number true e there = absurd cc
even_if_there number false e there = omega (arith, eqb-false (number % 2) 1 e)

-- the arc of a bound without a price is there under the bound's number
free_here : (places : List Place) (bounds : List Priced) (k : ℕ) → k < length bounds → get_or (map (λ priced. priced.price) bounds) k 1 ≡ 0
    → arc_at (unpriced_arcs places bounds) k ≡ Some (get_or (arcs_of_bounds places (map (λ priced. priced.bound) bounds)) k no_arc)
free_here places [] k below free = absurd (omega arith)
free_here places (priced ∷ bounds) zero below free = cond-true (eqb priced.price 0) (Some (arc_of_bound places priced.bound)) None (eq-eqb priced.price 0 free)
free_here places (priced ∷ bounds) (suc k) below free = free_here places bounds k (omega arith) free

among_by_test : (problem : Problem) (number : ℕ) (b : Bool) → (not (is_back number) && is_unpriced (network_of problem) (number / 2)) ≡ b
    → IfSome (cond b (both_ways (network_of problem).bounds number) None) (λ arc. arc_at (unpriced_arcs problem.places problem.bounds) (number / 2) ≡ Some arc)
among_by_test problem number false e = tt
among_by_test problem number true e =
    let network = network_of problem in
    let k = number / 2 in
    let there = and_first (not (is_back number)) (is_unpriced network k) e in
    let free = and_second (not (is_back number)) (is_unpriced network k) e in
    let even = even_if_there number (is_back number) refl there in
    let priced : k < length network.prices = unpriced_below network k free in
    let prices = length-map problem.bounds (λ (p : Priced). p.price) in
    let below : k < length problem.bounds = omega arith in
    let arcs : k < length network.bounds = omega (arith, length-map (map (λ (p : Priced). p.bound) problem.bounds) (arc_of_bound problem.places), length-map problem.bounds (λ (p : Priced). p.bound)) in
    let arc : both_ways network.bounds number ≡ Some (get_or network.bounds k no_arc) = ap (both_ways network.bounds) even ∙ arc_there network.bounds k arcs in
    subst (λ (o : Option Arc). IfSome o (λ a. arc_at (unpriced_arcs problem.places problem.bounds) k ≡ Some a)) (sym arc)
    (free_here problem.places problem.bounds k below (eqb-true (get_or network.prices k 1) 0 free))

bare_among : (problem : Problem) (net : NetworkState) → net.network ≡ network_of problem → AreAmong (bare_arcs net) (unpriced_arcs problem.places problem.bounds) (λ number. number / 2)
bare_among problem net same number =
    let network = network_of problem in
    let bare : arc_at (bare_arcs net) number ≡ cond (not (is_back number) && is_unpriced network (number / 2)) (both_ways network.bounds number) None =
    there_at (is_bare net) net.network.bounds number ∙ (λ i. cond (not (is_back number) && is_unpriced (same i) (number / 2)) (both_ways (same i).bounds number) None) in
    subst (λ (o : Option Arc). IfSome o (λ arc. arc_at (unpriced_arcs problem.places problem.bounds) (number / 2) ≡ Some arc)) (sym bare)
    (among_by_test problem number (not (is_back number) && is_unpriced network (number / 2)) refl)

pub blocked : NegativeCycleIsBlocked
blocked problem net numbers is negative =
    let half : ℕ → ℕ = λ number. number / 2 in
    blocks problem.places problem.bounds (map half numbers) is.ends (cycle (bare_arcs net) (unpriced_arcs problem.places problem.bounds) half numbers (bare_among problem net is.same) negative)
