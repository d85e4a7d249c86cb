-- Arcs both ways, by their numbers.
use Rattle.std.proofs.Common.{◌≡◌, ℕ, zero, suc, ◌+◌, ◌*◌, ◌/◌, ◌<◌, ◌≤◌, Bool, true, false, cond, eqb, ◌&&◌, ◌||◌, List, [], ◌∷◌, length, map, get_or, Option, Some, None, refl, sym, ap, ◌∙◌, arith, zero-add, add-zero}
use Rattle.std.specs.Int.{is_positive}
use Rattle.std.proofs.lemmas.Bool.{eqb-true, cond-true, cond-false}
use Rattle.std.proofs.lemmas.List.{length-map, map-append, get_or_append_left}
use Rattle.bound_graph.specs.declared.arc.Arc.{Arc}
use Rattle.bound_graph.specs.Arcs.{arc_at, no_arc}
use Rattle.bound_graph.specs.Reverses.{reversed, with_reverses, is_back}
use Rattle.bound_graph.proofs.Reverses.{both_ways, with_reverses-append, length-with_reverses, half_more, back_more, half_even, half_odd, even_is_there, odd_is_back, none_past, arc_there, arc_back}
use Rattle.flow_core.specs.Layout.{FlowNetwork, is_unpriced, reading_arcs, arcs_of}
use Rattle.flow_core.specs.State.{NetworkState, residual_of}
use Rattle.flow_core.specs.Views.{there_from, is_residual, is_bare, residual_arcs, tight_arcs, bare_arcs}

-- ---- the arcs that are there

cond_same : (b : Bool) (arc : Option Arc) → cond b arc arc ≡ arc
cond_same true arc = refl
cond_same false arc = refl

there_at_from : (first : ℕ) (is_there : ℕ → Bool → Bool) (arcs : List Arc) (number : ℕ)
    → arc_at (there_from first is_there arcs) number ≡ cond (is_there (first + number / 2) (is_back number)) (both_ways arcs number) None
there_at_from first is_there [] number = sym (cond_same (is_there (first + number / 2) (is_back number)) None)
there_at_from first is_there (arc ∷ arcs) zero = ap (λ k. cond (is_there k false) (Some arc) None) (sym (add-zero first))
there_at_from first is_there (arc ∷ arcs) (suc zero) = ap (λ k. cond (is_there k true) (Some (reversed arc)) None) (sym (add-zero first))
there_at_from first is_there (arc ∷ arcs) (suc (suc number)) =
    let half : suc first + number / 2 ≡ first + suc (suc number) / 2 = omega (arith, half_more number) in
    there_at_from (suc first) is_there arcs number
    ∙ ap (λ k. cond (is_there k (is_back number)) (both_ways arcs number) None) half
    ∙ ap (λ back. cond (is_there (first + suc (suc number) / 2) back) (both_ways arcs number) None) (sym (back_more number))

pub there_at : (is_there : ℕ → Bool → Bool) (arcs : List Arc) (number : ℕ)
    → arc_at (there_from 0 is_there arcs) number ≡ cond (is_there (number / 2) (is_back number)) (both_ways arcs number) None
there_at is_there arcs number = there_at_from 0 is_there arcs number ∙ ap (λ k. cond (is_there k (is_back number)) (both_ways arcs number) None) (zero-add (number / 2))

pub length-there_from : (first : ℕ) (is_there : ℕ → Bool → Bool) (arcs : List Arc) → length (there_from first is_there arcs) ≡ 2 * length arcs
length-there_from first is_there [] = refl
length-there_from first is_there (arc ∷ arcs) = omega (arith, length-there_from (suc first) is_there arcs)

-- ---- the views

pub residual_at : (net : NetworkState) (number : ℕ) → arc_at (residual_arcs net) number ≡ cond (is_residual net (number / 2) (is_back number)) (both_ways (arcs_of net.network) number) None
residual_at net number = there_at (is_residual net) (arcs_of net.network) number

or_cases : (a b : Bool) (arc : Option Arc) → cond (a || b) arc None ≡ cond a arc (cond b arc None)
or_cases true b arc = refl
or_cases false b arc = refl

-- a tight arc is a bound without a price, or else a residual arc
pub tight_at : (net : NetworkState) (number : ℕ)
    → arc_at (tight_arcs net) number ≡ cond (is_bare net (number / 2) (is_back number)) (both_ways (arcs_of net.network) number) (arc_at (residual_arcs net) number)
tight_at net number =
    let bare = is_bare net (number / 2) (is_back number) in
    let residual = is_residual net (number / 2) (is_back number) in
    let arc = both_ways (arcs_of net.network) number in
    there_at (λ k back. is_bare net k back || is_residual net k back) (arcs_of net.network) number
    ∙ or_cases bare residual arc
    ∙ ap (λ other. cond bare arc other) (sym (residual_at net number))

pub and_second : (a b : Bool) → (a && b) ≡ true → b ≡ true
and_second true b both = both
and_second false b both = absurd cc

price_below : (prices : List ℕ) (k : ℕ) → eqb (get_or prices k 1) 0 ≡ true → k < length prices
price_below [] k zero_price = absurd (omega (arith, eqb-true 1 0 zero_price))
price_below (price ∷ prices) zero zero_price = omega arith
price_below (price ∷ prices) (suc k) zero_price = omega (arith, price_below prices k zero_price)

-- a bound without a price is a bound
pub unpriced_below : (network : FlowNetwork) (arc : ℕ) → is_unpriced network arc ≡ true → arc < length network.prices
unpriced_below network arc free = price_below network.prices arc free

among_all : (network : FlowNetwork) (number : ℕ) → number / 2 < length network.bounds → both_ways network.bounds number ≡ both_ways (arcs_of network) number
among_all network number below =
    let rest = reading_arcs 1 network.values in
    let some : Arc → Option Arc = Some in
    sym (
    ap (λ (arcs : List Arc). arc_at (map some arcs) number) (with_reverses-append network.bounds rest)
    ∙ ap (λ (arcs : List (Option Arc)). arc_at arcs number) (map-append some (with_reverses network.bounds) (with_reverses rest))
    ∙ get_or_append_left (map some (with_reverses network.bounds)) (map some (with_reverses rest)) None number
    (omega (arith, length-map (with_reverses network.bounds) some, length-with_reverses network.bounds)))

bare_by : (network : FlowNetwork) (number : ℕ) (bare : Bool) → (bare ≡ true → number / 2 < length network.bounds)
    → cond bare (both_ways network.bounds number) None ≡ cond bare (both_ways (arcs_of network) number) None
bare_by network number true below = among_all network number (below refl)
bare_by network number false below = refl

pub bare_at : (net : NetworkState) (number : ℕ) → (is_bare net (number / 2) (is_back number) ≡ true → number / 2 < length net.network.bounds)
    → arc_at (bare_arcs net) number ≡ cond (is_bare net (number / 2) (is_back number)) (both_ways (arcs_of net.network) number) None
bare_at net number bound = there_at (is_bare net) net.network.bounds number ∙ bare_by net.network number (is_bare net (number / 2) (is_back number)) bound

-- ---- by arcs

-- the arc k, where the test says that it is there
pub there_by_arc : (is_there : ℕ → Bool → Bool) (arcs : List Arc) (k : ℕ) → k < length arcs → is_there k false ≡ true → arc_at (there_from 0 is_there arcs) (2 * k) ≡ Some (get_or arcs k no_arc)
there_by_arc is_there arcs k below there =
    there_at is_there arcs (2 * k)
    ∙ (λ i. cond (is_there (half_even k i) (even_is_there k i)) (both_ways arcs (2 * k)) None)
    ∙ cond-true (is_there k false) (both_ways arcs (2 * k)) None there
    ∙ arc_there arcs k below

-- its reverse
pub back_by_arc : (is_there : ℕ → Bool → Bool) (arcs : List Arc) (k : ℕ) → k < length arcs → is_there k true ≡ true → arc_at (there_from 0 is_there arcs) (2 * k + 1) ≡ Some (reversed (get_or arcs k no_arc))
back_by_arc is_there arcs k below there =
    there_at is_there arcs (2 * k + 1)
    ∙ (λ i. cond (is_there (half_odd k i) (odd_is_back k i)) (both_ways arcs (2 * k + 1)) None)
    ∙ cond-true (is_there k true) (both_ways arcs (2 * k + 1)) None there
    ∙ arc_back arcs k below

-- ---- what a view answers

pub residual_past : (net : NetworkState) (number : ℕ) → length (arcs_of net.network) ≤ number / 2 → None ≡ arc_at (residual_arcs net) number
residual_past net number past =
    let test = is_residual net (number / 2) (is_back number) in
    sym (residual_at net number ∙ ap (λ (arc : Option Arc). cond test arc None) (none_past (arcs_of net.network) number past) ∙ cond_same test None)

pub residual_there : (net : NetworkState) (number : ℕ) (arc : Option Arc) → is_positive (residual_of net (number / 2) (is_back number)) ≡ true → arc ≡ both_ways (arcs_of net.network) number → arc ≡ arc_at (residual_arcs net) number
residual_there net number arc room is = is ∙ sym (residual_at net number ∙ cond-true (is_residual net (number / 2) (is_back number)) (both_ways (arcs_of net.network) number) None room)

pub residual_away : (net : NetworkState) (number : ℕ) → is_positive (residual_of net (number / 2) (is_back number)) ≡ false → None ≡ arc_at (residual_arcs net) number
residual_away net number full = sym (residual_at net number ∙ cond-false (is_residual net (number / 2) (is_back number)) (both_ways (arcs_of net.network) number) None full)

pub tight_there : (net : NetworkState) (number : ℕ) (arc : Option Arc) → is_bare net (number / 2) (is_back number) ≡ true → arc ≡ both_ways (arcs_of net.network) number → arc ≡ arc_at (tight_arcs net) number
tight_there net number arc bare is = is ∙ sym (tight_at net number ∙ cond-true (is_bare net (number / 2) (is_back number)) (both_ways (arcs_of net.network) number) (arc_at (residual_arcs net) number) bare)

pub tight_other : (net : NetworkState) (number : ℕ) (arc : Option Arc) → is_bare net (number / 2) (is_back number) ≡ false → arc ≡ arc_at (residual_arcs net) number → arc ≡ arc_at (tight_arcs net) number
tight_other net number arc other is = is ∙ sym (tight_at net number ∙ cond-false (is_bare net (number / 2) (is_back number)) (both_ways (arcs_of net.network) number) (arc_at (residual_arcs net) number) other)

pub bare_there : (net : NetworkState) (number : ℕ) (arc : Option Arc) → is_bare net (number / 2) (is_back number) ≡ true → number / 2 < length net.network.bounds → arc ≡ both_ways (arcs_of net.network) number → arc ≡ arc_at (bare_arcs net) number
bare_there net number arc bare below is = is ∙ sym (bare_at net number (λ _. below) ∙ cond-true (is_bare net (number / 2) (is_back number)) (both_ways (arcs_of net.network) number) None bare)

pub bare_away : (net : NetworkState) (number : ℕ) → is_bare net (number / 2) (is_back number) ≡ false → None ≡ arc_at (bare_arcs net) number
bare_away net number other = sym (bare_at net number (λ bare. absurd cc) ∙ cond-false (is_bare net (number / 2) (is_back number)) (both_ways (arcs_of net.network) number) None other)
