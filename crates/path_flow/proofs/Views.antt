-- What holds of each arc that is there, by the arcs' numbers.
use Rattle.std.proofs.Common.{◌≡◌, ℕ, zero, suc, ◌+◌, ◌*◌, ◌<◌, Bool, true, false, cond, ℤ, List, [], ◌∷◌, length, get_or, Option, None, Some, IfSome, refl, sym, ap, ◌∙◌, subst, arith, zero-add}
use Rattle.std.specs.List.{AllByRecursion}
use Rattle.std.proofs.lemmas.Bool.{eqb-true, eq-eqb}
use Rattle.bound_graph.specs.declared.arc.Arc.{Arc}
use Rattle.bound_graph.specs.Arcs.{arc_at, no_arc}
use Rattle.bound_graph.specs.Values.{RespectsArc, RespectsIfThere, RespectsArcs}
use Rattle.bound_graph.specs.Reverses.{reversed}
use Rattle.flow_core.specs.Layout.{HasUnpriced}
use Rattle.flow_core.specs.State.{NetworkState}
use Rattle.flow_core.specs.Views.{there_from, is_bare, bare_arcs}
use Rattle.flow_core.proofs.BothWays.{there_by_arc}

pub all_get : {A : Type 0} (P : A → Type 0) (xs : List A) (i : ℕ) (d : A) → AllByRecursion P xs → i < length xs → P (get_or xs i d)
all_get P [] i d all below = absurd (omega arith)
all_get P (x ∷ xs) zero d all below = all.0
all_get P (x ∷ xs) (suc i) d all below = all_get P xs i d all.1 (omega arith)

if_there : (P : Arc → Type 0) (b : Bool) (arc : Arc) → (b ≡ true → P arc) → IfSome (cond b (Some arc) None) P
if_there P true arc holds = holds refl
if_there P false arc holds = tt

pub there_each : (P : Arc → Type 0) (first : ℕ) (is_there : ℕ → Bool → Bool) (arcs : List Arc)
    → ((k : ℕ) → k < length arcs → is_there (first + k) false ≡ true → P (get_or arcs k no_arc))
    → ((k : ℕ) → k < length arcs → is_there (first + k) true ≡ true → P (reversed (get_or arcs k no_arc)))
    → (i : ℕ) → IfSome (arc_at (there_from first is_there arcs) i) P
there_each P first is_there [] ahead back i = tt
there_each P first is_there (arc ∷ arcs) ahead back zero =
    let here : first + 0 ≡ first = omega arith in
    if_there P (is_there first false) arc (λ there. ahead 0 (omega arith) (ap (λ k. is_there k false) here ∙ there))
there_each P first is_there (arc ∷ arcs) ahead back (suc zero) =
    let here : first + 0 ≡ first = omega arith in
    if_there P (is_there first true) (reversed arc) (λ there. back 0 (omega arith) (ap (λ k. is_there k true) here ∙ there))
there_each P first is_there (arc ∷ arcs) ahead back (suc (suc i)) =
    there_each P (suc first) is_there arcs
    (λ k below there. let on : first + suc k ≡ suc first + k = omega arith in ahead (suc k) (omega arith) (ap (λ n. is_there n false) on ∙ there))
    (λ k below there. let on : first + suc k ≡ suc first + k = omega arith in back (suc k) (omega arith) (ap (λ n. is_there n true) on ∙ there))
    i

pub there_respects : (values : List ℤ) (arcs : List (Option Arc)) (number : ℕ) (arc : Arc) → RespectsArcs values arcs → arc_at arcs number ≡ Some arc → RespectsArc values arc
there_respects values arcs number arc all there = subst (λ (o : Option Arc). RespectsIfThere values o) there (all number)

-- ---- bounds without a price

pub free_respects : (net : NetworkState) (values : List ℤ) (k : ℕ) → RespectsArcs values (bare_arcs net) → k < length net.network.bounds → get_or net.network.prices k 1 ≡ 0 → RespectsArc values (get_or net.network.bounds k no_arc)
free_respects net values k all below free =
    there_respects values (bare_arcs net) (2 * k) (get_or net.network.bounds k no_arc) all
    (there_by_arc (is_bare net) net.network.bounds k below (eq-eqb (get_or net.network.prices k 1) 0 free))

pub unpriced_respects : (net : NetworkState) (values : List ℤ) (arc : Arc) → RespectsArcs values (bare_arcs net) → HasUnpriced net.network arc → RespectsArc values arc
unpriced_respects net values arc all has = subst (RespectsArc values) has.2 (free_respects net values has.0 all has.1 has.3)

pub all_free_respect : (net : NetworkState) (values : List ℤ) → ((k : ℕ) → k < length net.network.bounds → get_or net.network.prices k 1 ≡ 0 → RespectsArc values (get_or net.network.bounds k no_arc)) → RespectsArcs values (bare_arcs net)
all_free_respect net values each =
    there_each (RespectsArc values) 0 (is_bare net) net.network.bounds
    (λ k below there. each k below (ap (λ n. get_or net.network.prices n 1) (sym (zero-add k)) ∙ eqb-true (get_or net.network.prices (0 + k) 1) 0 there))
    (λ k below there. absurd cc)
