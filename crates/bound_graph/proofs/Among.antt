-- Arcs that are among others.
use Rattle.std.proofs.Common.{◌≡◌, ℕ, ℤ, List, [], ◌∷◌, map, Option, None, Some, IfSome, refl, ap, ◌∙◌, subst}
use Rattle.bound_graph.specs.declared.arc.Arc.{Arc}
use Rattle.bound_graph.specs.Arcs.{arc_at, AreAmong}
use Rattle.bound_graph.specs.Values.{RespectsIfThere}
use Rattle.bound_graph.specs.Nodes.{NegativeCycleAmong, RespectsThoseAmong}

respects_one : (values : List ℤ) (arc other : Option Arc) → IfSome arc (λ a. other ≡ Some a) → RespectsIfThere values other → RespectsIfThere values arc
respects_one values None other among respects = tt
respects_one values (Some arc) other among respects = subst (λ (o : Option Arc). RespectsIfThere values o) among respects

pub respects : RespectsThoseAmong
respects arcs others number values among all i = respects_one values (arc_at arcs i) (arc_at others (number i)) (among i) (all (number i))

there_among : (arcs others : List (Option Arc)) (number : ℕ → ℕ) (numbers : List ℕ) (cycle : List Arc) → AreAmong arcs others number → map (arc_at arcs) numbers ≡ map Some cycle → map (arc_at others) (map number numbers) ≡ map Some cycle
there_among arcs others number [] [] among there = refl
there_among arcs others number [] (arc ∷ cycle) among there = absurd cc
there_among arcs others number (i ∷ numbers) [] among there = absurd cc
there_among arcs others number (i ∷ numbers) (arc ∷ cycle) among there =
    let this : arc_at arcs i ≡ Some arc = cc in
    let later : map (arc_at arcs) numbers ≡ map Some cycle = cc in
    let here : arc_at others (number i) ≡ Some arc = subst (λ (o : Option Arc). IfSome o (λ a. arc_at others (number i) ≡ Some a)) this (among i) in
    ap (λ (o : Option Arc). o ∷ map (arc_at others) (map number numbers)) here ∙ ap (λ (l : List (Option Arc)). Some arc ∷ l) (there_among arcs others number numbers cycle among later)

pub cycle : NegativeCycleAmong
cycle arcs others number numbers among negative = record {
  cycle = negative.cycle;
  there = there_among arcs others number numbers negative.cycle among negative.there;
  some = negative.some;
  closed = negative.closed;
  simple = negative.simple;
  negative = negative.negative;
}
