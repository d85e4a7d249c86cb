-- Arcs transposed.
use Rattle.std.proofs.Common.{◌≡◌, ℕ, zero, suc, ℤ, pos, ◌-ℤ◌, List, [], ◌∷◌, length, Option, None, Some, refl, sym, ap, ◌∙◌, subst, arith}
use Rattle.std.specs.Prelude.{option_map}
use Rattle.std.proofs.lemmas.Int.{ints}
use Rattle.std.proofs.lemmas.List.{length-map}
use Rattle.bound_graph.specs.declared.arc.Arc.{Arc}
use Rattle.bound_graph.specs.Arcs.{arc_at}
use Rattle.bound_graph.specs.Values.{value_of, RespectsIfThere, RespectsArcs}
use Rattle.neg_cycle.specs.Distances.{AreAtMost}
use Rattle.neg_cycle.specs.Transposed.{transposed, all_transposed, negated, TransposedIsNegated, LeastByTransposing}

pub transposed_at : (arcs : List (Option Arc)) (i : ℕ) → arc_at (all_transposed arcs) i ≡ option_map transposed (arc_at arcs i)
transposed_at [] i = refl
transposed_at (arc ∷ arcs) zero = refl
transposed_at (arc ∷ arcs) (suc i) = transposed_at arcs i

negated_at : (values : List ℤ) (node : ℕ) → value_of (negated values) node ≡ pos 0 -ℤ value_of values node
negated_at [] node = refl
negated_at (value ∷ values) zero = refl
negated_at (value ∷ values) (suc node) = negated_at values node

length_negated : (values : List ℤ) → length (negated values) ≡ length values
length_negated values = length-map values (λ value. pos 0 -ℤ value)

negated_twice : (values : List ℤ) → negated (negated values) ≡ values
negated_twice [] = refl
negated_twice (value ∷ values) =
    let same : pos 0 -ℤ (pos 0 -ℤ value) ≡ value = omega (arith, ints) in
    ap (λ (v : ℤ). v ∷ negated (negated values)) same ∙ ap (λ (l : List ℤ). value ∷ l) (negated_twice values)

transposed_if_there : (values : List ℤ) (arc : Option Arc) → RespectsIfThere values arc → RespectsIfThere (negated values) (option_map transposed arc)
transposed_if_there values None respects = tt
transposed_if_there values (Some arc) respects = omega (arith, ints, negated_at values arc.tail, negated_at values arc.head)

there_if_transposed : (values : List ℤ) (arc : Option Arc) → RespectsIfThere (negated values) (option_map transposed arc) → RespectsIfThere values arc
there_if_transposed values None respects = tt
there_if_transposed values (Some arc) respects = omega (arith, ints, negated_at values arc.tail, negated_at values arc.head)

pub is_negated : TransposedIsNegated
is_negated arcs values = (
  λ respects i. subst (RespectsIfThere (negated values)) (sym (transposed_at arcs i)) (transposed_if_there values (arc_at arcs i) (respects i)),
  λ respects i. there_if_transposed values (arc_at arcs i) (subst (RespectsIfThere (negated values)) (transposed_at arcs i) (respects i)),
)

at_most_negated : (lows highs : List ℤ) → AreAtMost lows highs → AreAtMost (negated highs) (negated lows)
at_most_negated lows highs below = record {
  nodes = omega (arith, length_negated lows, length_negated highs, below.nodes);
  each = λ node h.
      let here = below.each node (omega (arith, length_negated lows, below.nodes)) in
      omega (arith, ints, negated_at lows node, negated_at highs node);
}

pub least : LeastByTransposing
least arcs starts distances greatest =
    let twice = negated_twice distances in
    let respects = (is_negated arcs (negated distances)).1 (subst (λ values. RespectsArcs values (all_transposed arcs)) (sym twice) greatest.respects) in
    record {
      above = subst (λ values. AreAtMost values (negated distances)) (negated_twice starts) (at_most_negated distances (negated starts) greatest.below);
      respects = respects;
      least = λ other above others.
          let low = greatest.greatest (negated other) (at_most_negated starts other above) ((is_negated arcs other).0 others) in
          subst (AreAtMost (negated distances)) (negated_twice other) (at_most_negated (negated other) distances low);
    }
