-- Arcs both ways, by their numbers.
use Rattle.std.proofs.Common.{◌≡◌, ℕ, zero, suc, ◌+◌, ◌*◌, ◌/◌, ◌%◌, ◌<◌, ◌≤◌, true, false, eqb, List, [], ◌∷◌, ◌++◌, length, map, get_or, Option, Some, None, refl, ap, sym, ◌∙◌, arith}
use Rattle.std.specs.List.{AllByRecursion}
use Rattle.std.proofs.lemmas.List.{length-map, get_or_past}
use Rattle.words.proofs.Products.{size_of_minus}
use Rattle.bound_graph.specs.declared.arc.Arc.{Arc}
use Rattle.bound_graph.specs.Arcs.{IsArc, arc_at, no_arc}
use Rattle.bound_graph.specs.Reverses.{reversed, turned, with_reverses, is_back}

-- ---- numbers

pub half_more : (k : ℕ) → suc (suc k) / 2 ≡ suc (k / 2)
half_more k = omega arith

pub back_more : (number : ℕ) → is_back (suc (suc number)) ≡ is_back number
back_more number = ap (λ r. eqb r 1) (let e : suc (suc number) % 2 ≡ number % 2 = omega arith in e)

pub half_even : (k : ℕ) → (2 * k) / 2 ≡ k
half_even k = omega arith

pub half_odd : (k : ℕ) → (2 * k + 1) / 2 ≡ k
half_odd k = omega arith

pub even_is_there : (k : ℕ) → is_back (2 * k) ≡ false
even_is_there k = let e : (2 * k) % 2 ≡ 0 = omega arith in ap (λ r. eqb r 1) e

pub odd_is_back : (k : ℕ) → is_back (2 * k + 1) ≡ true
odd_is_back k = let e : (2 * k + 1) % 2 ≡ 1 = omega arith in ap (λ r. eqb r 1) e

-- ---- lists

pub with_reverses-append : (xs ys : List Arc) → with_reverses (xs ++ ys) ≡ with_reverses xs ++ with_reverses ys
with_reverses-append [] ys = refl
with_reverses-append (x ∷ xs) ys = ap (λ (zs : List Arc). x ∷ (reversed x ∷ zs)) (with_reverses-append xs ys)

pub length-with_reverses : (arcs : List Arc) → length (with_reverses arcs) ≡ 2 * length arcs
length-with_reverses [] = refl
length-with_reverses (arc ∷ arcs) = omega (arith, length-with_reverses arcs)

pub reversed_valid : (nodes : ℕ) (arc : Arc) → IsArc nodes arc → IsArc nodes (reversed arc)
reversed_valid nodes arc valid = record { tail = valid.head; head = valid.tail; cost = omega (arith, valid.cost, size_of_minus arc.cost) }

pub all_both_ways : (nodes : ℕ) (arcs : List Arc) → AllByRecursion (IsArc nodes) arcs → AllByRecursion (IsArc nodes) (with_reverses arcs)
all_both_ways nodes [] all = tt
all_both_ways nodes (arc ∷ arcs) all = (all.0, (reversed_valid nodes arc all.0, all_both_ways nodes arcs all.1))

-- ---- the arc or reverse of a number

abbrev pub both_ways : List Arc → ℕ → Option Arc
both_ways arcs number = arc_at (map Some (with_reverses arcs)) number

pub none_past : (arcs : List Arc) (number : ℕ) → length arcs ≤ number / 2 → both_ways arcs number ≡ None
none_past arcs number past = get_or_past (map Some (with_reverses arcs)) number None (omega (arith, length-map {A = Arc} {B = Option Arc} (with_reverses arcs) Some, length-with_reverses arcs))

pub some_within : (arcs : List Arc) (number : ℕ) → number / 2 < length arcs → both_ways arcs number ≡ Some (turned (is_back number) (get_or arcs (number / 2) no_arc))
some_within [] number below = absurd (omega arith)
some_within (arc ∷ arcs) zero below = refl
some_within (arc ∷ arcs) (suc zero) below = refl
some_within (arc ∷ arcs) (suc (suc number)) below =
    some_within arcs number (omega (arith, below, half_more number))
    ∙ (λ i. Some (turned (sym (back_more number) i) (get_or (arc ∷ arcs) (sym (half_more number) i) no_arc)))

pub both_ways_at : (arcs : List Arc) (number : ℕ) → number < length (with_reverses arcs) → get_or (with_reverses arcs) number no_arc ≡ turned (is_back number) (get_or arcs (number / 2) no_arc)
both_ways_at [] number below = absurd (omega arith)
both_ways_at (arc ∷ arcs) zero below = refl
both_ways_at (arc ∷ arcs) (suc zero) below = refl
both_ways_at (arc ∷ arcs) (suc (suc number)) below =
    both_ways_at arcs number (omega (arith, below))
    ∙ (λ i. turned (sym (back_more number) i) (get_or (arc ∷ arcs) (sym (half_more number) i) no_arc))

pub arc_there : (arcs : List Arc) (k : ℕ) → k < length arcs → both_ways arcs (2 * k) ≡ Some (get_or arcs k no_arc)
arc_there arcs k below =
    some_within arcs (2 * k) (omega (arith, below, half_even k))
    ∙ (λ i. Some (turned (even_is_there k i) (get_or arcs (half_even k i) no_arc)))

pub arc_back : (arcs : List Arc) (k : ℕ) → k < length arcs → both_ways arcs (2 * k + 1) ≡ Some (reversed (get_or arcs k no_arc))
arc_back arcs k below =
    some_within arcs (2 * k + 1) (omega (arith, below, half_odd k))
    ∙ (λ i. Some (turned (odd_is_back k i) (get_or arcs (half_odd k i) no_arc)))
