-- Cycles of arcs, and those that are cycles of bounds.
use Rattle.std.proofs.Common.{◌≡◌, ◌≢◌, ℕ, zero, suc, eqb, ℤ, negsuc, ◌+ℤ◌, ◌≤ℤ◌, List, [], ◌∷◌, length, get_or, map, Option, Some, Contains, refl, sym, ap, ◌∙◌, subst, arith}
use Rattle.std.specs.Prelude.{slice_get}
use Rattle.std.specs.List.{AllByRecursion}
use Rattle.std.proofs.lemmas.Bool.{eqb-true}
use Rattle.std.proofs.lemmas.Int.{ints}
use Rattle.std.proofs.lemmas.List.{length-map}
use Rattle.std.proofs.lemmas.Option.{cond_some}
use Rattle.words.specs.Lists.{Distinct, rotated, total}
use Rattle.screen_model.specs.declared.place.Place.{Place}
use Rattle.screen_model.specs.declared.place.End.{End}
use Rattle.screen_model.specs.declared.place.End.TheVariants.{Zero, At}
use Rattle.screen_model.specs.Series.{IsEnd}
use Rattle.screen_model.specs.Obeys.{Priced, HasEnds}
use Rattle.bound_graph.specs.declared.arc.Arc.{Arc}
use Rattle.bound_graph.specs.Arcs.{arc_at}
use Rattle.bound_graph.specs.Graph.{node_of, index_of, arc_of_bound}
use Rattle.bound_graph.specs.Values.{value_of, RespectsArc, RespectsIfThere, RespectsArcs}
use Rattle.bound_graph.specs.Nodes.{unpriced_arcs, NegativeCycleBlocks, NegativeCycleForbids}
use Rattle.words.proofs.Lists.{all_at, all_push, map-rotated}
use Rattle.words.proofs.Sums.{total-rotated}
use Rattle.bound_graph.proofs.Nodes.{place_at_index, index_of_contained}

-- ---- a cycle with a negative sum forbids

-- the sum of a value over nodes, which is the same over the nodes in rotation
abbrev pub over : (ℕ → ℤ) → List ℕ → ℤ
over value nodes = total (map value nodes)

pub over-rotated : (value : ℕ → ℤ) (nodes : List ℕ) → over value (rotated nodes) ≡ over value nodes
over-rotated value nodes = ap total (map-rotated value nodes) ∙ total-rotated (map value nodes)

-- where each arc is respected, the values at the heads are together at most those at the tails and the costs
respected_together : (arcs : List (Option Arc)) (values : List ℤ) (numbers : List ℕ) (cycle : List Arc) → RespectsArcs values arcs → map (arc_at arcs) numbers ≡ map Some cycle → over (value_of values) (map (λ arc. arc.head) cycle) ≤ℤ (over (value_of values) (map (λ arc. arc.tail) cycle) +ℤ total (map (λ arc. arc.cost) cycle))
respected_together arcs values [] [] respects there = omega (arith, ints)
respected_together arcs values [] (arc ∷ cycle) respects there = absurd cc
respected_together arcs values (i ∷ numbers) [] respects there = absurd cc
respected_together arcs values (i ∷ numbers) (arc ∷ cycle) respects there =
    let this : arc_at arcs i ≡ Some arc = cc in
    let others : map (arc_at arcs) numbers ≡ map Some cycle = cc in
    let here : RespectsArc values arc = subst (λ o. RespectsIfThere values o) this (respects i) in
    let rest = respected_together arcs values numbers cycle respects others in
    omega (arith, ints)

pub forbids : NegativeCycleForbids
forbids arcs numbers values negative respects =
    let cycle = negative.cycle in
    let tails = map (λ arc. arc.tail) cycle in
    let together = respected_together arcs values numbers cycle respects negative.there in
    let same : over (value_of values) (map (λ arc. arc.head) cycle) ≡ over (value_of values) tails = ap (over (value_of values)) negative.closed ∙ over-rotated (value_of values) tails in
    let below = negative.negative in
    omega (arith, ints)

-- ---- the bounds of a cycle's arcs

record HasBound (places : List Place) (bounds : List Priced) (number : ℕ) (arc : Arc) : Type 0 where
  priced : Priced
  there : slice_get bounds number ≡ Some priced
  is : arc_of_bound places priced.bound ≡ arc
  member : Contains bounds priced
  unpriced : priced.price ≡ 0

bound_of : (places : List Place) (bounds : List Priced) (number : ℕ) (arc : Arc) → arc_at (unpriced_arcs places bounds) number ≡ Some arc → HasBound places bounds number arc
bound_of places [] number arc there = absurd cc
bound_of places (priced ∷ bounds) zero arc there =
    let parts = cond_some (eqb priced.price 0) (arc_of_bound places priced.bound) arc there in
    record { priced = priced; there = refl; is = parts.1; member = (0, omega arith, refl); unpriced = eqb-true priced.price 0 parts.0 }
bound_of places (priced ∷ bounds) (suc number) arc there =
    let rest = bound_of places bounds number arc there in
    record { priced = rest.priced; there = rest.there; is = rest.is; member = (suc rest.member.0, omega (arith, rest.member.1), rest.member.2); unpriced = rest.unpriced }

record HaveBounds (places : List Place) (bounds : List Priced) (numbers : List ℕ) (arcs : List Arc) : Type 0 where
  cycle : List Priced
  there : map (slice_get bounds) numbers ≡ map Some cycle
  are : map (λ priced. arc_of_bound places priced.bound) cycle ≡ arcs
  members : AllByRecursion (Contains bounds) cycle
  unpriced : AllByRecursion (λ priced. priced.price ≡ 0) cycle

bounds_of : (places : List Place) (bounds : List Priced) (numbers : List ℕ) (arcs : List Arc) → map (arc_at (unpriced_arcs places bounds)) numbers ≡ map Some arcs → HaveBounds places bounds numbers arcs
bounds_of places bounds [] [] there = record { cycle = []; there = refl; are = refl; members = tt; unpriced = tt }
bounds_of places bounds [] (arc ∷ arcs) there = absurd cc
bounds_of places bounds (number ∷ numbers) [] there = absurd cc
bounds_of places bounds (number ∷ numbers) (arc ∷ arcs) there =
    let this : arc_at (unpriced_arcs places bounds) number ≡ Some arc = cc in
    let others : map (arc_at (unpriced_arcs places bounds)) numbers ≡ map Some arcs = cc in
    let first = bound_of places bounds number arc this in
    let rest = bounds_of places bounds numbers arcs others in
    record {
      cycle = first.priced ∷ rest.cycle;
      there = ap (λ (o : Option Priced). o ∷ map (slice_get bounds) numbers) first.there ∙ ap (λ (l : List (Option Priced)). Some first.priced ∷ l) rest.there;
      are = ap (λ (a : Arc). a ∷ map (λ (priced : Priced). arc_of_bound places priced.bound) rest.cycle) first.is ∙ ap (λ (l : List Arc). arc ∷ l) rest.are;
      members = (first.member, rest.members);
      unpriced = (first.unpriced, rest.unpriced);
    }

-- ---- ends with one node are one end

same_end : (places : List Place) (a b : End) → IsEnd places a → IsEnd places b → node_of places a ≡ node_of places b → a ≡ b
same_end places Zero Zero at_a at_b e = refl
same_end places Zero (At q) at_a at_b e = absurd (omega arith)
same_end places (At p) Zero at_a at_b e = absurd (omega arith)
same_end places (At p) (At q) at_a at_b e =
    let index : index_of places p ≡ index_of places q = omega arith in
    let one = place_at_index places p p (index_of_contained places p at_a) in
    let two = place_at_index places q p (index_of_contained places q at_b) in
    ap At (sym one ∙ ap (λ k. get_or places k p) index ∙ two)

same_ends : (places : List Place) (ones twos : List End) → AllByRecursion (IsEnd places) ones → AllByRecursion (IsEnd places) twos → map (node_of places) ones ≡ map (node_of places) twos → ones ≡ twos
same_ends places [] [] at_a at_b e = refl
same_ends places [] (b ∷ twos) at_a at_b e = absurd cc
same_ends places (a ∷ ones) [] at_a at_b e = absurd cc
same_ends places (a ∷ ones) (b ∷ twos) at_a at_b e =
    let here : node_of places a ≡ node_of places b = cc in
    let later : map (node_of places) ones ≡ map (node_of places) twos = cc in
    let first = same_end places a b at_a.0 at_b.0 here in
    let rest = same_ends places ones twos at_a.1 at_b.1 later in
    cc

all_rotated : {A : Type 0} (P : A → Type 0) (xs : List A) → AllByRecursion P xs → AllByRecursion P (rotated xs)
all_rotated P [] all = tt
all_rotated P (x ∷ xs) all = all_push P xs x all.1 all.0

apart_from_map : {A B : Type 0} (f : A → B) (x : A) (xs : List A) → AllByRecursion (λ y. f x ≢ y) (map f xs) → AllByRecursion (λ y. x ≢ y) xs
apart_from_map f x [] apart = tt
apart_from_map f x (y ∷ xs) apart = (λ same. apart.0 (ap f same), apart_from_map f x xs apart.1)

-- what is distinct after a map was distinct before
distinct_from_map : {A B : Type 0} (f : A → B) (xs : List A) → Distinct (map f xs) → Distinct xs
distinct_from_map f [] distinct = tt
distinct_from_map f (x ∷ xs) distinct = (apart_from_map f x xs distinct.0, distinct_from_map f xs distinct.1)

-- the ends, nodes and costs of bounds and of their arcs
abbrev firsts : List Priced → List End
firsts cycle = map (λ priced. priced.bound.first) cycle

abbrev seconds : List Priced → List End
seconds cycle = map (λ priced. priced.bound.second) cycle

abbrev arcs_of_cycle : List Place → List Priced → List Arc
arcs_of_cycle places cycle = map (λ priced. arc_of_bound places priced.bound) cycle

tails_are : (places : List Place) (cycle : List Priced) → map (λ arc. arc.tail) (arcs_of_cycle places cycle) ≡ map (node_of places) (firsts cycle)
tails_are places [] = refl
tails_are places (priced ∷ cycle) = ap (λ nodes. node_of places priced.bound.first ∷ nodes) (tails_are places cycle)

heads_are : (places : List Place) (cycle : List Priced) → map (λ arc. arc.head) (arcs_of_cycle places cycle) ≡ map (node_of places) (seconds cycle)
heads_are places [] = refl
heads_are places (priced ∷ cycle) = ap (λ nodes. node_of places priced.bound.second ∷ nodes) (heads_are places cycle)

costs_are : (places : List Place) (cycle : List Priced) → map (λ arc. arc.cost) (arcs_of_cycle places cycle) ≡ map (λ priced. priced.bound.limit) cycle
costs_are places [] = refl
costs_are places (priced ∷ cycle) = ap (λ costs. priced.bound.limit ∷ costs) (costs_are places cycle)

ends_of : (places : List Place) (bounds cycle : List Priced) → AllByRecursion (λ priced. HasEnds places priced.bound) bounds → AllByRecursion (Contains bounds) cycle → AllByRecursion (IsEnd places) (firsts cycle) × AllByRecursion (IsEnd places) (seconds cycle)
ends_of places bounds [] ends members = (tt, tt)
ends_of places bounds (priced ∷ cycle) ends members =
    let Has = λ (p : Priced). HasEnds places p.bound in
    let here = all_at Has bounds priced ends members.0 in
    let rest = ends_of places bounds cycle ends members.1 in
    ((here.0, rest.0), (here.1, rest.1))

pub blocks : NegativeCycleBlocks
blocks places bounds numbers ends negative =
    let taken = bounds_of places bounds numbers negative.cycle negative.there in
    let cycle = taken.cycle in
    let are = sym taken.are in
    let at = ends_of places bounds cycle ends taken.members in
    let closed : map (λ arc. arc.head) (arcs_of_cycle places cycle) ≡ rotated (map (λ arc. arc.tail) (arcs_of_cycle places cycle)) = rw are at negative.closed in
    let simple : Distinct (map (λ arc. arc.tail) (arcs_of_cycle places cycle)) = rw are at negative.simple in
    let below : total (map (λ arc. arc.cost) (arcs_of_cycle places cycle)) ≤ℤ negsuc 0 = rw are at negative.negative in
    let round : map (node_of places) (seconds cycle) ≡ map (node_of places) (rotated (firsts cycle)) =
    sym (heads_are places cycle) ∙ closed ∙ ap rotated (tails_are places cycle) ∙ sym (map-rotated (node_of places) (firsts cycle))
    in (
      cycle,
      taken.there,
      record {
        some = omega (arith, negative.some, ap (λ (l : List Arc). length l) taken.are, length-map cycle (λ (priced : Priced). arc_of_bound places priced.bound));
        members = taken.members;
        unpriced = taken.unpriced;
        closed = same_ends places (seconds cycle) (rotated (firsts cycle)) at.1 (all_rotated (IsEnd places) (firsts cycle) at.0) round;
        simple = distinct_from_map (node_of places) (firsts cycle) (subst Distinct (tails_are places cycle) simple);
        negative = subst (λ costs. total costs ≤ℤ negsuc 0) (costs_are places cycle) below;
      },
    )
