-- Values at nodes and values of readings.
use Rattle.std.proofs.Common.{◌≡◌, ℕ, zero, suc, ◌<◌, Bool, true, false, cond, eqb, ℤ, pos, ◌-ℤ◌, ◌↔◌, List, [], ◌∷◌, length, get_or, map, Option, None, Some, IfSome, refl, ap, ◌∙◌, subst, arith}
use Rattle.std.specs.List.{AllByRecursion}
use Rattle.std.proofs.lemmas.Int.{ints}
use Rattle.std.proofs.lemmas.Bool.{cond-false, ne_eqb}
use Rattle.std.proofs.lemmas.List.{length-map}
use Rattle.screen_model.specs.declared.place.Place.{Place}
use Rattle.screen_model.specs.declared.place.End.TheVariants.{Zero, At}
use Rattle.screen_model.specs.declared.bound.Bound.{Bound}
use Rattle.screen_model.specs.Series.{is_same_place, reading_at}
use Rattle.screen_model.specs.Obeys.{Priced, HasEnds, Keeps, Obeys}
use Rattle.bound_graph.specs.declared.arc.Arc.{Arc}
use Rattle.bound_graph.specs.Arcs.{arc_at, IsBetween}
use Rattle.bound_graph.specs.Graph.{index_of, arc_of_bound}
use Rattle.bound_graph.specs.Values.{value_of, RespectsArc, RespectsIfThere, RespectsArcs, relative_to_first, series_of}
use Rattle.bound_graph.specs.Nodes.{unpriced_arcs, ArcsWithoutPrices, ValuesAtEnds, ObeyingIsRespecting, RelativeToFirstRespects, DistancesGiveSeries}
use Rattle.bound_graph.proofs.Arcs.{node_below}

pub without_price : ArcsWithoutPrices
without_price places [] free = refl
without_price places (priced ∷ bounds) free =
    let arc = arc_of_bound places priced.bound in
    let here : cond (eqb priced.price 0) (Some arc) None ≡ Some arc = ap (λ (price : ℕ). cond (eqb price 0) (Some arc) None) free.0 in
    ap (λ (o : Option Arc). o ∷ unpriced_arcs places bounds) here ∙ ap (λ (arcs : List (Option Arc)). Some arc ∷ arcs) (without_price places bounds free.1)

-- ---- one end, one bound

picked : (same : Bool) (x : ℤ) (series : List ℤ) (k : ℕ) → cond same x (get_or series k (pos 0)) ≡ get_or (x ∷ series) (cond same 0 (suc k)) (pos 0)
picked true x series k = refl
picked false x series k = refl

reading_at_index : (places : List Place) (series : List ℤ) (p : Place) → length series ≡ length places → reading_at places series p ≡ get_or series (index_of places p) (pos 0)
reading_at_index [] [] p e = refl
reading_at_index [] (x ∷ series) p e = absurd (omega arith)
reading_at_index (q ∷ places) [] p e = absurd (omega arith)
reading_at_index (q ∷ places) (x ∷ series) p e =
    ap (λ v. cond (is_same_place p q) x v) (reading_at_index places series p (omega arith)) ∙ picked (is_same_place p q) x series (index_of places p)

pub value_at_node : ValuesAtEnds
value_at_node places series Zero e = refl
value_at_node places series (At p) e = reading_at_index places series p e

-- a bound is kept exactly where its arc is respected
pub keeps_is_respects : (places : List Place) (series : List ℤ) (bound : Bound) → length series ≡ length places → Keeps places series bound ↔ RespectsArc (pos 0 ∷ series) (arc_of_bound places bound)
keeps_is_respects places series bound e =
    let first = value_at_node places series bound.first e in
    let second = value_at_node places series bound.second e in
    (λ kept. omega (arith, ints), λ respects. omega (arith, ints))

-- ---- the arcs of bounds without prices

none_if_priced : (arc : Arc) (price : ℕ) → cond (eqb (suc price) 0) (Some arc) None ≡ None
none_if_priced arc price = cond-false (eqb (suc price) 0) (Some arc) None (ne_eqb (suc price) 0 (λ e. absurd (omega arith)))

there_if_unpriced : (P : Arc → Type 0) (arc : Arc) (price : ℕ) → (price ≡ 0 → P arc) → IfSome (cond (eqb price 0) (Some arc) None) P
there_if_unpriced P arc zero holds = holds refl
there_if_unpriced P arc (suc price) holds = rw (none_if_priced arc price) tt

unpriced_if_there : (P : Arc → Type 0) (arc : Arc) (price : ℕ) → IfSome (cond (eqb price 0) (Some arc) None) P → price ≡ 0 → P arc
unpriced_if_there P arc zero there e = there
unpriced_if_there P arc (suc price) there e = absurd (omega arith)

obeyed : (places : List Place) (series : List ℤ) (bounds : List Priced) → length series ≡ length places → Obeys places series bounds → (i : ℕ) → RespectsIfThere (pos 0 ∷ series) (arc_at (unpriced_arcs places bounds) i)
obeyed places series [] e obeys i = tt
obeyed places series (priced ∷ bounds) e obeys zero =
    there_if_unpriced (RespectsArc (pos 0 ∷ series)) (arc_of_bound places priced.bound) priced.price (λ free. (keeps_is_respects places series priced.bound e).0 (obeys.0 free))
obeyed places series (priced ∷ bounds) e obeys (suc i) = obeyed places series bounds e obeys.1 i

respected : (places : List Place) (series : List ℤ) (bounds : List Priced) → length series ≡ length places → RespectsArcs (pos 0 ∷ series) (unpriced_arcs places bounds) → Obeys places series bounds
respected places series [] e respects = tt
respected places series (priced ∷ bounds) e respects = (
  λ free. (keeps_is_respects places series priced.bound e).1 (unpriced_if_there (RespectsArc (pos 0 ∷ series)) (arc_of_bound places priced.bound) priced.price (respects 0) free),
  respected places series bounds e (λ i. respects (suc i)),
)

pub obeys_is_respects : ObeyingIsRespecting
obeys_is_respects places series bounds e = (obeyed places series bounds e, respected places series bounds e)

pub unpriced_between : (places : List Place) (bounds : List Priced) (nodes : ℕ) → nodes ≡ suc (length places) → AllByRecursion (λ priced. HasEnds places priced.bound) bounds → (i : ℕ) → IfSome (arc_at (unpriced_arcs places bounds) i) (IsBetween nodes)
unpriced_between places [] nodes e ends i = tt
unpriced_between places (priced ∷ bounds) nodes e ends zero =
    there_if_unpriced (IsBetween nodes) (arc_of_bound places priced.bound) priced.price (λ free. (omega (arith, node_below places priced.bound.first ends.0.0), omega (arith, node_below places priced.bound.second ends.0.1)))
unpriced_between places (priced ∷ bounds) nodes e ends (suc i) = unpriced_between places bounds nodes e ends.1 i

-- ---- values less the first

value_less : (first : ℤ) (values : List ℤ) (node : ℕ) → node < length values → value_of (map (λ value. value -ℤ first) values) node ≡ value_of values node -ℤ first
value_less first [] node h = absurd (omega arith)
value_less first (value ∷ values) zero h = refl
value_less first (value ∷ values) (suc node) h = value_less first values node (omega arith)

pub relative_to_first_respects_arc : (values : List ℤ) (arc : Arc) → IsBetween (length values) arc → RespectsArc values arc → RespectsArc (relative_to_first values) arc
relative_to_first_respects_arc values arc between respects =
    let first = value_of values 0 in
    omega (arith, ints, value_less first values arc.tail between.0, value_less first values arc.head between.1)

less_if_there : (values : List ℤ) (arc : Option Arc) → IfSome arc (IsBetween (length values)) → RespectsIfThere values arc → RespectsIfThere (relative_to_first values) arc
less_if_there values None between respects = tt
less_if_there values (Some arc) between respects = relative_to_first_respects_arc values arc between respects

pub relative_respects : RelativeToFirstRespects
relative_respects values arcs between respects i = less_if_there values (arc_at arcs i) (between i) (respects i)

-- the series of distances, with 0 before it
pub zero_and_series : (distances : List ℤ) (count : ℕ) → length distances ≡ suc count → relative_to_first distances ≡ pos 0 ∷ series_of distances
zero_and_series [] count e = absurd (omega arith)
zero_and_series (d ∷ distances) count e =
    let none : d -ℤ d ≡ pos 0 = omega (arith, ints) in
    ap (λ z. z ∷ map (λ value. value -ℤ d) distances) none

length_series : (distances : List ℤ) (count : ℕ) → length distances ≡ suc count → length (series_of distances) ≡ count
length_series [] count e = absurd (omega arith)
length_series (d ∷ distances) count e = length-map distances (λ value. value -ℤ d) ∙ (let same : length distances ≡ count = omega arith in same)

pub series_obeys : DistancesGiveSeries
series_obeys places distances bounds full ends respects =
    let less = relative_respects distances (unpriced_arcs places bounds) (unpriced_between places bounds (length distances) full ends) respects in
    let from_zero = subst (λ values. RespectsArcs values (unpriced_arcs places bounds)) (zero_and_series distances (length places) full) less in
    let size = length_series distances (length places) full in
    (size, respected places (series_of distances) bounds size from_zero)
