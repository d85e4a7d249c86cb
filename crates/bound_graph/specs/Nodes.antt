-- To be believed: what arcs and nodes say of bounds and readings.
use Rattle.std.specs.Prelude.{◌≡◌, ◌↔◌, ℕ, suc, ◌*◌, ◌^◌, ◌≤◌, ℤ, pos, ◌==◌, if◌then◌else◌, List, ◌∷◌, length, map, Option, Some, None, slice_get, unsigned_abs, IfSome, Contains}
use Rattle.std.specs.List.{AllByRecursion}
use Rattle.screen_model.specs.declared.place.Place.{Place}
use Rattle.screen_model.specs.declared.place.End.{End}
use Rattle.screen_model.specs.declared.bound.Bound.{Bound}
use Rattle.screen_model.specs.Series.{value_at}
use Rattle.screen_model.specs.Obeys.{Priced, HasEnds, Obeys}
use Rattle.screen_model.specs.Best.{IsBlocked}
use Rattle.bound_graph.specs.declared.arc.Arc.{Arc}
use Rattle.bound_graph.specs.Arcs.{arc_at, AreAmong, IsArc, IsBetween}
use Rattle.bound_graph.specs.Graph.{node_of, arc_of_bound, arcs_of_bounds, graph_of, leaving}
use Rattle.bound_graph.specs.Values.{value_of, RespectsArcs, relative_to_first, series_of}
use Rattle.bound_graph.specs.Cycle.{IsNegativeCycle}

-- the arcs of the bounds that may not be broken, each under its bound's number; that of a bound with a price is not there
abbrev pub unpriced_arc : List Place → Priced → Option Arc
unpriced_arc places priced = if priced.price == 0 then Some (arc_of_bound places priced.bound) else None

abbrev pub unpriced_arcs : List Place → List Priced → List (Option Arc)
unpriced_arcs places bounds = map (unpriced_arc places) bounds

-- Where no bound has a price, these are the arcs of the bounds' graph.
abbrev pub ArcsWithoutPrices : Type 0
ArcsWithoutPrices = (places : List Place) (bounds : List Priced) → AllByRecursion (λ priced. priced.price ≡ 0) bounds
    → unpriced_arcs places bounds ≡ map Some (arcs_of_bounds places (map (λ priced. priced.bound) bounds))

-- The arcs of bounds whose ends are among the places, and whose limits are not too great, are arcs of their graph.
abbrev pub ArcsOfBoundsAreArcs : Type 0
ArcsOfBoundsAreArcs = (places : List Place) (bounds : List Bound) → AllByRecursion (HasEnds places) bounds
    → AllByRecursion (λ bound. unsigned_abs bound.limit ≤ 4 * 10 ^ 15) bounds
    → AllByRecursion (IsArc (graph_of places bounds).nodes) (arcs_of_bounds places bounds)

-- The value at an end is the one at its node, with the value 0 at node 0.
abbrev pub ValuesAtEnds : Type 0
ValuesAtEnds = (places : List Place) (series : List ℤ) (end : End) → length series ≡ length places
    → value_at places series end ≡ value_of (pos 0 ∷ series) (node_of places end)

-- A series obeys bounds exactly where it respects their arcs, with the value 0 at node 0.
abbrev pub ObeyingIsRespecting : Type 0
ObeyingIsRespecting = (places : List Place) (series : List ℤ) (bounds : List Priced) → length series ≡ length places
    → Obeys places series bounds ↔ RespectsArcs (pos 0 ∷ series) (unpriced_arcs places bounds)

-- Values, each less the one at node 0, respect the arcs that the values respect, if the values are those of all nodes.
abbrev pub RelativeToFirstRespects : Type 0
RelativeToFirstRespects = (values : List ℤ) (arcs : List (Option Arc)) → ((i : ℕ) → IfSome (arc_at arcs i) (IsBetween (length values)))
    → RespectsArcs values arcs → RespectsArcs (relative_to_first values) arcs

-- So distances that respect the arcs of bounds give a series, with a value for each place, that obeys.
abbrev pub DistancesGiveSeries : Type 0
DistancesGiveSeries = (places : List Place) (distances : List ℤ) (bounds : List Priced) → length distances ≡ suc (length places)
    → AllByRecursion (λ priced. HasEnds places priced.bound) bounds
    → RespectsArcs distances (unpriced_arcs places bounds)
    → (length (series_of distances) ≡ length places) × Obeys places (series_of distances) bounds

-- A cycle of their arcs with a negative sum is a blocked cycle of the bounds that have the numbers of its arcs.
abbrev pub NegativeCycleBlocks : Type 0
NegativeCycleBlocks = (places : List Place) (bounds : List Priced) (numbers : List ℕ)
    → AllByRecursion (λ priced. HasEnds places priced.bound) bounds
    → IsNegativeCycle (unpriced_arcs places bounds) numbers
    → (cycle : List Priced) × (map (slice_get bounds) numbers ≡ map Some cycle) × IsBlocked bounds cycle

-- Where a cycle of arcs has a negative sum, no values respect the arcs.
abbrev pub NegativeCycleForbids : Type 0
NegativeCycleForbids = (arcs : List (Option Arc)) (numbers : List ℕ) (values : List ℤ) → IsNegativeCycle arcs numbers → RespectsArcs values arcs → ⊥

-- Values that respect arcs respect all arcs that are among them.
abbrev pub RespectsThoseAmong : Type 0
RespectsThoseAmong = (arcs others : List (Option Arc)) (number : ℕ → ℕ) (values : List ℤ) → AreAmong arcs others number
    → RespectsArcs values others → RespectsArcs values arcs

-- A cycle of arcs with a negative sum is one of the arcs that they are among, under the numbers that they have there.
abbrev pub NegativeCycleAmong : Type 0
NegativeCycleAmong = (arcs others : List (Option Arc)) (number : ℕ → ℕ) (numbers : List ℕ) → AreAmong arcs others number
    → IsNegativeCycle arcs numbers → IsNegativeCycle others (map number numbers)

-- an arc of this number leaves the node
abbrev pub Leaves : List Arc → ℕ → ℕ → Type 0
Leaves arcs number node = (arc : Arc) × (slice_get arcs number ≡ Some arc) × (arc.tail ≡ node)

-- A number is among those of the arcs that leave a node exactly where its arc leaves the node.
abbrev pub LeavingExactly : Type 0
LeavingExactly = (arcs : List Arc) (node number : ℕ) → Contains (leaving arcs node) number ↔ Leaves arcs number node
