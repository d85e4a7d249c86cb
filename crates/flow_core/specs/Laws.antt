-- To be believed: what a flow network says of the problem that it was made of.
use Rattle.std.specs.Prelude.{◌≡◌, ℕ, suc, ◌/◌, ◌<◌, true, ℤ, pos, ◌+ℤ◌, ◌-ℤ◌, ◌≤ℤ◌, ◌<ℤ◌, List, ◌∷◌, length, map, Some, slice_get}
use Rattle.std.specs.List.{AllByRecursion}
use Rattle.words.specs.Lists.{Distinct}
use Rattle.screen_model.specs.declared.place.Place.{Place}
use Rattle.screen_model.specs.Obeys.{Priced, HasEnds, Obeys}
use Rattle.screen_model.specs.Cost.{Problem, IsProblem, IsSeries, cost}
use Rattle.screen_model.specs.Flow.{pull, IsAdmissible, dual_value}
use Rattle.screen_model.specs.Best.{IsBest, IsBlocked}
use Rattle.bound_graph.specs.Values.{value_of, RespectsArcs, series_of}
use Rattle.bound_graph.specs.Cycle.{IsNegativeCycle}
use Rattle.flow_core.specs.Layout.{network_of, arc_numbered, is_unpriced}
use Rattle.flow_core.specs.State.{NetworkState, IsNetwork, balance, flow_on, bound_flows, value}
use Rattle.flow_core.specs.Views.{tight_arcs, bare_arcs}
use Rattle.flow_core.specs.Solving.{IsSolved}

-- The network is that of a sound problem, whose bounds have their ends among its places.
pub record IsNetworkOf (problem : Problem) (net : NetworkState) : Type 0 where
  pub sound : IsProblem problem
  pub ends : AllByRecursion (λ priced. HasEnds problem.places priced.bound) problem.bounds
  pub network : IsNetwork net
  pub same : net.network ≡ network_of problem

-- A flow over the bounds pulls at a reading by what leaves its node on the arcs of the bounds, less what enters it.
abbrev pub PullIsBalance : Type 0
PullIsBalance = (problem : Problem) (flow : List ℤ) (reading : ℕ) (p : Place) → Distinct problem.places
    → AllByRecursion (λ priced. HasEnds problem.places priced.bound) problem.bounds
    → slice_get problem.places reading ≡ Some p
    → pull problem.bounds flow p ≡ pos 0 -ℤ balance (network_of problem).bounds flow (suc reading)

-- No reading has an excess.
abbrev pub IsBalancedAtReadings : NetworkState → Type 0
IsBalancedAtReadings net = (reading : ℕ) → reading < length net.network.values → value_of net.excesses (suc reading) ≡ pos 0

-- Then no node has one: what leaves node 0 comes back to it.
abbrev pub BalancedEverywhere : Type 0
BalancedEverywhere = (net : NetworkState) → IsNetwork net → IsBalancedAtReadings net → (node : ℕ) → value_of net.excesses node ≡ pos 0

-- And the flows on the bounds are admissible, and the value of the network is their dual value.
abbrev pub BalancedIsAdmissible : Type 0
BalancedIsAdmissible = (problem : Problem) (net : NetworkState) → IsNetworkOf problem net → IsBalancedAtReadings net
    → IsAdmissible problem (bound_flows net) × (value net ≡ dual_value problem (bound_flows net))

-- Of a solved network the potentials of the readings are a series that costs least, as the flows on the bounds show.
abbrev pub SolvedIsBest : Type 0
SolvedIsBest = (problem : Problem) (net : NetworkState) → IsNetworkOf problem net → IsSolved net
    → IsBest problem (series_of net.potentials) (bound_flows net) × (value net ≡ pos (cost problem (series_of net.potentials)))

-- In a solved network a series that respects the tight arcs, with the value 0 at node 0, costs least.
abbrev pub TightIsBest : Type 0
TightIsBest = (problem : Problem) (net : NetworkState) (series : List ℤ) → IsNetworkOf problem net → IsSolved net → IsSeries problem series
    → RespectsArcs (pos 0 ∷ series) (tight_arcs net) → IsBest problem series (bound_flows net) × (value net ≡ pos (cost problem series))

-- And each series that costs least respects them.
abbrev pub BestIsTight : Type 0
BestIsTight = (problem : Problem) (net : NetworkState) (series : List ℤ) → IsNetworkOf problem net → IsSolved net → IsSeries problem series
    → Obeys problem.places series problem.bounds → pos (cost problem series) ≤ℤ value net → RespectsArcs (pos 0 ∷ series) (tight_arcs net)

-- In a solved network, where something flows on a bound without a price, the potentials of its ends differ by its cost.
abbrev pub FlowIsTight : Type 0
FlowIsTight = (net : NetworkState) (arc : ℕ) → IsNetwork net → IsSolved net → is_unpriced net.network arc ≡ true → pos 0 <ℤ flow_on net arc
    → value_of net.potentials (arc_numbered net.network arc).head ≡ value_of net.potentials (arc_numbered net.network arc).tail +ℤ (arc_numbered net.network arc).cost

-- A cycle of bounds without a price with a negative sum is a blocked cycle of the bounds, which have half the numbers.
abbrev pub NegativeCycleIsBlocked : Type 0
NegativeCycleIsBlocked = (problem : Problem) (net : NetworkState) (numbers : List ℕ) → IsNetworkOf problem net → IsNegativeCycle (bare_arcs net) numbers
    → (cycle : List Priced) × (map (slice_get problem.bounds) (map (λ number. number / 2) numbers) ≡ map Some cycle) × IsBlocked problem.bounds cycle
