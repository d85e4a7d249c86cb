-- For proofs: a network as it stands in memory.
use Rattle.std.specs.Prelude.{◌≡◌, ℕ, ℤ, pos, List, [], ◌∷◌, length, map, take, drop, replicate}
use Rattle.bound_graph.specs.declared.arc.Arc.{Arc}
use Rattle.bound_graph.specs.Graph.{Digraph}
use Rattle.bound_graph.specs.Reverses.{with_reverses}
use Rattle.flow_core.specs.declared.prices.Kept.{Kept}
use Rattle.flow_core.specs.declared.prices.Kept.TheVariants.{Count, Each}
use Rattle.flow_core.specs.Layout.{FlowNetwork, nodes_of, arcs_of, unpriced_capacity}
use Rattle.flow_core.specs.State.{NetworkState, IsNetwork}

-- the prices that are kept: by their count alone where all are 0
abbrev pub prices_in : Kept → List ℕ
prices_in (Count count) = replicate count 0
prices_in (Each prices) = prices.items

-- every second element, from the first on
abbrev pub evens : {A : Type 0} → List A → List A
evens [] = []
evens (x ∷ []) = x ∷ []
evens (x ∷ (y ∷ xs)) = x ∷ evens xs

-- the arcs of the bounds, out of all arcs with their reverses
unfoldable pub bounds_in : List Arc → ℕ → List Arc
bounds_in arcs count = take count (evens arcs)

-- the values of the readings, which are the costs of the arcs to them
unfoldable pub values_in : List Arc → ℕ → List ℤ
values_in arcs count = map (λ arc. arc.cost) (evens (drop count (evens arcs)))

-- the network whose arcs with their reverses these are
abbrev pub network_in : List Arc → List ℕ → List ℕ → FlowNetwork
network_in arcs prices weights = record {
  bounds = bounds_in arcs (length prices);
  prices = prices;
  values = values_in arcs (length prices);
  weights = weights;
}

-- a network by what is stored of it: its graph's arcs, its prices and weights, its flows, excesses, potentials and changes
abbrev pub state_in : List Arc → List ℕ → List ℕ → List ℤ → List ℤ → List ℤ → ℕ → NetworkState
state_in arcs prices weights flows excesses potentials changes = record {
  network = network_in arcs prices weights;
  flows = flows;
  excesses = excesses;
  potentials = potentials;
  changes = changes;
}

-- The graph has the arcs and the reverses of a network, all that holds of a network holds, and the capacity of bounds
-- without a price is known.
pub record IsStored (graph : Digraph) (capacity : ℤ) (net : NetworkState) : Type 0 where
  pub nodes : graph.nodes ≡ nodes_of net.network
  pub arcs : graph.arcs ≡ with_reverses (arcs_of net.network)
  pub unpriced : capacity ≡ pos (unpriced_capacity net.network)
  pub network : IsNetwork net
