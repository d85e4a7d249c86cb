-- To be believed: what a flow network is made of. Its arcs with their costs and capacities are those of the bounds, which
-- carry flow from their first end to their second, and two for each reading, which carry flow to and from it.
use Rattle.std.specs.Prelude.{◌≡◌, ℕ, suc, ◌+◌, ◌<◌, ◌≤◌, ◌==◌, not, Bool, if◌then◌else◌, ℤ, pos, ◌-ℤ◌, List, [], ◌∷◌, ◌++◌, length, map, sum, count_by, get_or, unsigned_abs}
use Rattle.std.specs.List.{AllByRecursion}
use Rattle.screen_model.specs.declared.place.Place.{Place}
use Rattle.screen_model.specs.declared.place.End.{End}
use Rattle.screen_model.specs.declared.place.End.TheVariants.{Zero, At}
use Rattle.screen_model.specs.Obeys.{Priced}
use Rattle.screen_model.specs.Cost.{Problem}
use Rattle.bound_graph.specs.declared.arc.Arc.{Arc}
use Rattle.bound_graph.specs.Arcs.{IsArc, no_arc}
use Rattle.bound_graph.specs.Graph.{arcs_of_bounds}
use Rattle.std.specs.List.{Any}
use Rattle.screen_model.specs.declared.limits.TheConstants.{MOST_READINGS}
use Rattle.flow_core.specs.declared.limits.TheConstants.{MOST_BOUNDS, MOST_PRICE, MOST_WEIGHT, MOST_VALUE}

-- The arc and the price of each bound, 0 for no price; and the value and the weight of each reading. Reading i is
-- node i + 1, and node 0 stands for Zero.
pub record FlowNetwork : Type 0 where
  pub bounds : List Arc
  pub prices : List ℕ
  pub values : List ℤ
  pub weights : List ℕ

-- the network of a problem
abbrev pub network_of : Problem → FlowNetwork
network_of problem = record {
  bounds = arcs_of_bounds problem.places (map (λ priced. priced.bound) problem.bounds);
  prices = map (λ priced. priced.price) problem.bounds;
  values = problem.values;
  weights = problem.weights;
}

abbrev pub nodes_of : FlowNetwork → ℕ
nodes_of network = length network.values + 1

-- Of each reading the arc from node 0 to it, for its value, and the arc back, for the value negated. The first reading
-- has the node that is given, and each other one the node after.
abbrev pub reading_arcs : ℕ → List ℤ → List Arc
reading_arcs node [] = []
reading_arcs node (value ∷ values) =
    record { tail = 0; head = node; cost = value } ∷ (record { tail = node; head = 0; cost = pos 0 -ℤ value } ∷ reading_arcs (suc node) values)

-- the arcs by their numbers: arc k is bound k, and after the bounds come the two arcs of each reading
abbrev pub arcs_of : FlowNetwork → List Arc
arcs_of network = network.bounds ++ reading_arcs 1 network.values

abbrev pub arc_numbered : FlowNetwork → ℕ → Arc
arc_numbered network arc = get_or (arcs_of network) arc no_arc

-- each element, and beside it the same again
abbrev pub twice : {A : Type 0} → List A → List A
twice [] = []
twice (x ∷ xs) = x ∷ (x ∷ twice xs)

-- how much can flow on a bound without a price: more than the arcs of readings and of bounds with a price can carry out of
-- any set of nodes together
abbrev pub unpriced_capacity : FlowNetwork → ℕ
unpriced_capacity network = sum network.weights + sum network.prices + 1

abbrev pub capacity_at_price : ℕ → ℕ → ℕ
capacity_at_price unpriced price = if price == 0 then unpriced else price

-- the capacities of the arcs: of a bound with a price the price, and of both arcs of a reading its weight
abbrev pub capacities_of : FlowNetwork → List ℕ
capacities_of network = map (capacity_at_price (unpriced_capacity network)) network.prices ++ twice network.weights

abbrev pub capacity_numbered : FlowNetwork → ℕ → ℕ
capacity_numbered network arc = get_or (capacities_of network) arc 0

-- whether the arc of a number is that of a bound without a price
abbrev pub is_unpriced : FlowNetwork → ℕ → Bool
is_unpriced network arc = get_or network.prices arc 1 == 0

-- how many bounds have a price
abbrev pub priced_count : FlowNetwork → ℕ
priced_count network = count_by (λ price. not (price == 0)) network.prices

-- the arc is that of a bound without a price
abbrev pub HasUnpriced : FlowNetwork → Arc → Type 0
HasUnpriced network arc =
    (number : ℕ) × (number < length network.bounds) × (get_or network.bounds number no_arc ≡ arc) × (get_or network.prices number 1 ≡ 0)

-- Two bounds without a price keep the value at the node within the greatest size of values.
pub record HasRange (network : FlowNetwork) (node : ℕ) : Type 0 where
  pub up : HasUnpriced network (record { tail = 0; head = node; cost = pos MOST_VALUE })
  pub down : HasUnpriced network (record { tail = node; head = 0; cost = pos MOST_VALUE })

-- what holds of the parts of every network
pub record IsLayout (network : FlowNetwork) : Type 0 where
  pub few_bounds : length network.bounds ≤ MOST_BOUNDS
  pub few_readings : length network.values ≤ MOST_READINGS
  pub priced : length network.prices ≡ length network.bounds
  pub weighted : length network.weights ≡ length network.values
  pub arcs : AllByRecursion (IsArc (nodes_of network)) network.bounds
  pub values : AllByRecursion (λ value. unsigned_abs value ≤ MOST_VALUE) network.values
  pub prices : AllByRecursion (λ price. price ≤ MOST_PRICE) network.prices
  pub weights : AllByRecursion (λ weight. weight ≤ MOST_WEIGHT) network.weights
  pub ranged : (reading : ℕ) → reading < length network.values → HasRange network (suc reading)

-- Among the bounds there is one without a price, with these ends and this limit.
abbrev pub HasBound : List Priced → End → End → ℤ → Type 0
HasBound bounds first second limit =
    Any (λ priced. (priced.price ≡ 0) × (priced.bound.first ≡ first) × (priced.bound.second ≡ second) × (priced.bound.limit ≡ limit)) bounds

-- Two bounds without a price keep the value at the place within the greatest size of values.
abbrev pub IsRanged : List Priced → Place → Type 0
IsRanged bounds p = HasBound bounds Zero (At p) (pos MOST_VALUE) × HasBound bounds (At p) Zero (pos MOST_VALUE)
