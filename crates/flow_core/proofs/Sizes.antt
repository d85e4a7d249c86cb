-- How many arcs a network has, how great its capacities are, and how great the sums of its flows can be.
use Rattle.std.proofs.Common.{◌≡◌, ℕ, zero, suc, ◌+◌, ◌-◌, ◌*◌, ◌/◌, ◌^◌, ◌<◌, ◌≤◌, Bool, true, false, eqb, ℤ, pos, ◌+ℤ◌, ◌-ℤ◌, ◌*ℤ◌, List, [], ◌∷◌, length, map, sum, get_or, take, Some, None, refl, sym, ap, ◌∙◌, subst, ⊎_elim, arith}
use Rattle.std.specs.Prelude.{unsigned_abs, slice_get}
use Rattle.std.specs.List.{AllByRecursion}
use Rattle.std.proofs.lemmas.Int.{ints}
use Rattle.std.proofs.lemmas.Bool.{cond_both, cases_lt}
use Rattle.std.proofs.lemmas.List.{length-append, length-map, length-take, get_or_append_left, get_or-append_right, get_or-map}
use Rattle.std.proofs.lemmas.List.Elements.{All-from_recursion}
use Rattle.std.proofs.lemmas.Option.{slice_get-get_or, slice_get_within, get_or_from_slice_get}
use Rattle.std.proofs.lemmas.List.Sums.{sum_by-le}
use Rattle.words.specs.Lists.{inner_product}
use Rattle.words.proofs.Lists.{all_append, all_map, all_weaker, all_zip_long}
use Rattle.words.proofs.Products.{size_of_product, size_of_minus, size_within, within_size}
use Rattle.bound_graph.specs.declared.arc.Arc.{Arc}
use Rattle.bound_graph.specs.Arcs.{IsArc, no_arc}
use Rattle.bound_graph.specs.Values.{value_of}
use Rattle.flow_core.specs.declared.limits.TheConstants.{MOST_VALUE}
use Rattle.flow_core.specs.Layout.{FlowNetwork, IsLayout, nodes_of, reading_arcs, arcs_of, arc_numbered, twice, unpriced_capacity, capacity_at_price, capacities_of, capacity_numbered}
use Rattle.flow_core.specs.State.{NetworkState, IsNetwork, IsWithin, one_if, unit_balance, flow_on}
use Rattle.flow_core.proofs.Elements.{zip_at, zip_right, length-twice, all_twice, twice_at}

-- ---- lengths

pub length-reading_arcs : (node : ℕ) (values : List ℤ) → length (reading_arcs node values) ≡ 2 * length values
length-reading_arcs node [] = refl
length-reading_arcs node (value ∷ values) = omega (arith, length-reading_arcs (suc node) values)

pub length-arcs_of : (network : FlowNetwork) → length (arcs_of network) ≡ length network.bounds + 2 * length network.values
length-arcs_of network = omega (arith, length-append network.bounds (reading_arcs 1 network.values), length-reading_arcs 1 network.values)

pub arcs_counted : (network : FlowNetwork) → IsLayout network → length (arcs_of network) ≡ length network.prices + 2 * length network.weights
arcs_counted network is = omega (arith, length-arcs_of network, is.priced, is.weighted)

pub length-capacities_of : (network : FlowNetwork) → IsLayout network → length (capacities_of network) ≡ length (arcs_of network)
length-capacities_of network is =
    let priced = map (capacity_at_price (unpriced_capacity network)) network.prices in
    omega (
      arith,
      length-arcs_of network,
      length-append priced (twice network.weights),
      length-map network.prices (capacity_at_price (unpriced_capacity network)),
      length-twice network.weights,
      is.priced,
      is.weighted,
    )

pub few_arcs : (network : FlowNetwork) → IsLayout network → length (arcs_of network) ≤ 4800000
few_arcs network is = omega (arith, length-arcs_of network, is.few_bounds, is.few_readings)

-- ---- valid arcs

readings_valid : (nodes node : ℕ) (values : List ℤ) → 0 < nodes → node + length values ≤ nodes → AllByRecursion (λ value. unsigned_abs value ≤ MOST_VALUE) values → AllByRecursion (IsArc nodes) (reading_arcs node values)
readings_valid nodes node [] some few small = tt
readings_valid nodes node (value ∷ values) some few small = (
  record { tail = some; head = omega arith; cost = omega (arith, small.0) },
  (record { tail = omega arith; head = some; cost = omega (arith, small.0, size_of_minus value) }, readings_valid nodes (suc node) values some (omega arith) small.1),
)

pub arcs_valid : (network : FlowNetwork) → IsLayout network → AllByRecursion (IsArc (nodes_of network)) (arcs_of network)
arcs_valid network is =
    all_append (IsArc (nodes_of network)) network.bounds (reading_arcs 1 network.values) is.arcs
    (readings_valid (nodes_of network) 1 network.values (omega arith) (omega arith) is.values)

pub arc_valid : (network : FlowNetwork) (arc : ℕ) → IsLayout network → arc < length (arcs_of network) → IsArc (nodes_of network) (arc_numbered network arc)
arc_valid network arc is below = All-from_recursion (IsArc (nodes_of network)) (arcs_of network) (arcs_valid network is) arc no_arc below

-- ---- capacities

pub weights_small : (network : FlowNetwork) → IsLayout network → sum network.weights ≤ 400000000
weights_small network is =
    omega (arith, sum_by-le (λ x. x) 1000 network.weights (All-from_recursion (λ weight. weight ≤ 1000) network.weights is.weights), is.weighted, is.few_readings)

pub prices_small : (network : FlowNetwork) → IsLayout network → sum network.prices ≤ 4000000000
prices_small network is =
    omega (arith, sum_by-le (λ x. x) 1000 network.prices (All-from_recursion (λ price. price ≤ 1000) network.prices is.prices), is.priced, is.few_bounds)

pub unpriced_small : (network : FlowNetwork) → IsLayout network → unpriced_capacity network ≤ 4400000001
unpriced_small network is = omega (arith, weights_small network is, prices_small network is)

abbrev pub IsSmall : ℕ → Type 0
IsSmall capacity = capacity ≤ 5000000000

at_price_small : (unpriced price : ℕ) → unpriced ≤ 4400000001 → price ≤ 1000 → IsSmall (capacity_at_price unpriced price)
at_price_small unpriced price most few = cond_both (eqb price 0) unpriced price IsSmall (λ free. omega arith) (λ some. omega arith)

pub capacities_small : (network : FlowNetwork) → IsLayout network → AllByRecursion IsSmall (capacities_of network)
capacities_small network is =
    let most = unpriced_capacity network in
    all_append IsSmall (map (capacity_at_price most) network.prices) (twice network.weights)
    (all_map IsSmall (capacity_at_price most) network.prices
    (all_weaker (λ price. price ≤ 1000) (λ price. IsSmall (capacity_at_price most price)) (λ price few. at_price_small most price (unpriced_small network is) few) network.prices is.prices))
    (all_twice IsSmall network.weights (all_weaker (λ weight. weight ≤ 1000) IsSmall (λ weight few. omega arith) network.weights is.weights))

pub capacity_small : (network : FlowNetwork) (arc : ℕ) → IsLayout network → arc < length (arcs_of network) → IsSmall (capacity_numbered network arc)
capacity_small network arc is below = All-from_recursion IsSmall (capacities_of network) (capacities_small network is) arc 0 (omega (arith, length-capacities_of network is))

pub capacity_of_bound : (network : FlowNetwork) (arc : ℕ) → arc < length network.prices → capacity_numbered network arc ≡ capacity_at_price (unpriced_capacity network) (get_or network.prices arc 1)
capacity_of_bound network arc below =
    let at = capacity_at_price (unpriced_capacity network) in
    get_or_append_left (map at network.prices) (twice network.weights) 0 arc (omega (arith, length-map network.prices at))
    ∙ get_or-map at network.prices arc 1 0 below

-- by the price that is found of a bound
pub capacity_at : (network : FlowNetwork) (arc price : ℕ) → slice_get network.prices arc ≡ Some price → capacity_numbered network arc ≡ capacity_at_price (unpriced_capacity network) price
capacity_at network arc price found =
    capacity_of_bound network arc (slice_get_within network.prices arc price found)
    ∙ ap (capacity_at_price (unpriced_capacity network)) (get_or_from_slice_get network.prices arc price 1 found)

-- where no price is found, the arc is that of a reading
pub none_is_past : (prices : List ℕ) (arc : ℕ) → slice_get prices arc ≡ None → length prices ≤ arc
none_is_past prices arc none = ⊎_elim
    (λ (below : arc < length prices). let some = slice_get-get_or prices arc 0 below in absurd cc)
    (λ (past : length prices ≤ arc). past)
    (cases_lt arc (length prices))

pub capacity_of_reading : (network : FlowNetwork) (arc : ℕ) → length network.prices ≤ arc → capacity_numbered network arc ≡ get_or network.weights ((arc - length network.prices) / 2) 0
capacity_of_reading network arc after =
    let at = capacity_at_price (unpriced_capacity network) in
    get_or-append_right (map at network.prices) (twice network.weights) (length network.prices) arc 0 (length-map network.prices at) after
    ∙ twice_at network.weights (arc - length network.prices) 0

pub reading_capacity : (network : FlowNetwork) (arc : ℕ) → IsLayout network → length network.prices ≤ arc → capacity_numbered network arc ≡ get_or network.weights ((arc - length network.prices) / 2) 0
reading_capacity network arc is after = capacity_of_reading network arc after

-- ---- flows

pub flow_within : (net : NetworkState) (arc : ℕ) → IsNetwork net → arc < length (arcs_of net.network) → IsWithin (capacity_numbered net.network arc) (flow_on net arc)
flow_within net arc is below = zip_at IsWithin (capacities_of net.network) net.flows arc 0 (pos 0) is.flows (omega (arith, length-capacities_of net.network is.layout))

within_small : (capacity : ℕ) (flow : ℤ) → IsSmall capacity → IsWithin capacity flow → unsigned_abs flow ≤ 5000000000
within_small capacity flow small within = size_within flow 5000000000 (omega (arith, ints, within.0)) (omega (arith, ints, within.1))

pub flow_small : (net : NetworkState) (arc : ℕ) → IsNetwork net → arc < length (arcs_of net.network) → unsigned_abs (flow_on net arc) ≤ 5000000000
flow_small net arc is below = within_small (capacity_numbered net.network arc) (flow_on net arc) (capacity_small net.network arc is.layout below) (flow_within net arc is below)

pub flows_small : (net : NetworkState) → IsNetwork net → AllByRecursion (λ flow. unsigned_abs flow ≤ 5000000000) net.flows
flows_small net is = zip_right IsWithin IsSmall (λ flow. unsigned_abs flow ≤ 5000000000) within_small (capacities_of net.network) net.flows is.flows (capacities_small net.network is.layout)

pub length-flows : (net : NetworkState) → IsNetwork net → length net.flows ≡ length (arcs_of net.network)
length-flows net is = all_zip_long IsWithin (capacities_of net.network) net.flows is.flows ∙ length-capacities_of net.network is.layout

-- ---- sums of products

size_of_sum : (a b : ℤ) → unsigned_abs (a +ℤ b) ≤ unsigned_abs a + unsigned_abs b
size_of_sum a b =
    let p = within_size a (unsigned_abs a) (omega arith) in
    let q = within_size b (unsigned_abs b) (omega arith) in
    size_within (a +ℤ b) (unsigned_abs a + unsigned_abs b) (omega (arith, ints, p.0, q.0)) (omega (arith, ints, p.1, q.1))

pub size_of_inner_product : (xs ys : List ℤ) (m n : ℕ) → AllByRecursion (λ x. unsigned_abs x ≤ m) xs → AllByRecursion (λ y. unsigned_abs y ≤ n) ys → unsigned_abs (inner_product xs ys) ≤ length xs * (m * n)
size_of_inner_product [] ys m n small low = omega arith
size_of_inner_product (x ∷ xs) [] m n small low = omega arith
size_of_inner_product (x ∷ xs) (y ∷ ys) m n small low =
    let here = size_of_product x y m n small.0 low.0 in
    let rest = size_of_inner_product xs ys m n small.1 low.1 in
    let both = size_of_sum (x *ℤ y) (inner_product xs ys) in
    omega (arith, here, rest, both)

unit_small : (a b : Bool) → unsigned_abs (one_if a -ℤ one_if b) ≤ 1
unit_small true true = omega arith
unit_small true false = omega arith
unit_small false true = omega arith
unit_small false false = omega arith

units_small : (node : ℕ) (arcs : List Arc) → AllByRecursion (λ y. unsigned_abs y ≤ 1) (map (unit_balance node) arcs)
units_small node [] = tt
units_small node (arc ∷ arcs) = (unit_small (eqb arc.head node) (eqb arc.tail node), units_small node arcs)

pub excess_small : (net : NetworkState) (node : ℕ) → IsNetwork net → node < nodes_of net.network → unsigned_abs (value_of net.excesses node) ≤ 24000000000000000
excess_small net node is below =
    let arcs = arcs_of net.network in
    let most = size_of_inner_product net.flows (map (unit_balance node) arcs) 5000000000 1 (flows_small net is) (units_small node arcs) in
    let few = few_arcs net.network is.layout in
    let long = length-flows net is in
    subst (λ (z : ℤ). unsigned_abs z ≤ 24000000000000000) (sym (is.excesses node below)) (omega (arith, most, few, long))

pub residual_small : (net : NetworkState) (arc : ℕ) → IsNetwork net → arc < length (arcs_of net.network) → unsigned_abs (pos (capacity_numbered net.network arc) -ℤ flow_on net arc) ≤ 5000000000
residual_small net arc is below =
    let within = flow_within net arc is below in
    let few = capacity_small net.network arc is.layout below in
    size_within (pos (capacity_numbered net.network arc) -ℤ flow_on net arc) 5000000000 (omega (arith, ints, within.1)) (omega (arith, ints, within.0, few))

-- ---- the sum of cost times flow

pub inner_product-take_more : (xs ys : List ℤ) (k : ℕ) → k < length xs → k < length ys → inner_product (take (k + 1) xs) ys ≡ inner_product (take k xs) ys +ℤ (get_or xs k (pos 0) *ℤ get_or ys k (pos 0))
inner_product-take_more [] ys k below long = absurd (omega arith)
inner_product-take_more (x ∷ xs) [] k below long = absurd (omega arith)
inner_product-take_more (x ∷ xs) (y ∷ ys) zero below long = omega (arith, ints)
inner_product-take_more (x ∷ xs) (y ∷ ys) (suc k) below long =
    let more : suc k + 1 ≡ suc (k + 1) = omega arith in
    ap (λ n. inner_product (take n (x ∷ xs)) (y ∷ ys)) more ∙ omega (arith, ints, inner_product-take_more xs ys k (omega arith) (omega arith))

all_take : {A : Type 0} (P : A → Type 0) (k : ℕ) (xs : List A) → AllByRecursion P xs → AllByRecursion P (take k xs)
all_take P zero xs all = tt
all_take P (suc k) [] all = tt
all_take P (suc k) (x ∷ xs) all = (all.0, all_take P k xs all.1)

abbrev pub costs_of : FlowNetwork → List ℤ
costs_of network = map (λ arc. arc.cost) (arcs_of network)

pub costs_so_far_small : (net : NetworkState) (k : ℕ) → IsNetwork net → unsigned_abs (inner_product (take k net.flows) (costs_of net.network)) ≤ 10 ^ 32
costs_so_far_small net k is =
    let costs = all_map (λ cost. unsigned_abs cost ≤ 4 * 10 ^ 15) (λ (arc : Arc). arc.cost) (arcs_of net.network)
    (all_weaker (IsArc (nodes_of net.network)) (λ (arc : Arc). unsigned_abs arc.cost ≤ 4 * 10 ^ 15) (λ arc valid. valid.cost) (arcs_of net.network) (arcs_valid net.network is.layout)) in
    let most = size_of_inner_product (take k net.flows) (costs_of net.network) 5000000000 (4 * 10 ^ 15) (all_take (λ flow. unsigned_abs flow ≤ 5000000000) k net.flows (flows_small net is)) costs in
    let few = few_arcs net.network is.layout in
    let long = length-flows net is in
    omega (arith, most, few, long, length-take k net.flows)

-- one arc more
pub cost_of_one_more : (net : NetworkState) (k : ℕ) (flow cost : ℤ) → IsNetwork net → k < length net.flows → flow ≡ flow_on net k → cost ≡ (arc_numbered net.network k).cost
    → (pos 0 -ℤ inner_product (take k net.flows) (costs_of net.network)) -ℤ (flow *ℤ cost) ≡ pos 0 -ℤ inner_product (take (k + 1) net.flows) (costs_of net.network)
cost_of_one_more net k flow cost is below flow_is cost_is =
    let arcs = arcs_of net.network in
    let long = length-flows net is in
    let inside : k < length arcs = omega arith in
    let more = inner_product-take_more net.flows (costs_of net.network) k below (omega (arith, length-map arcs (λ (arc : Arc). arc.cost))) in
    let at : get_or (costs_of net.network) k (pos 0) ≡ (arc_numbered net.network k).cost = get_or-map (λ (arc : Arc). arc.cost) arcs k no_arc (pos 0) inside in
    let product : flow *ℤ cost ≡ get_or net.flows k (pos 0) *ℤ get_or (costs_of net.network) k (pos 0) = λ i. flow_is i *ℤ ((cost_is ∙ sym at) i) in
    omega (arith, ints, more, product)
