-- The network of a problem, as it is made.
use Rattle.std.proofs.Common.{◌≡◌, ◌≢◌, ℕ, zero, suc, ◌+◌, ◌*◌, ◌^◌, ◌<◌, ◌≤◌, ℤ, pos, ◌-ℤ◌, List, [], ◌∷◌, ◌++◌, length, map, get_or, take, drop, replicate, refl, sym, ap, ◌∙◌, subst, arith, add-zero}
use Rattle.std.specs.Prelude.{unsigned_abs, count_by, if◌then◌else◌}
use Rattle.std.specs.List.{AllByRecursion, AllZip}
use Rattle.std.proofs.lemmas.Int.{ints}
use Rattle.std.proofs.lemmas.Bool.{cond-true, cond-false}
use Rattle.std.proofs.lemmas.List.{append_assoc, length-take-le, take_more, take_at, drop_at, length-map, length-replicate, get_or-replicate, get_or-map}
use Rattle.std.proofs.lemmas.List.Elements.{All-from_recursion}
use Rattle.std.proofs.lemmas.List.Sums.{sum_by-cons}
use Rattle.words.specs.Lists.{Distinct}
use Rattle.words.proofs.InnerProducts.{inner_product-zeroes}
use Rattle.screen_model.specs.declared.place.Place.{Place}
use Rattle.screen_model.specs.declared.place.End.{End}
use Rattle.screen_model.specs.declared.place.End.TheVariants.{Zero, At}
use Rattle.screen_model.specs.declared.bound.Bound.{Bound}
use Rattle.screen_model.specs.Series.{is_same_place}
use Rattle.screen_model.specs.Obeys.{Priced, HasEnds, with_prices}
use Rattle.screen_model.proofs.Places.{same_place, other_place}
use Rattle.screen_model.proofs.Prices.{keep}
use Rattle.bound_graph.specs.declared.arc.Arc.{Arc}
use Rattle.bound_graph.specs.Arcs.{IsArc, no_arc}
use Rattle.bound_graph.specs.Graph.{index_of, node_of, arc_of_bound, arcs_of_bounds}
use Rattle.bound_graph.proofs.Arcs.{arcs_of_bounds_valid}
use Rattle.screen_model.specs.declared.limits.TheConstants.{MOST_READINGS}
use Rattle.bound_graph.specs.Reverses.{with_reverses}
use Rattle.flow_core.specs.declared.limits.TheConstants.{MOST_BOUNDS, MOST_PRICE, MOST_WEIGHT, MOST_VALUE}
use Rattle.flow_core.specs.Layout.{FlowNetwork, IsLayout, HasUnpriced, HasBound, IsRanged, network_of, nodes_of, reading_arcs, arcs_of, capacities_of, unpriced_capacity}
use Rattle.flow_core.specs.State.{NetworkState, IsNetwork, IsWithin, is_flowing, new_state, unit_balance}
use Rattle.flow_core.specs.Stored.{IsStored, evens, bounds_in, values_in, network_in, state_in}
use Rattle.flow_core.proofs.Sizes.{length-capacities_of}

-- ---- the arcs of readings

readings-append : (node : ℕ) (values : List ℤ) (value : ℤ) → reading_arcs node (values ++ value ∷ []) ≡ reading_arcs node values ++ reading_arcs (node + length values) (value ∷ [])
readings-append node [] value = ap (λ n. reading_arcs n (value ∷ [])) (sym (add-zero node))
readings-append node (v ∷ values) value =
    let next : suc node + length values ≡ node + suc (length values) = omega arith in
    ap (λ (l : List Arc). record { tail = 0; head = node; cost = v } ∷ (record { tail = node; head = 0; cost = pos 0 -ℤ v } ∷ l))
    (readings-append (suc node) values value ∙ ap (λ n. reading_arcs (suc node) values ++ reading_arcs n (value ∷ [])) next)

-- the two arcs of one reading more
pub one_reading_more : (before : List Arc) (values : List ℤ) (i : ℕ) (table middle new : List Arc) (there back : Arc) → i < length values → table ≡ before ++ reading_arcs 1 (take i values)
    → middle ≡ table ++ there ∷ [] → new ≡ middle ++ back ∷ []
    → there ≡ record { tail = 0; head = i + 1; cost = get_or values i (pos 0) } → back ≡ record { tail = i + 1; head = 0; cost = pos 0 -ℤ get_or values i (pos 0) }
    → new ≡ before ++ reading_arcs 1 (take (i + 1) values)
one_reading_more before values i table middle new there back below so_far first second there_is back_is =
    let value = get_or values i (pos 0) in
    let arcs = reading_arcs 1 (take i values) in
    let node : 1 + length (take i values) ≡ i + 1 = omega (arith, length-take-le i values (omega arith)) in
    let both : reading_arcs (i + 1) (value ∷ []) ≡ there ∷ (back ∷ []) = λ j. sym there_is j ∷ (sym back_is j ∷ []) in
    let longer : reading_arcs 1 (take (i + 1) values) ≡ arcs ++ there ∷ (back ∷ []) =
    ap (reading_arcs 1) (take_more values i (pos 0) below) ∙ readings-append 1 (take i values) value ∙ ap (λ n. arcs ++ reading_arcs n (value ∷ [])) node ∙ ap (λ (l : List Arc). arcs ++ l) both in
    second ∙ ap (λ (l : List Arc). l ++ back ∷ []) (first ∙ ap (λ (l : List Arc). l ++ there ∷ []) so_far)
    ∙ append_assoc (before ++ arcs) (there ∷ []) (back ∷ [])
    ∙ append_assoc before arcs (there ∷ (back ∷ []))
    ∙ ap (λ (l : List Arc). before ++ l) (sym longer)

-- ---- a network out of its arcs with their reverses

evens-with_reverses : (arcs : List Arc) → evens (with_reverses arcs) ≡ arcs
evens-with_reverses [] = refl
evens-with_reverses (arc ∷ arcs) = ap (λ (rest : List Arc). arc ∷ rest) (evens-with_reverses arcs)

costs_of_readings : (node : ℕ) (values : List ℤ) → map (λ arc. arc.cost) (evens (reading_arcs node values)) ≡ values
costs_of_readings node [] = refl
costs_of_readings node (value ∷ values) = ap (λ (rest : List ℤ). value ∷ rest) (costs_of_readings (suc node) values)

bounds_in_all : (bounds : List Arc) (values : List ℤ) (count : ℕ) → length bounds ≡ count → bounds_in (with_reverses (bounds ++ reading_arcs 1 values)) count ≡ bounds
unfolding bounds_in
bounds_in_all bounds values count e = ap (take count) (evens-with_reverses (bounds ++ reading_arcs 1 values)) ∙ take_at bounds (reading_arcs 1 values) count e

values_in_all : (bounds : List Arc) (values : List ℤ) (count : ℕ) → length bounds ≡ count → values_in (with_reverses (bounds ++ reading_arcs 1 values)) count ≡ values
unfolding values_in
values_in_all bounds values count e =
    ap (λ (arcs : List Arc). map (λ arc. arc.cost) (evens (drop count arcs))) (evens-with_reverses (bounds ++ reading_arcs 1 values))
    ∙ ap (λ (arcs : List Arc). map (λ arc. arc.cost) (evens arcs)) (drop_at bounds (reading_arcs 1 values) count e)
    ∙ costs_of_readings 1 values

network_in_is : (network : FlowNetwork) → length network.bounds ≡ length network.prices → network_in (with_reverses (arcs_of network)) network.prices network.weights ≡ network
network_in_is network e =
    let bounds = bounds_in_all network.bounds network.values (length network.prices) e in
    let values = values_in_all network.bounds network.values (length network.prices) e in
    λ i. record { bounds = bounds i; prices = network.prices; values = values i; weights = network.weights }

-- ---- nothing flows

zeroes_within : (capacities : List ℕ) (count : ℕ) → length capacities ≡ count → AllZip IsWithin capacities (replicate count (pos 0))
zeroes_within [] zero e = tt
zeroes_within [] (suc count) e = absurd (omega arith)
zeroes_within (capacity ∷ capacities) zero e = absurd (omega arith)
zeroes_within (capacity ∷ capacities) (suc count) e = ((omega (arith, ints), omega (arith, ints)), zeroes_within capacities count (omega arith))

all_zero : (P : ℤ → Type 0) (count : ℕ) → P (pos 0) → AllByRecursion P (replicate count (pos 0))
all_zero P zero here = tt
all_zero P (suc count) here = (here, all_zero P count here)

none_flowing : (count : ℕ) → count_by is_flowing (replicate count (pos 0)) ≤ 0
none_flowing zero = omega arith
none_flowing (suc count) = omega (arith, sum_by-cons (λ flow. if is_flowing flow then 1 else 0) (pos 0) (replicate count (pos 0)), none_flowing count)

pub network_new : (network : FlowNetwork) → IsLayout network → IsNetwork (new_state network)
network_new network is =
    let arcs = arcs_of network in
    let nodes = nodes_of network in
    let some : 0 < nodes = omega arith in
    record {
      layout = is;
      flows = zeroes_within (capacities_of network) (length arcs) (length-capacities_of network is);
      excess_each = length-replicate nodes (pos 0);
      excesses = λ node inside. get_or-replicate nodes node (pos 0) (pos 0) inside ∙ sym (inner_product-zeroes (length arcs) (map (unit_balance node) arcs));
      potential_each = length-replicate nodes (pos 0);
      potentials = all_zero (λ p. unsigned_abs p ≤ MOST_VALUE) nodes (omega arith);
      potential_zero = get_or-replicate nodes 0 (pos 0) (pos 0) some;
      changes = none_flowing (length arcs);
    }

-- ---- the network of a problem

-- the network of arcs, as the problem's lists give it
abbrev pub network_by : List Place → List Bound → List ℕ → List ℤ → List ℕ → FlowNetwork
network_by places bounds prices values weights = record { bounds = arcs_of_bounds places bounds; prices = prices; values = values; weights = weights }

pub network_of_problem : (places : List Place) (bounds : List Bound) (prices : List ℕ) (values : List ℤ) (weights : List ℕ) → length prices ≡ length bounds
    → network_by places bounds prices values weights ≡ network_of (record { places = places; values = values; weights = weights; bounds = with_prices bounds prices })
network_of_problem places bounds prices values weights long =
    let kept = keep bounds prices in
    let same : bounds ≡ map (λ priced. priced.bound) (with_prices bounds prices) = sym kept.0 in
    let priced : prices ≡ map (λ priced. priced.price) (with_prices bounds prices) = sym (kept.1.1 long) in
    λ i. record { bounds = arcs_of_bounds places (same i); prices = priced i; values = values; weights = weights }

pub index_of_place : (places : List Place) (k : ℕ) (d : Place) → Distinct places → k < length places → index_of places (get_or places k d) ≡ k
index_of_place [] k d distinct lt = absurd (omega arith)
index_of_place (q ∷ places) zero d distinct lt = cond-true (is_same_place q q) 0 (suc (index_of places q)) (same_place q)
index_of_place (q ∷ places) (suc k) d distinct lt =
    let p = get_or places k d in
    let other : q ≢ p = All-from_recursion (λ y. q ≢ y) places distinct.0 k d (omega arith) in
    cond-false (is_same_place p q) 0 (suc (index_of places p)) (other_place p q (λ h. other (sym h))) ∙ ap suc (index_of_place places k d distinct.1 (omega arith))

record StandsAt (bounds : List Bound) (prices : List ℕ) (k : ℕ) (priced : Priced) : Type 0 where
  below : k < length bounds
  bound : get_or bounds k priced.bound ≡ priced.bound
  price : get_or prices k 1 ≡ priced.price

stands_at : (bounds : List Bound) (prices : List ℕ) (k : ℕ) (priced : Priced) → length prices ≡ length bounds → k < length (with_prices bounds prices) → get_or (with_prices bounds prices) k priced ≡ priced → StandsAt bounds prices k priced
stands_at [] prices k priced long lt e = absurd (omega arith)
stands_at (bound ∷ bounds) [] k priced long lt e = absurd (omega arith)
stands_at (bound ∷ bounds) (price ∷ prices) zero priced long lt e = record { below = omega arith; bound = ap (λ (p : Priced). p.bound) e; price = ap (λ (p : Priced). p.price) e }
stands_at (bound ∷ bounds) (price ∷ prices) (suc k) priced long lt e =
    let rest = stands_at bounds prices k priced (omega arith) (omega arith) e in
    record { below = omega (arith, rest.below); bound = rest.bound; price = rest.price }

has_unpriced : (places : List Place) (bounds : List Bound) (prices : List ℕ) (values : List ℤ) (weights : List ℕ) (first second : End) (limit : ℤ) (tail head : ℕ) → length prices ≡ length bounds
    → node_of places first ≡ tail → node_of places second ≡ head → HasBound (with_prices bounds prices) first second limit
    → HasUnpriced (network_by places bounds prices values weights) (record { tail = tail; head = head; cost = limit })
has_unpriced places bounds prices values weights first second limit tail head long out into has =
    let priced = has.1 in
    let at = stands_at bounds prices has.0 priced long has.2 has.3 in
    let is = has.4 in
    let leaves : node_of places priced.bound.first ≡ tail = ap (node_of places) is.1 ∙ out in
    let enters : node_of places priced.bound.second ≡ head = ap (node_of places) is.2 ∙ into in
    let costs : priced.bound.limit ≡ limit = is.3 in
    let arc : arc_of_bound places priced.bound ≡ record { tail = tail; head = head; cost = limit } = λ i. record { tail = leaves i; head = enters i; cost = costs i } in (
      has.0,
      omega (arith, at.below, length-map bounds (arc_of_bound places)),
      get_or-map (arc_of_bound places) bounds has.0 priced.bound no_arc at.below ∙ ap (arc_of_bound places) at.bound ∙ arc,
      at.price ∙ is.0,
    )

no_place : Place
no_place = record { row = 0; col = 0 }

pub layout_of : (places : List Place) (bounds : List Bound) (prices : List ℕ) (values : List ℤ) (weights : List ℕ)
    → Distinct places → length values ≡ length places → length weights ≡ length places → length prices ≡ length bounds
    → length places ≤ MOST_READINGS → length bounds ≤ MOST_BOUNDS
    → AllByRecursion (HasEnds places) bounds → AllByRecursion (IsRanged (with_prices bounds prices)) places
    → AllByRecursion (λ value. unsigned_abs value ≤ MOST_VALUE) values → AllByRecursion (λ weight. weight ≤ MOST_WEIGHT) weights → AllByRecursion (λ price. price ≤ MOST_PRICE) prices
    → AllByRecursion (λ bound. unsigned_abs bound.limit ≤ 4 * 10 ^ 15) bounds
    → IsLayout (network_by places bounds prices values weights)
layout_of places bounds prices values weights distinct valued weighted priced few_readings few_bounds ends ranged small_values small_weights small_prices limits =
    let long = length-map bounds (arc_of_bound places) in
    let nodes : length places + 1 ≡ length values + 1 = omega arith in
    record {
      few_bounds = omega (arith, long);
      few_readings = omega arith;
      priced = omega (arith, long);
      weighted = omega arith;
      arcs = subst (λ (n : ℕ). AllByRecursion (IsArc n) (arcs_of_bounds places bounds)) nodes (arcs_of_bounds_valid places bounds ends limits);
      values = small_values;
      prices = small_prices;
      weights = small_weights;
      ranged = λ reading below.
          let inside : reading < length places = omega arith in
          let has = All-from_recursion (IsRanged (with_prices bounds prices)) places ranged reading no_place inside in
          let node : suc (index_of places (get_or places reading no_place)) ≡ suc reading = ap suc (index_of_place places reading no_place distinct inside) in
          record {
            up = has_unpriced places bounds prices values weights Zero (At (get_or places reading no_place)) (pos MOST_VALUE) 0 (suc reading) priced refl node has.0;
            down = has_unpriced places bounds prices values weights (At (get_or places reading no_place)) Zero (pos MOST_VALUE) (suc reading) 0 priced node refl has.1;
          };
    }

-- ---- what was made

-- what the vectors of a network hold where nothing flows yet
pub record IsMade (network : FlowNetwork) (arcs : List Arc) (nodes : ℕ) (prices weights : List ℕ) (flows excesses potentials : List ℤ) : Type 0 where
  pub layout : IsLayout network
  pub arcs_are : arcs ≡ with_reverses (arcs_of network)
  pub nodes_are : nodes ≡ nodes_of network
  pub prices_are : prices ≡ network.prices
  pub weights_are : weights ≡ network.weights
  pub flows_are : flows ≡ replicate (length (arcs_of network)) (pos 0)
  pub excesses_are : excesses ≡ replicate (nodes_of network) (pos 0)
  pub potentials_are : potentials ≡ replicate (nodes_of network) (pos 0)

pub made_state : (network : FlowNetwork) (arcs : List Arc) (nodes : ℕ) (prices weights : List ℕ) (flows excesses potentials : List ℤ) → IsMade network arcs nodes prices weights flows excesses potentials
    → state_in arcs prices weights flows excesses potentials 0 ≡ new_state network
made_state network arcs nodes prices weights flows excesses potentials made =
    let stored = network_in_is network (sym made.layout.priced) in
    let network_is : network_in arcs prices weights ≡ network = (λ i. network_in (made.arcs_are i) (made.prices_are i) (made.weights_are i)) ∙ stored in
    λ i. record { network = network_is i; flows = made.flows_are i; excesses = made.excesses_are i; potentials = made.potentials_are i; changes = 0 }

pub made_stored : (network : FlowNetwork) (arcs : List Arc) (nodes : ℕ) (prices weights : List ℕ) (flows excesses potentials : List ℤ) (capacity : ℤ) → IsMade network arcs nodes prices weights flows excesses potentials → capacity ≡ pos (unpriced_capacity network)
    → IsStored (record { nodes = nodes; arcs = arcs }) capacity (state_in arcs prices weights flows excesses potentials 0)
made_stored network arcs nodes prices weights flows excesses potentials capacity made capacity_is =
    let stored : IsStored (record { nodes = nodes; arcs = arcs }) capacity (new_state network) = record { nodes = made.nodes_are; arcs = made.arcs_are; unpriced = capacity_is; network = network_new network made.layout } in
    subst (λ (net : NetworkState). IsStored (record { nodes = nodes; arcs = arcs }) capacity net) (sym (made_state network arcs nodes prices weights flows excesses potentials made)) stored
