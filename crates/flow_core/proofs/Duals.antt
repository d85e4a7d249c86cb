-- The flows on the bounds of a network without excesses are admissible, and their dual value is the network's value.
use Rattle.std.proofs.Common.{◌≡◌, ℕ, zero, suc, ◌+◌, ◌*◌, ◌/◌, ◌<◌, ◌≤◌, Bool, true, false, eqb, ℤ, pos, ◌+ℤ◌, ◌-ℤ◌, ◌*ℤ◌, ◌≤ℤ◌, List, [], ◌∷◌, length, map, get_or, take, drop, Some, refl, sym, ap, ◌∙◌, subst, arith}
use Rattle.std.specs.Prelude.{unsigned_abs, Contains, slice_get}
use Rattle.std.specs.List.{AllByRecursion, AllZip}
use Rattle.std.proofs.lemmas.Int.{ints}
use Rattle.std.proofs.lemmas.Bool.{eq-eqb, ne_eqb, cond-false}
use Rattle.std.proofs.lemmas.List.{length-map, length-drop, get_or-map, map-append, get_or_default, ext_get_or}
use Rattle.std.proofs.Math.IntN.{*ℤ-zero}
use Rattle.words.specs.Lists.{Distinct, inner_product}
use Rattle.words.proofs.Products.{mul_minus}
use Rattle.screen_model.specs.declared.place.Place.{Place}
use Rattle.screen_model.specs.declared.place.End.{End}
use Rattle.screen_model.specs.declared.place.End.TheVariants.{Zero, At}
use Rattle.screen_model.specs.Series.{is_same_place, IsEnd}
use Rattle.screen_model.specs.Obeys.{Priced, HasEnds}
use Rattle.screen_model.specs.Cost.{Problem, IsProblem}
use Rattle.screen_model.specs.Flow.{one_at, unit_pull, pull, CanCarry, IsAdmissible, dual_value}
use Rattle.screen_model.proofs.Places.{same_place, place_from_same}
use Rattle.bound_graph.specs.declared.arc.Arc.{Arc}
use Rattle.bound_graph.specs.Graph.{index_of, node_of, arc_of_bound, arcs_of_bounds}
use Rattle.bound_graph.specs.Values.{value_of}
use Rattle.bound_graph.proofs.Nodes.{place_at_index, index_of_contained}
use Rattle.flow_core.specs.Layout.{FlowNetwork, network_of, nodes_of, reading_arcs, arcs_of, twice, unpriced_capacity, capacity_at_price, capacities_of}
use Rattle.flow_core.specs.State.{NetworkState, IsWithin, one_if, unit_balance, balance}
use Rattle.flow_core.specs.Laws.{IsNetworkOf, PullIsBalance, IsBalancedAtReadings, BalancedIsAdmissible}
use Rattle.flow_core.proofs.Building.{index_of_place}
use Rattle.flow_core.proofs.Sizes.{length-arcs_of, length-flows}
use Rattle.flow_core.proofs.Elements.{twice_at, zip_at, length-twice}
use Rattle.flow_core.proofs.Readings.{inner_product-append, zip_split, zip_by_place, inflow, length-inflow, inflow_at, balance_of_reading, cost_of_inflow, inflow_within}

-- ---- a pull is a balance

record StandsIn {A : Type 0} (xs : List A) (k : ℕ) (x : A) : Type 0 where
  below : k < length xs
  is : (d : A) → get_or xs k d ≡ x

stands_in : {A : Type 0} (xs : List A) (k : ℕ) (x : A) → slice_get xs k ≡ Some x → StandsIn xs k x
stands_in [] k x there = absurd cc
stands_in (y ∷ xs) zero x there = let same : y ≡ x = cc in record { below = omega arith; is = λ d. same }
stands_in (y ∷ xs) (suc k) x there = let rest = stands_in xs k x there in record { below = omega (arith, rest.below); is = rest.is }

one_by_test : (places : List Place) (p q : Place) (r : ℕ) (same : Bool) → is_same_place p q ≡ same → Distinct places → StandsIn places r p → Contains places q
    → same ≡ eqb (suc (index_of places q)) (suc r)
one_by_test places p q r true e distinct at contained =
    let index : index_of places q ≡ r = ap (index_of places) (sym (place_from_same p q e)) ∙ ap (index_of places) (sym (at.is p)) ∙ index_of_place places r p distinct at.below in
    sym (eq-eqb (suc (index_of places q)) (suc r) (ap suc index))
one_by_test places p q r false e distinct at contained =
    sym (ne_eqb (suc (index_of places q)) (suc r) (λ same.
    let index : index_of places q ≡ r = omega arith in
    let found : p ≡ q = sym (at.is p) ∙ ap (λ k. get_or places k p) (sym index) ∙ place_at_index places q p (index_of_contained places q contained) in
    let again : is_same_place p q ≡ true = ap (λ k. is_same_place p k) (sym found) ∙ same_place p in
    absurd cc))

one_is : (places : List Place) (p : Place) (end : End) (r : ℕ) → Distinct places → StandsIn places r p → IsEnd places end → one_at p end ≡ one_if (eqb (node_of places end) (suc r))
one_is places p Zero r distinct at ok = let apart : eqb 0 (suc r) ≡ false = ne_eqb 0 (suc r) (λ e. omega arith) in sym (ap one_if apart)
one_is places p (At q) r distinct at ok = ap one_if (one_by_test places p q r (is_same_place p q) refl distinct at ok)

pull_by_arcs : (places : List Place) (p : Place) (r : ℕ) → Distinct places → StandsIn places r p → (bounds : List Priced) (flow : List ℤ) → AllByRecursion (λ priced. HasEnds places priced.bound) bounds
    → pull bounds flow p ≡ pos 0 -ℤ balance (arcs_of_bounds places (map (λ priced. priced.bound) bounds)) flow (suc r)
pull_by_arcs places p r distinct at [] [] ends = omega (arith, ints)
pull_by_arcs places p r distinct at [] (amount ∷ flow) ends = omega (arith, ints)
pull_by_arcs places p r distinct at (priced ∷ bounds) [] ends = omega (arith, ints)
pull_by_arcs places p r distinct at (priced ∷ bounds) (amount ∷ flow) ends =
    let bound = priced.bound in
    let first = one_is places p bound.first r distinct at ends.0.0 in
    let second = one_is places p bound.second r distinct at ends.0.1 in
    let unit = unit_balance (suc r) (arc_of_bound places bound) in
    let here : unit_pull p bound ≡ pos 0 -ℤ unit = omega (arith, ints, first, second) in
    omega (arith, ints, ap (λ u. amount *ℤ u) here, mul_minus amount (pos 0) unit, *ℤ-zero amount, pull_by_arcs places p r distinct at bounds flow ends.1)

pub pulled : PullIsBalance
pulled problem flow reading p distinct ends there = pull_by_arcs problem.places p reading distinct (stands_in problem.places reading p there) problem.bounds flow ends

-- ---- a network without excesses

pub no_place : Place
no_place = record { row = 0; col = 0 }

-- the flows on the arcs of the readings
abbrev pub reading_flows : FlowNetwork → List ℤ → List ℤ
reading_flows network flows = drop (length network.bounds) flows

-- how the flows on the bounds pull at the readings is what flows to them
pub pulls_are : (problem : Problem) (flows excesses : List ℤ) → IsProblem problem → AllByRecursion (λ priced. HasEnds problem.places priced.bound) problem.bounds
    → length flows ≡ length (arcs_of (network_of problem))
    → ((reading : ℕ) → reading < length problem.values → value_of excesses (suc reading) ≡ balance (arcs_of (network_of problem)) flows (suc reading))
    → ((reading : ℕ) → reading < length problem.values → value_of excesses (suc reading) ≡ pos 0)
    → map (pull problem.bounds (take (length (network_of problem).bounds) flows)) problem.places ≡ inflow (reading_flows (network_of problem) flows)
pulls_are problem flows excesses sound ends long excess none =
    let network = network_of problem in
    let bounds = network.bounds in
    let amounts = take (length bounds) flows in
    let rest = reading_flows network flows in
    let count : length rest ≡ 2 * length problem.values = omega (arith, length-drop (length bounds) flows, length-arcs_of network) in
    let readings = length-map problem.places (pull problem.bounds amounts) in
    let valued = sound.valued in
    ext_get_or (pos 0) (map (pull problem.bounds amounts) problem.places) (inflow rest) (omega (arith, readings, length-inflow rest (length problem.values) count)) (λ r below.
    let inside : r < length problem.places = omega (arith, readings) in
    let one : r < length problem.values = omega arith in
    let at : StandsIn problem.places r (get_or problem.places r no_place) = record { below = inside; is = λ d. get_or_default problem.places r d no_place inside } in
    let pulled_here = pull_by_arcs problem.places (get_or problem.places r no_place) r sound.distinct at problem.bounds amounts ends in
    let units : List Arc → List ℤ = map (unit_balance (suc r)) in
    let parts : balance (arcs_of network) flows (suc r) ≡ balance bounds amounts (suc r) +ℤ balance (reading_arcs 1 problem.values) rest (suc r) =
    ap (inner_product flows) (map-append (unit_balance (suc r)) bounds (reading_arcs 1 problem.values))
    ∙ inner_product-append flows (units bounds) (units (reading_arcs 1 problem.values))
    ∙ (λ i. inner_product (take (length-map bounds (unit_balance (suc r)) i) flows) (units bounds) +ℤ inner_product (drop (length-map bounds (unit_balance (suc r)) i) flows) (units (reading_arcs 1 problem.values))) in
    let into = balance_of_reading 1 problem.values rest r (omega arith) count one in
    let same : 1 + r ≡ suc r = omega arith in
    let in_here : balance (reading_arcs 1 problem.values) rest (suc r) ≡ get_or (inflow rest) r (pos 0) = ap (λ n. balance (reading_arcs 1 problem.values) rest n) (sym same) ∙ into in
    get_or-map (pull problem.bounds amounts) problem.places r no_place (pos 0) inside
    ∙ omega (arith, ints, pulled_here, parts, in_here, excess r one, none r one))

carried : (unpriced : ℕ) (bounds : List Priced) (flow : List ℤ) → AllZip IsWithin (map (capacity_at_price unpriced) (map (λ priced. priced.price) bounds)) flow → AllZip CanCarry bounds flow
carried unpriced [] [] all = tt
carried unpriced [] (amount ∷ flow) all = absurd all
carried unpriced (priced ∷ bounds) [] all = absurd all
carried unpriced (priced ∷ bounds) (amount ∷ flow) all = (
  (all.0.0, λ some. subst (λ (c : ℕ). amount ≤ℤ pos c) (cond-false (eqb priced.price 0) unpriced priced.price (ne_eqb priced.price 0 (λ e. omega arith))) all.0.1),
  carried unpriced bounds flow all.1,
)

-- what a balanced network says, by its parts
pub record IsSplit (problem : Problem) (flows : List ℤ) : Type 0 where
  pub bounds_within : AllZip IsWithin (map (capacity_at_price (unpriced_capacity (network_of problem))) (network_of problem).prices) (take (length (network_of problem).bounds) flows)
  pub readings_within : AllZip IsWithin (twice problem.weights) (reading_flows (network_of problem) flows)
  pub count : length (reading_flows (network_of problem) flows) ≡ 2 * length problem.values

pub split : (problem : Problem) (flows : List ℤ) → length (network_of problem).prices ≡ length (network_of problem).bounds → length flows ≡ length (arcs_of (network_of problem)) → AllZip IsWithin (capacities_of (network_of problem)) flows → IsSplit problem flows
split problem flows priced long within =
    let network = network_of problem in
    let at = capacity_at_price (unpriced_capacity network) in
    let parts = zip_split IsWithin (map at network.prices) (twice problem.weights) flows within in
    let same : length (map at network.prices) ≡ length network.bounds = omega (arith, length-map network.prices at) in
    record {
      bounds_within = subst (λ (n : ℕ). AllZip IsWithin (map at network.prices) (take n flows)) same parts.0;
      readings_within = subst (λ (n : ℕ). AllZip IsWithin (twice problem.weights) (drop n flows)) same parts.1;
      count = omega (arith, length-drop (length network.bounds) flows, length-arcs_of network);
    }

-- what flows on the two arcs of a reading is within its weight
pub first_within : (problem : Problem) (flows : List ℤ) (r : ℕ) → IsSplit problem flows → r < length problem.weights → IsWithin (get_or problem.weights r 0) (get_or (reading_flows (network_of problem) flows) (2 * r) (pos 0))
first_within problem flows r parts below =
    let half : (2 * r) / 2 ≡ r = omega arith in
    subst (λ (c : ℕ). IsWithin c (get_or (reading_flows (network_of problem) flows) (2 * r) (pos 0))) (twice_at problem.weights (2 * r) 0 ∙ ap (λ k. get_or problem.weights k 0) half)
    (zip_at IsWithin (twice problem.weights) (reading_flows (network_of problem) flows) (2 * r) 0 (pos 0) parts.readings_within (omega (arith, length-twice problem.weights)))

pub second_within : (problem : Problem) (flows : List ℤ) (r : ℕ) → IsSplit problem flows → r < length problem.weights → IsWithin (get_or problem.weights r 0) (get_or (reading_flows (network_of problem) flows) (2 * r + 1) (pos 0))
second_within problem flows r parts below =
    let half : (2 * r + 1) / 2 ≡ r = omega arith in
    subst (λ (c : ℕ). IsWithin c (get_or (reading_flows (network_of problem) flows) (2 * r + 1) (pos 0))) (twice_at problem.weights (2 * r + 1) 0 ∙ ap (λ k. get_or problem.weights k 0) half)
    (zip_at IsWithin (twice problem.weights) (reading_flows (network_of problem) flows) (2 * r + 1) 0 (pos 0) parts.readings_within (omega (arith, length-twice problem.weights)))

costs_are_limits : (places : List Place) (bounds : List Priced) → map (λ arc. arc.cost) (arcs_of_bounds places (map (λ priced. priced.bound) bounds)) ≡ map (λ priced. priced.bound.limit) bounds
costs_are_limits places [] = refl
costs_are_limits places (priced ∷ bounds) = ap (λ (limits : List ℤ). priced.bound.limit ∷ limits) (costs_are_limits places bounds)

-- all of it for the flows of a problem's network
pub record IsDual (problem : Problem) (flows : List ℤ) : Type 0 where
  pub parts : IsSplit problem flows
  pub pulls : map (pull problem.bounds (take (length (network_of problem).bounds) flows)) problem.places ≡ inflow (reading_flows (network_of problem) flows)
  pub admissible : IsAdmissible problem (take (length (network_of problem).bounds) flows)
  pub value_is : pos 0 -ℤ inner_product flows (map (λ arc. arc.cost) (arcs_of (network_of problem))) ≡ dual_value problem (take (length (network_of problem).bounds) flows)

pub dual : (problem : Problem) (net : NetworkState) → IsNetworkOf problem net → IsBalancedAtReadings net → IsDual problem net.flows
dual problem net is balanced =
    let network = network_of problem in
    let amounts = take (length network.bounds) net.flows in
    let rest = reading_flows network net.flows in
    let same = is.same in
    let sound = is.sound in
    let long : length net.flows ≡ length (arcs_of network) = length-flows net is.network ∙ ap (λ (n : FlowNetwork). length (arcs_of n)) same in
    let within = subst (λ (n : FlowNetwork). AllZip IsWithin (capacities_of n) net.flows) same is.network.flows in
    let priced : length network.prices ≡ length network.bounds = subst (λ (n : FlowNetwork). length n.prices ≡ length n.bounds) same is.network.layout.priced in
    let excess : (node : ℕ) → node < nodes_of network → value_of net.excesses node ≡ balance (arcs_of network) net.flows node =
    subst (λ (n : FlowNetwork). (node : ℕ) → node < nodes_of n → value_of net.excesses node ≡ balance (arcs_of n) net.flows node) same is.network.excesses in
    let none : (reading : ℕ) → reading < length problem.values → value_of net.excesses (suc reading) ≡ pos 0 = subst (λ (n : FlowNetwork). (reading : ℕ) → reading < length n.values → value_of net.excesses (suc reading) ≡ pos 0) same balanced in
    let parts = split problem net.flows priced long within in
    let pulls = pulls_are problem net.flows net.excesses sound is.ends long (λ r below. excess (suc r) (omega arith)) none in
    let readings = reading_arcs 1 problem.values in
    let at_reading : (r : ℕ) → r < length problem.places → pull problem.bounds amounts (get_or problem.places r no_place) ≡ get_or (inflow rest) r (pos 0) =
    λ r below. sym (get_or-map (pull problem.bounds amounts) problem.places r no_place (pos 0) below) ∙ ap (λ (ps : List ℤ). get_or ps r (pos 0)) pulls in
    let valued = sound.valued in
    let weighted = sound.weighted in
    record {
      parts = parts;
      pulls = pulls;
      admissible = record {
        amounts = carried (unpriced_capacity network) problem.bounds amounts parts.bounds_within;
        pulls = zip_by_place (λ p weight. unsigned_abs (pull problem.bounds amounts p) ≤ weight) no_place 0 problem.places problem.weights weighted (λ r below.
            subst (λ (z : ℤ). unsigned_abs z ≤ get_or problem.weights r 0) (sym (at_reading r below ∙ inflow_at rest (length problem.values) r parts.count (omega arith)))
            (inflow_within (get_or rest (2 * r) (pos 0)) (get_or rest (2 * r + 1) (pos 0)) (get_or problem.weights r 0)
            (first_within problem net.flows r parts (omega arith)) (second_within problem net.flows r parts (omega arith))));
      };
      value_is =
          let costs : List Arc → List ℤ = map (λ arc. arc.cost) in
          let long_costs = length-map network.bounds (λ (arc : Arc). arc.cost) in
          let both : inner_product net.flows (costs (arcs_of network)) ≡ inner_product amounts (costs network.bounds) +ℤ inner_product rest (costs readings) =
          ap (inner_product net.flows) (map-append (λ (arc : Arc). arc.cost) network.bounds readings)
          ∙ inner_product-append net.flows (costs network.bounds) (costs readings)
          ∙ (λ i. inner_product (take (long_costs i) net.flows) (costs network.bounds) +ℤ inner_product (drop (long_costs i) net.flows) (costs readings)) in
          let limits = ap (inner_product amounts) (costs_are_limits problem.places problem.bounds) in
          let change = cost_of_inflow 1 problem.values rest parts.count in
          let values = ap (inner_product problem.values) pulls in
          omega (arith, ints, both, limits, change, values);
    }

pub admissible : BalancedIsAdmissible
admissible problem net is balanced =
    let all = dual problem net is balanced in (
      subst (λ (n : FlowNetwork). IsAdmissible problem (take (length n.bounds) net.flows)) (sym is.same) all.admissible,
      (λ i. pos 0 -ℤ inner_product net.flows (map (λ arc. arc.cost) (arcs_of (is.same i)))) ∙ all.value_is ∙ ap (λ (n : FlowNetwork). dual_value problem (take (length n.bounds) net.flows)) (sym is.same),
    )
