-- A solved network shows that a series is best.
use Rattle.std.proofs.Common.{◌≡◌, ℕ, zero, suc, ◌+◌, ◌*◌, ◌/◌, ◌-◌, ◌<◌, Bool, true, false, cond, eqb, ◌||◌, ℤ, pos, negsuc, ◌-ℤ◌, ◌*ℤ◌, ◌≤ℤ◌, ◌<ℤ◌, List, [], ◌∷◌, length, map, sum, get_or, take, Option, None, Some, IfSome, refl, sym, ap, ◌∙◌, subst, arith}
use Rattle.std.specs.Prelude.{unsigned_abs}
use Rattle.std.specs.Int.{is_positive}
use Rattle.std.proofs.lemmas.Int.{ints, by_lt_z}
use Rattle.std.proofs.lemmas.Bool.{eq-eqb, eqb-true, ne_eqb, cond-false}
use Rattle.std.proofs.lemmas.List.{length-map, length-take, get_or-map, get_or-drop, get_or-take, get_or_append_left, get_or-append-add}
use Rattle.std.proofs.lemmas.List.Sums.{sum_by-cons}
use Rattle.std.proofs.Math.IntN.{*ℤ_comm, *ℤ-zero, zero-*ℤ}
use Rattle.words.specs.Lists.{inner_product}
use Rattle.words.proofs.Products.{minus_mul}
use Rattle.words.proofs.InnerProducts.{inner_product-map_minus}
use Rattle.screen_model.specs.declared.place.Place.{Place}
use Rattle.screen_model.specs.declared.place.End.TheVariants.{Zero}
use Rattle.screen_model.specs.declared.bound.Bound.{Bound}
use Rattle.screen_model.specs.declared.bound.Side.TheVariants.{Up}
use Rattle.screen_model.specs.Obeys.{Priced, rise, Obeys}
use Rattle.screen_model.specs.Cost.{Problem, IsProblem, IsSeries, weighted_change, above_zero, payment, cost}
use Rattle.screen_model.specs.Flow.{CanCarry, dual_value}
use Rattle.screen_model.specs.Best.{IsBest}
use Rattle.screen_model.proofs.Gains.{gain_at}
use Rattle.screen_model.proofs.Pulls.{pulled_is}
use Rattle.bound_graph.specs.declared.arc.Arc.{Arc}
use Rattle.bound_graph.specs.Arcs.{arc_at, no_arc}
use Rattle.bound_graph.specs.Graph.{arc_of_bound, arcs_of_bounds}
use Rattle.bound_graph.specs.Values.{value_of, RespectsArc, RespectsIfThere, RespectsArcs, series_of}
use Rattle.bound_graph.specs.Nodes.{unpriced_arcs}
use Rattle.bound_graph.specs.Reverses.{reversed}
use Rattle.bound_graph.proofs.Values.{value_at_node, obeys_is_respects, zero_and_series}
use Rattle.flow_core.specs.Layout.{FlowNetwork, network_of, reading_arcs, arcs_of, arc_numbered, is_unpriced, unpriced_capacity, capacity_at_price, capacity_numbered}
use Rattle.flow_core.specs.State.{NetworkState, flow_on, residual_of, bound_flows, value}
use Rattle.flow_core.specs.Laws.{FlowIsTight, SolvedIsBest, TightIsBest}
use Rattle.flow_core.specs.Views.{is_residual, is_bare, tight_arcs}
use Rattle.flow_core.proofs.Elements.{zip_at}
use Rattle.flow_core.proofs.Sizes.{length-arcs_of, length-flows, capacity_of_bound, capacity_of_reading}
use Rattle.flow_core.proofs.BothWays.{unpriced_below, there_by_arc, back_by_arc}
use Rattle.flow_core.proofs.Readings.{inflow, length-inflow, inflow_at, arc_to, arc_from, arc_to_at, arc_from_at, inflow_by_change}
use Rattle.flow_core.proofs.Duals.{reading_flows, IsDual, dual, first_within, second_within}

-- ---- what the tight arcs ask of the potentials

positive : (z : ℤ) → pos 0 <ℤ z → is_positive z ≡ true
positive z h = grind (arith, ints)

or_right : (a b : Bool) → b ≡ true → (a || b) ≡ true
or_right true b h = refl
or_right false b h = h

or_left : (a b : Bool) → a ≡ true → (a || b) ≡ true
or_left true b h = refl
or_left false b h = absurd cc

there_respects : (potentials : List ℤ) (arcs : List (Option Arc)) (number : ℕ) (arc : Arc) → RespectsArcs potentials arcs → arc_at arcs number ≡ Some arc → RespectsArc potentials arc
there_respects potentials arcs number arc all there = subst (λ (o : Option Arc). RespectsIfThere potentials o) there (all number)

-- what holds of the potentials of a solved network, by its arcs
pub record AreTight (net : NetworkState) : Type 0 where
  pub free : (k : ℕ) → k < length (arcs_of net.network) → is_unpriced net.network k ≡ true → RespectsArc net.potentials (arc_numbered net.network k)
  pub more : (k : ℕ) → k < length (arcs_of net.network) → flow_on net k <ℤ pos (capacity_numbered net.network k) → RespectsArc net.potentials (arc_numbered net.network k)
  pub back : (k : ℕ) → k < length (arcs_of net.network) → pos 0 <ℤ flow_on net k → RespectsArc net.potentials (reversed (arc_numbered net.network k))

pub are_tight : (net : NetworkState) → RespectsArcs net.potentials (tight_arcs net) → AreTight net
are_tight net all =
    let arcs = arcs_of net.network in
    let test : ℕ → Bool → Bool = λ arc back. is_bare net arc back || is_residual net arc back in
    record {
      free = λ k below free. there_respects net.potentials (tight_arcs net) (2 * k) (arc_numbered net.network k) all
          (there_by_arc test arcs k below (or_left (is_bare net k false) (is_residual net k false) free));
      more = λ k below room. there_respects net.potentials (tight_arcs net) (2 * k) (arc_numbered net.network k) all
          (there_by_arc test arcs k below (or_right (is_bare net k false) (is_residual net k false) (positive (residual_of net k false) (omega (arith, ints, room)))));
      back = λ k below some. there_respects net.potentials (tight_arcs net) (2 * k + 1) (reversed (arc_numbered net.network k)) all
          (back_by_arc test arcs k below (or_right (is_bare net k true) (is_residual net k true) (positive (residual_of net k true) some)));
    }

pub flow_tight : FlowIsTight
flow_tight net arc is solves free some =
    let tight = are_tight net solves.obeyed in
    let priced = unpriced_below net.network arc free in
    let layout = is.layout in
    let long = layout.priced in
    let below : arc < length (arcs_of net.network) = omega (arith, length-arcs_of net.network) in
    let up = tight.free arc below free in
    let down = tight.back arc below some in
    omega (arith, ints, up, down)

-- ---- the potentials as a series

zero_less : (z first : ℤ) → first ≡ pos 0 → z -ℤ first ≡ z
zero_less z first e = omega (arith, ints)

all_less : (values : List ℤ) (first : ℤ) → first ≡ pos 0 → map (λ value. value -ℤ first) values ≡ values
all_less [] first e = refl
all_less (value ∷ values) first e = λ i. zero_less value first e i ∷ all_less values first e i

pub potentials_are : (potentials : List ℤ) (count : ℕ) → length potentials ≡ suc count → value_of potentials 0 ≡ pos 0 → potentials ≡ pos 0 ∷ series_of potentials
potentials_are potentials count long zero_there = sym (all_less potentials (value_of potentials 0) zero_there) ∙ zero_and_series potentials count long

-- ---- what is paid

abbrev pub no_bound : Priced
no_bound = record { bound = record { name = record { rule = 0; from_row = 0; to_row = 0; col = 0; side = Up }; first = Zero; second = Zero; limit = pos 0 }; price = 0 }

-- a flow gains on a bound what is paid for it
paid_on_one : (amount gain : ℤ) (price : ℕ) → pos 0 ≤ℤ amount → (0 < price → amount ≤ℤ pos price) → (price ≡ 0 → gain ≤ℤ pos 0) → (0 < price → amount <ℤ pos price → gain ≤ℤ pos 0) → (pos 0 <ℤ amount → pos 0 ≤ℤ gain)
    → amount *ℤ gain ≡ pos (price * above_zero gain)
paid_on_one amount (pos zero) price some within free more back = omega (arith, ints, *ℤ-zero amount)
paid_on_one amount (pos (suc n)) zero some within free more back = absurd (omega (arith, ints, free refl))
paid_on_one amount (pos (suc n)) (suc price) some within free more back =
    let full : amount ≡ pos (suc price) = by_lt_z {P = amount ≡ pos (suc price)} amount (pos (suc price)) (λ below. absurd (omega (arith, ints, more (omega arith) below))) (λ at. omega (arith, ints, at, within (omega arith))) in
    ap (λ z. z *ℤ pos (suc n)) full ∙ omega (arith, ints)
paid_on_one amount (negsuc n) price some within free more back =
    let none : amount ≡ pos 0 = by_lt_z {P = amount ≡ pos 0} (pos 0) amount (λ above. absurd (omega (arith, ints, back above))) (λ at. omega (arith, ints, at, some)) in
    ap (λ z. z *ℤ negsuc n) none ∙ zero-*ℤ (negsuc n) ∙ omega (arith, ints)

paid_on_all : (places : List Place) (series : List ℤ) (bounds : List Priced) (flow : List ℤ) → length flow ≡ length bounds
    → ((k : ℕ) → k < length bounds → get_or flow k (pos 0) *ℤ gain_at places series (get_or bounds k no_bound) ≡ pos (payment places series (get_or bounds k no_bound)))
    → inner_product flow (map (gain_at places series) bounds) ≡ pos (sum (map (payment places series) bounds))
paid_on_all places series [] [] long each = refl
paid_on_all places series [] (amount ∷ flow) long each = absurd (omega arith)
paid_on_all places series (priced ∷ bounds) [] long each = absurd (omega arith)
paid_on_all places series (priced ∷ bounds) (amount ∷ flow) long each =
    let here = each 0 (omega arith) in
    let rest = paid_on_all places series bounds flow (omega arith) (λ k below. each (suc k) (omega arith)) in
    omega (arith, ints, here, rest, sum_by-cons (λ x. x) (payment places series priced) (map (payment places series) bounds))

-- ---- what is changed

changed_in_all : (weights : List ℕ) (values series pulls : List ℤ) → length values ≡ length weights → length series ≡ length weights → length pulls ≡ length weights
    → ((k : ℕ) → k < length weights → get_or pulls k (pos 0) *ℤ (get_or series k (pos 0) -ℤ get_or values k (pos 0)) ≡ pos (get_or weights k 0 * unsigned_abs (get_or series k (pos 0) -ℤ get_or values k (pos 0))))
    → inner_product series pulls -ℤ inner_product values pulls ≡ pos (weighted_change weights values series)
changed_in_all [] [] [] [] valued full long each = omega (arith, ints)
changed_in_all [] (value ∷ values) series pulls valued full long each = absurd (omega arith)
changed_in_all [] [] (x ∷ series) pulls valued full long each = absurd (omega arith)
changed_in_all [] [] [] (p ∷ pulls) valued full long each = absurd (omega arith)
changed_in_all (weight ∷ weights) [] series pulls valued full long each = absurd (omega arith)
changed_in_all (weight ∷ weights) (value ∷ values) [] pulls valued full long each = absurd (omega arith)
changed_in_all (weight ∷ weights) (value ∷ values) (x ∷ series) [] valued full long each = absurd (omega arith)
changed_in_all (weight ∷ weights) (value ∷ values) (x ∷ series) (p ∷ pulls) valued full long each =
    let here = each 0 (omega arith) in
    let rest = changed_in_all weights values series pulls (omega arith) (omega arith) (omega arith) (λ k below. each (suc k) (omega arith)) in
    omega (arith, ints, here, rest, minus_mul x value p, *ℤ_comm p (x -ℤ value))

-- ---- a solved network of a problem

-- what holds of the arcs, where the potentials are 0 and a series
abbrev pub TightSeries : Problem → List ℤ → List ℤ → Type 0
TightSeries problem flows series =
    AreTight (record { network = network_of problem; flows = flows; excesses = []; potentials = pos 0 ∷ series; changes = 0 })

pub bound_at : (problem : Problem) (k : ℕ) → k < length problem.bounds → arc_numbered (network_of problem) k ≡ arc_of_bound problem.places (get_or problem.bounds k no_bound).bound
bound_at problem k below =
    let of_bounds = map (λ (priced : Priced). priced.bound) problem.bounds in
    let arcs = arcs_of_bounds problem.places of_bounds in
    let long = length-map problem.bounds (λ (priced : Priced). priced.bound) in
    get_or_append_left arcs (reading_arcs 1 problem.values) no_arc k (omega (arith, long, length-map of_bounds (arc_of_bound problem.places)))
    ∙ get_or-map (arc_of_bound problem.places) of_bounds k no_bound.bound no_arc (omega (arith, long))
    ∙ ap (arc_of_bound problem.places) (get_or-map (λ (priced : Priced). priced.bound) problem.bounds k no_bound no_bound.bound below)

pub price_at : (problem : Problem) (k d : ℕ) → k < length problem.bounds → get_or (network_of problem).prices k d ≡ (get_or problem.bounds k no_bound).price
price_at problem k d below = get_or-map (λ (priced : Priced). priced.price) problem.bounds k no_bound d below

pub gain_by_arc : (problem : Problem) (series : List ℤ) (bound : Bound) → IsSeries problem series
    → rise problem.places series bound ≡ value_of (pos 0 ∷ series) (arc_of_bound problem.places bound).head -ℤ value_of (pos 0 ∷ series) (arc_of_bound problem.places bound).tail
gain_by_arc problem series bound whole = λ i. value_at_node problem.places series bound.second whole i -ℤ value_at_node problem.places series bound.first whole i

bound_is_paid : (problem : Problem) (flows series : List ℤ) (k : ℕ) → IsSeries problem series → IsDual problem flows → TightSeries problem flows series → k < length problem.bounds
    → get_or (take (length (network_of problem).bounds) flows) k (pos 0) *ℤ gain_at problem.places series (get_or problem.bounds k no_bound) ≡ pos (payment problem.places series (get_or problem.bounds k no_bound))
bound_is_paid problem flows series k whole is tight below =
    let network = network_of problem in
    let priced = get_or problem.bounds k no_bound in
    let bounds_long : length network.bounds ≡ length problem.bounds =
    length-map (map (λ (p : Priced). p.bound) problem.bounds) (arc_of_bound problem.places) ∙ length-map problem.bounds (λ (p : Priced). p.bound) in
    let prices_long : length network.prices ≡ length problem.bounds = length-map problem.bounds (λ (p : Priced). p.price) in
    let inside : k < length (arcs_of network) = omega (arith, length-arcs_of network) in
    let amount = get_or (take (length network.bounds) flows) k (pos 0) in
    let flow : amount ≡ get_or flows k (pos 0) = get_or-take (length network.bounds) flows k (pos 0) (omega arith) in
    let gain = gain_at problem.places series priced in
    let arc = arc_of_bound problem.places priced.bound in
    let risen = gain_by_arc problem series priced.bound whole in
    let at = bound_at problem k below in
    let capacity : capacity_numbered network k ≡ capacity_at_price (unpriced_capacity network) priced.price =
    capacity_of_bound network k (omega arith) ∙ ap (capacity_at_price (unpriced_capacity network)) (price_at problem k 1 below) in
    let carry = zip_at CanCarry problem.bounds (take (length network.bounds) flows) k no_bound (pos 0) is.admissible.amounts below in
    let respected : RespectsArc (pos 0 ∷ series) (arc_numbered network k) → gain ≤ℤ pos 0 = λ respects.
    let here = subst (λ (a : Arc). RespectsArc (pos 0 ∷ series) a) at respects in
    omega (arith, ints, here, risen) in
    let turned : RespectsArc (pos 0 ∷ series) (reversed (arc_numbered network k)) → pos 0 ≤ℤ gain = λ respects.
    let here = subst (λ (a : Arc). RespectsArc (pos 0 ∷ series) (reversed a)) at respects in
    omega (arith, ints, here, risen) in
    paid_on_one amount gain priced.price carry.0 carry.1
    (λ free. respected (tight.free k inside (eq-eqb (get_or network.prices k 1) 0 (price_at problem k 1 below ∙ free))))
    (λ some room.
    let price : capacity_numbered network k ≡ priced.price = capacity ∙ cond-false (eqb priced.price 0) (unpriced_capacity network) priced.price (ne_eqb priced.price 0 (λ e. omega arith)) in
    respected (tight.more k inside (omega (arith, ints, flow, room, ap pos price))))
    (λ some. turned (tight.back k inside (omega (arith, ints, flow, some))))

pub one_more : (r : ℕ) → 1 + r ≡ suc r
one_more r = omega arith

reading_is_changed : (problem : Problem) (flows series : List ℤ) (r : ℕ) → IsSeries problem series → IsDual problem flows → TightSeries problem flows series → length problem.values ≡ length problem.weights → length series ≡ length problem.weights → r < length problem.weights
    → get_or (inflow (reading_flows (network_of problem) flows)) r (pos 0) *ℤ (get_or series r (pos 0) -ℤ get_or problem.values r (pos 0))
    ≡ pos (get_or problem.weights r 0 * unsigned_abs (get_or series r (pos 0) -ℤ get_or problem.values r (pos 0)))
reading_is_changed problem flows series r whole is tight valued full below =
    let network = network_of problem in
    let m = length network.bounds in
    let rest = reading_flows network flows in
    let value = get_or problem.values r (pos 0) in
    let x = get_or series r (pos 0) in
    let weight = get_or problem.weights r 0 in
    let to = m + 2 * r in
    let from = m + (2 * r + 1) in
    let counted = length-arcs_of network in
    let to_below : to < length (arcs_of network) = omega arith in
    let from_below : from < length (arcs_of network) = omega arith in
    let prices_long : length network.prices ≡ m = length-map problem.bounds (λ (p : Priced). p.price)
    ∙ sym (length-map (map (λ (p : Priced). p.bound) problem.bounds) (arc_of_bound problem.places) ∙ length-map problem.bounds (λ (p : Priced). p.bound)) in
    let to_arc : arc_numbered network to ≡ arc_to (1 + r) value = get_or-append-add network.bounds (reading_arcs 1 problem.values) (2 * r) no_arc ∙ arc_to_at 1 problem.values r (omega arith) in
    let from_arc : arc_numbered network from ≡ arc_from (1 + r) value = get_or-append-add network.bounds (reading_arcs 1 problem.values) (2 * r + 1) no_arc ∙ arc_from_at 1 problem.values r (omega arith) in
    let half_to : (to - length network.prices) / 2 ≡ r = omega (arith, prices_long) in
    let half_from : (from - length network.prices) / 2 ≡ r = omega (arith, prices_long) in
    let to_capacity : capacity_numbered network to ≡ weight = capacity_of_reading network to (omega (arith, prices_long)) ∙ ap (λ k. get_or problem.weights k 0) half_to in
    let from_capacity : capacity_numbered network from ≡ weight = capacity_of_reading network from (omega (arith, prices_long)) ∙ ap (λ k. get_or problem.weights k 0) half_from in
    let f = get_or rest (2 * r) (pos 0) in
    let g = get_or rest (2 * r + 1) (pos 0) in
    let f_is : f ≡ get_or flows to (pos 0) = get_or-drop m flows (2 * r) (pos 0) in
    let g_is : g ≡ get_or flows from (pos 0) = get_or-drop m flows (2 * r + 1) (pos 0) in
    let node : value_of (pos 0 ∷ series) (1 + r) ≡ x = ap (value_of (pos 0 ∷ series)) (one_more r) in
    ap (λ z. z *ℤ (x -ℤ value)) (inflow_at rest (length problem.values) r is.parts.count (omega arith))
    ∙ inflow_by_change f g (x -ℤ value) weight (first_within problem flows r is.parts below) (second_within problem flows r is.parts below)
    (λ room. let here = subst (λ (a : Arc). RespectsArc (pos 0 ∷ series) a) to_arc (tight.more to to_below (omega (arith, ints, room, f_is, ap pos to_capacity))) in omega (arith, ints, here, node))
    (λ some. let here = subst (λ (a : Arc). RespectsArc (pos 0 ∷ series) (reversed a)) to_arc (tight.back to to_below (omega (arith, ints, some, f_is))) in omega (arith, ints, here, node))
    (λ room. let here = subst (λ (a : Arc). RespectsArc (pos 0 ∷ series) a) from_arc (tight.more from from_below (omega (arith, ints, room, g_is, ap pos from_capacity))) in omega (arith, ints, here, node))
    (λ some. let here = subst (λ (a : Arc). RespectsArc (pos 0 ∷ series) (reversed a)) from_arc (tight.back from from_below (omega (arith, ints, some, g_is))) in omega (arith, ints, here, node))

-- the dual value is what the series costs
cost_is : (problem : Problem) (flows series : List ℤ) → IsProblem problem → IsSeries problem series → length flows ≡ length (arcs_of (network_of problem)) → IsDual problem flows → TightSeries problem flows series
    → dual_value problem (take (length (network_of problem).bounds) flows) ≡ pos (cost problem series)
cost_is problem flows series sound whole long is tight =
    let network = network_of problem in
    let amounts = take (length network.bounds) flows in
    let rest = reading_flows network flows in
    let bounds_long : length network.bounds ≡ length problem.bounds =
    length-map (map (λ (p : Priced). p.bound) problem.bounds) (arc_of_bound problem.places) ∙ length-map problem.bounds (λ (p : Priced). p.bound) in
    let amounts_long : length amounts ≡ length problem.bounds = omega (arith, length-take (length network.bounds) flows, length-arcs_of network) in
    let valued = sound.valued in
    let weighted = sound.weighted in
    let inflows = length-inflow rest (length problem.values) is.parts.count in
    let payments = paid_on_all problem.places series problem.bounds amounts amounts_long (λ k below. bound_is_paid problem flows series k whole is tight below) in
    let changes = changed_in_all problem.weights problem.values series (inflow rest) (omega arith) (omega arith) (omega arith)
    (λ k below. reading_is_changed problem flows series k whole is tight (omega arith) (omega arith) below) in
    let pulls = pulled_is problem.places series problem.bounds amounts sound.distinct in
    let gains = inner_product-map_minus (λ (priced : Priced). rise problem.places series priced.bound) (λ (priced : Priced). priced.bound.limit) amounts problem.bounds in
    omega (arith, ints, payments, changes, pulls, gains, ap (inner_product series) is.pulls, ap (inner_product problem.values) is.pulls)

-- ---- the unpriced bounds are among the tight arcs

pub record IsFreeBound (places : List Place) (bounds : List Priced) (k : ℕ) (arc : Arc) : Type 0 where
  pub below : k < length bounds
  pub arc_is : arc_of_bound places (get_or bounds k no_bound).bound ≡ arc
  pub price_is : (get_or bounds k no_bound).price ≡ 0

free_first : (places : List Place) (priced : Priced) (bounds : List Priced) (b : Bool) → eqb priced.price 0 ≡ b → IfSome (cond b (Some (arc_of_bound places priced.bound)) None) (IsFreeBound places (priced ∷ bounds) 0)
free_first places priced bounds true e = record { below = omega arith; arc_is = refl; price_is = eqb-true priced.price 0 e }
free_first places priced bounds false e = tt

free_later : (places : List Place) (priced : Priced) (bounds : List Priced) (k : ℕ) (arc : Option Arc) → IfSome arc (IsFreeBound places bounds k) → IfSome arc (IsFreeBound places (priced ∷ bounds) (suc k))
free_later places priced bounds k None is = tt
free_later places priced bounds k (Some arc) is = record { below = omega (arith, is.below); arc_is = is.arc_is; price_is = is.price_is }

pub free_bound : (places : List Place) (bounds : List Priced) (k : ℕ) → IfSome (arc_at (unpriced_arcs places bounds) k) (IsFreeBound places bounds k)
free_bound places [] k = tt
free_bound places (priced ∷ bounds) zero = free_first places priced bounds (eqb priced.price 0) refl
free_bound places (priced ∷ bounds) (suc k) = free_later places priced bounds k (arc_at (unpriced_arcs places bounds) k) (free_bound places bounds k)

respects_if_free : (problem : Problem) (flows series : List ℤ) (k : ℕ) (arc : Option Arc) → TightSeries problem flows series → IfSome arc (IsFreeBound problem.places problem.bounds k) → RespectsIfThere (pos 0 ∷ series) arc
respects_if_free problem flows series k None tight is = tt
respects_if_free problem flows series k (Some arc) tight is =
    let network = network_of problem in
    let below = is.below in
    let inside : k < length (arcs_of network) = omega (arith, length-arcs_of network, length-map (map (λ (p : Priced). p.bound) problem.bounds) (arc_of_bound problem.places), length-map problem.bounds (λ (p : Priced). p.bound)) in
    subst (λ (a : Arc). RespectsArc (pos 0 ∷ series) a) (bound_at problem k is.below ∙ is.arc_is)
    (tight.free k inside (eq-eqb (get_or network.prices k 1) 0 (price_at problem k 1 is.below ∙ is.price_is)))

-- ---- the laws

-- what the arcs ask of a series, in the network of a problem
pub tight_in : (problem : Problem) (net : NetworkState) (series : List ℤ) → net.network ≡ network_of problem → RespectsArcs (pos 0 ∷ series) (tight_arcs net) → TightSeries problem net.flows series
tight_in problem net series same respects =
    let tight = are_tight (record net { potentials = pos 0 ∷ series }) respects in
    subst (λ (n : FlowNetwork). AreTight (record { network = n; flows = net.flows; excesses = []; potentials = pos 0 ∷ series; changes = 0 })) same
    (record { free = tight.free; more = tight.more; back = tight.back })

pub tight_is_best : TightIsBest
tight_is_best problem net series is solves whole respects =
    let balanced = λ (reading : ℕ) (below : reading < length net.network.values). solves.balanced (suc reading) in
    let all = dual problem net is balanced in
    let tight = tight_in problem net series is.same respects in
    let obeys : Obeys problem.places series problem.bounds = (obeys_is_respects problem.places series problem.bounds whole).1
    (λ k. respects_if_free problem net.flows series k (arc_at (unpriced_arcs problem.places problem.bounds) k) tight (free_bound problem.places problem.bounds k)) in
    let long : length net.flows ≡ length (arcs_of (network_of problem)) = length-flows net is.network ∙ ap (λ (n : FlowNetwork). length (arcs_of n)) is.same in
    let equal = cost_is problem net.flows series is.sound whole long all tight in
    let amounts : take (length (network_of problem).bounds) net.flows ≡ bound_flows net = λ i. take (length (sym is.same i).bounds) net.flows in
    let best : IsBest problem series (take (length (network_of problem).bounds) net.flows) = record { sound = is.sound; whole = whole; obeys = obeys; admissible = all.admissible; equal = equal } in
    let valued_is : value net ≡ dual_value problem (take (length (network_of problem).bounds) net.flows) =
    (λ i. pos 0 -ℤ inner_product net.flows (map (λ arc. arc.cost) (arcs_of (is.same i)))) ∙ all.value_is in
    (subst (IsBest problem series) amounts best, valued_is ∙ equal)

pub solved : SolvedIsBest
solved problem net is solves =
    let sound = is.sound in
    let valued = sound.valued in
    let values_same : length net.network.values ≡ length problem.values = ap (λ (n : FlowNetwork). length n.values) is.same in
    let nodes : length net.potentials ≡ suc (length problem.places) = omega (arith, is.network.potential_each) in
    let potentials = potentials_are net.potentials (length problem.places) nodes is.network.potential_zero in
    let whole : IsSeries problem (series_of net.potentials) = omega (arith, ap (λ (ps : List ℤ). length ps) potentials) in
    tight_is_best problem net (series_of net.potentials) is solves whole (subst (λ (ps : List ℤ). RespectsArcs ps (tight_arcs net)) potentials solves.obeyed)
