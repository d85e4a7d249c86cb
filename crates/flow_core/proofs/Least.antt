-- A series that obeys and costs as little as a solved network shows respects the tight arcs.
use Rattle.std.proofs.Common.{◌≡◌, ℕ, zero, suc, ◌+◌, ◌*◌, ◌/◌, ◌%◌, ◌-◌, ◌<◌, ◌≤◌, Bool, true, false, cond, eqb, ◌||◌, ◌⊎◌, inl, inr, ⊎_elim, ℤ, pos, negsuc, ◌+ℤ◌, ◌-ℤ◌, ◌*ℤ◌, ◌≤ℤ◌, ◌<ℤ◌, List, [], ◌∷◌, length, map, sum, get_or, take, None, Some, refl, sym, ap, ◌∙◌, subst, arith, zero-add}
use Rattle.std.specs.Prelude.{unsigned_abs}
use Rattle.std.specs.List.{AllZip}
use Rattle.std.specs.Int.{is_positive}
use Rattle.std.proofs.lemmas.Int.{ints}
use Rattle.std.proofs.lemmas.Nat.{mul-le}
use Rattle.std.proofs.lemmas.Bool.{eqb-true, ne_eqb, cond-false, cases_eq, cases_lt}
use Rattle.std.proofs.lemmas.List.{length-map, get_or-map, get_or-drop, get_or-take, get_or-append-add}
use Rattle.std.proofs.lemmas.List.Sums.{sum_by-cons}
use Rattle.std.proofs.Math.Nat.{le_of_mul-le-mul_right}
use Rattle.std.proofs.Math.IntN.{*ℤ_comm, *ℤ-negsuc}
use Rattle.words.specs.Lists.{inner_product}
use Rattle.words.proofs.Products.{minus_mul}
use Rattle.words.proofs.InnerProducts.{inner_product-map_minus}
use Rattle.screen_model.specs.declared.place.Place.{Place}
use Rattle.screen_model.specs.Obeys.{Priced, rise, Keeps, Obeys}
use Rattle.screen_model.specs.Cost.{Problem, IsSeries, weighted_change, above_zero, payment, cost}
use Rattle.screen_model.specs.Flow.{pull, CanCarry, dual_value}
use Rattle.screen_model.proofs.Gains.{gain_at, gains_are_paid}
use Rattle.screen_model.proofs.Pulls.{pulled_is, gained_by_change}
use Rattle.bound_graph.specs.declared.arc.Arc.{Arc}
use Rattle.bound_graph.specs.Arcs.{arc_at, no_arc}
use Rattle.bound_graph.specs.Graph.{arc_of_bound}
use Rattle.bound_graph.specs.Values.{value_of, RespectsArc, RespectsIfThere, RespectsArcs}
use Rattle.bound_graph.specs.Reverses.{reversed}
use Rattle.flow_core.specs.Layout.{FlowNetwork, network_of, reading_arcs, arcs_of, arc_numbered, is_unpriced, unpriced_capacity, capacity_at_price, capacity_numbered}
use Rattle.flow_core.specs.State.{NetworkState, IsWithin, residual_of, value}
use Rattle.flow_core.specs.Laws.{BestIsTight}
use Rattle.flow_core.specs.Views.{there_from, is_residual, is_bare, tight_arcs}
use Rattle.flow_core.proofs.Elements.{zip_at}
use Rattle.flow_core.proofs.Sizes.{length-arcs_of, capacity_of_bound, capacity_of_reading}
use Rattle.flow_core.proofs.BothWays.{unpriced_below}
use Rattle.flow_core.proofs.Readings.{inflow, inflow_at, arc_to, arc_from, arc_to_at, arc_from_at}
use Rattle.flow_core.proofs.Duals.{reading_flows, IsDual, dual, first_within, second_within, no_place}
use Rattle.flow_core.proofs.Optimality.{AreTight, TightSeries, no_bound, bound_at, price_at, gain_by_arc, one_more}

-- ---- sums whose terms are at most others: where the sums are equal, each term is the other

paid_each : (places : List Place) (series : List ℤ) (bounds : List Priced) (flow : List ℤ) → Obeys places series bounds → AllZip CanCarry bounds flow
    → inner_product flow (map (gain_at places series) bounds) ≡ pos (sum (map (payment places series) bounds))
    → (k : ℕ) → k < length bounds → get_or flow k (pos 0) *ℤ gain_at places series (get_or bounds k no_bound) ≡ pos (payment places series (get_or bounds k no_bound))
paid_each places series [] flow obeys carry same k below = absurd (omega arith)
paid_each places series (priced ∷ bounds) [] obeys carry same k below = absurd carry
paid_each places series (priced ∷ bounds) (amount ∷ flow) obeys carry same zero below =
    let one = gains_are_paid places series (priced ∷ []) (amount ∷ []) (obeys.0, tt) (carry.0, tt) in
    let rest = gains_are_paid places series bounds flow obeys.1 carry.1 in
    let paid = payment places series priced in
    omega (arith, ints, one, rest, same, sum_by-cons (λ x. x) paid (map (payment places series) bounds), sum_by-cons (λ x. x) paid [])
paid_each places series (priced ∷ bounds) (amount ∷ flow) obeys carry same (suc k) below =
    let one = gains_are_paid places series (priced ∷ []) (amount ∷ []) (obeys.0, tt) (carry.0, tt) in
    let rest = gains_are_paid places series bounds flow obeys.1 carry.1 in
    let paid = payment places series priced in
    let rest_same : inner_product flow (map (gain_at places series) bounds) ≡ pos (sum (map (payment places series) bounds)) =
    omega (arith, ints, one, rest, same, sum_by-cons (λ x. x) paid (map (payment places series) bounds), sum_by-cons (λ x. x) paid []) in
    paid_each places series bounds flow obeys.1 carry.1 rest_same k (omega arith)

changed_each : (pull_at : Place → ℤ) (places : List Place) (weights : List ℕ) (values series : List ℤ) → AllZip (λ p weight. unsigned_abs (pull_at p) ≤ weight) places weights
    → length values ≡ length places → length series ≡ length places
    → inner_product series (map pull_at places) -ℤ inner_product values (map pull_at places) ≡ pos (weighted_change weights values series)
    → (r : ℕ) → r < length places
    → pull_at (get_or places r no_place) *ℤ (get_or series r (pos 0) -ℤ get_or values r (pos 0)) ≡ pos (get_or weights r 0 * unsigned_abs (get_or series r (pos 0) -ℤ get_or values r (pos 0)))
changed_each pull_at [] weights values series h valued full same r below = absurd (omega arith)
changed_each pull_at (p ∷ places) [] values series h valued full same r below = absurd h
changed_each pull_at (p ∷ places) (weight ∷ weights) [] series h valued full same r below = absurd (omega arith)
changed_each pull_at (p ∷ places) (weight ∷ weights) (value ∷ values) [] h valued full same r below = absurd (omega arith)
changed_each pull_at (p ∷ places) (weight ∷ weights) (value ∷ values) (x ∷ series) h valued full same zero below =
    let one = gained_by_change pull_at (p ∷ []) (weight ∷ []) (value ∷ []) (x ∷ []) (h.0, tt) refl refl in
    let rest = gained_by_change pull_at places weights values series h.1 (omega arith) (omega arith) in
    omega (arith, ints, one, rest, same, minus_mul x value (pull_at p), *ℤ_comm (pull_at p) (x -ℤ value))
changed_each pull_at (p ∷ places) (weight ∷ weights) (value ∷ values) (x ∷ series) h valued full same (suc r) below =
    let one = gained_by_change pull_at (p ∷ []) (weight ∷ []) (value ∷ []) (x ∷ []) (h.0, tt) refl refl in
    let rest = gained_by_change pull_at places weights values series h.1 (omega arith) (omega arith) in
    let rest_same : inner_product series (map pull_at places) -ℤ inner_product values (map pull_at places) ≡ pos (weighted_change weights values series) = omega (arith, ints, one, rest, same) in
    changed_each pull_at places weights values series h.1 (omega arith) (omega arith) rest_same r (omega arith)

-- ---- what equal terms ask of a bound

-- where more can flow on it, the bound is kept
kept_if_more : (amount gain : ℤ) (price : ℕ) → amount *ℤ gain ≡ pos (price * above_zero gain) → (price ≡ 0 → gain ≤ℤ pos 0) → pos 0 ≤ℤ amount → (0 < price → amount <ℤ pos price) → gain ≤ℤ pos 0
kept_if_more amount (pos zero) price same free some room = omega (arith, ints)
kept_if_more amount (pos (suc n)) zero same free some room = free refl
kept_if_more (pos a) (pos (suc n)) (suc price) same free some room =
    absurd (omega (arith, ints, same, mul-le a (suc n) price (suc n) (omega (arith, ints, room (omega arith))) (omega arith)))
kept_if_more (negsuc a) (pos (suc n)) (suc price) same free some room = absurd (omega (arith, ints, some))
kept_if_more amount (negsuc n) price same free some room = omega (arith, ints)

-- where something flows on it, the rise is no less than the limit
full_if_some : (amount gain : ℤ) (price : ℕ) → amount *ℤ gain ≡ pos (price * above_zero gain) → pos 0 <ℤ amount → pos 0 ≤ℤ gain
full_if_some amount (pos n) price same some = omega (arith, ints)
full_if_some (pos zero) (negsuc n) price same some = absurd (omega (arith, ints, some))
full_if_some (pos (suc a)) (negsuc n) price same some = absurd (omega (arith, ints, same, *ℤ-negsuc (pos (suc a)) n))
full_if_some (negsuc a) (negsuc n) price same some = absurd (omega (arith, ints, some))

-- ---- what they ask of a reading

-- where the value rose, all that can flows to the reading
rose : (u : ℤ) (n weight : ℕ) → u *ℤ pos (suc n) ≡ pos (weight * suc n) → pos weight ≤ℤ u
rose (pos a) n weight same = let le : weight * suc n ≤ a * suc n = omega (arith, ints, same) in omega (arith, ints, le_of_mul-le-mul_right {m = weight} {n = a} {k = suc n} le (omega arith))
rose (negsuc a) n weight same = absurd (omega (arith, ints, same))

-- where it fell, all that can flows from it
fell : (u : ℤ) (n weight : ℕ) → u *ℤ negsuc n ≡ pos (weight * suc n) → (u +ℤ pos weight) ≤ℤ pos 0
fell (pos a) n weight same =
    let none : weight * suc n ≤ 0 * suc n = omega (arith, ints, same, *ℤ-negsuc (pos a) n) in
    let weightless : weight ≤ 0 = le_of_mul-le-mul_right {m = weight} {n = 0} {k = suc n} none (omega arith) in
    let empty : a * suc n ≤ 0 * suc n = omega (arith, ints, same, *ℤ-negsuc (pos a) n) in
    let nothing : a ≤ 0 = le_of_mul-le-mul_right {m = a} {n = 0} {k = suc n} empty (omega arith) in
    omega (arith, ints)
fell (negsuc a) n weight same =
    let le : weight * suc n ≤ suc a * suc n = omega (arith, ints, same) in
    omega (arith, ints, le_of_mul-le-mul_right {m = weight} {n = suc a} {k = suc n} le (omega arith))

-- where more can flow to it, or something flows from it, the value did not rise
not_risen : (f g d : ℤ) (weight : ℕ) → (f -ℤ g) *ℤ d ≡ pos (weight * unsigned_abs d) → IsWithin weight f → IsWithin weight g → (f <ℤ pos weight) ⊎ (pos 0 <ℤ g) → d ≤ℤ pos 0
not_risen f g (pos zero) weight same first second room = omega (arith, ints)
not_risen f g (pos (suc n)) weight same first second (inl room) = absurd (omega (arith, ints, rose (f -ℤ g) n weight same, second.0, room))
not_risen f g (pos (suc n)) weight same first second (inr some) = absurd (omega (arith, ints, rose (f -ℤ g) n weight same, first.1, some))
not_risen f g (negsuc n) weight same first second room = omega (arith, ints)

-- where something flows to it, or more can flow from it, the value did not fall
not_fallen : (f g d : ℤ) (weight : ℕ) → (f -ℤ g) *ℤ d ≡ pos (weight * unsigned_abs d) → IsWithin weight f → IsWithin weight g → (pos 0 <ℤ f) ⊎ (g <ℤ pos weight) → pos 0 ≤ℤ d
not_fallen f g (pos n) weight same first second some = omega (arith, ints)
not_fallen f g (negsuc n) weight same first second (inl some) = absurd (omega (arith, ints, fell (f -ℤ g) n weight same, second.1, some))
not_fallen f g (negsuc n) weight same first second (inr room) = absurd (omega (arith, ints, fell (f -ℤ g) n weight same, first.0, room))

-- ---- the terms of a series that costs least

record AreTermsEqual (problem : Problem) (flows series : List ℤ) : Type 0 where
  bounds : (k : ℕ) → k < length problem.bounds
      → get_or (take (length (network_of problem).bounds) flows) k (pos 0) *ℤ gain_at problem.places series (get_or problem.bounds k no_bound) ≡ pos (payment problem.places series (get_or problem.bounds k no_bound))
  readings : (r : ℕ) → r < length problem.places
      → pull problem.bounds (take (length (network_of problem).bounds) flows) (get_or problem.places r no_place) *ℤ (get_or series r (pos 0) -ℤ get_or problem.values r (pos 0))
      ≡ pos (get_or problem.weights r 0 * unsigned_abs (get_or series r (pos 0) -ℤ get_or problem.values r (pos 0)))

terms_equal : (problem : Problem) (flows series : List ℤ) → IsSeries problem series → length problem.values ≡ length problem.places → IsDual problem flows → Obeys problem.places series problem.bounds
    → inner_product series (map (pull problem.bounds (take (length (network_of problem).bounds) flows)) problem.places) ≡ pos 0 -ℤ inner_product (take (length (network_of problem).bounds) flows) (map (λ priced. rise problem.places series priced.bound) problem.bounds)
    → pos (cost problem series) ≤ℤ dual_value problem (take (length (network_of problem).bounds) flows) → AreTermsEqual problem flows series
terms_equal problem flows series whole valued is obeys pulled cheap =
    let amounts = take (length (network_of problem).bounds) flows in
    let at = pull problem.bounds amounts in
    let change = gained_by_change at problem.places problem.weights problem.values series is.admissible.pulls valued whole in
    let pay = gains_are_paid problem.places series problem.bounds amounts obeys is.admissible.amounts in
    let gain = inner_product-map_minus (λ priced. rise problem.places series priced.bound) (λ (priced : Priced). priced.bound.limit) amounts problem.bounds in
    let paid_same : inner_product amounts (map (gain_at problem.places series) problem.bounds) ≡ pos (sum (map (payment problem.places series) problem.bounds)) = omega (arith, ints, change, pay, gain, pulled, cheap) in
    let change_same : inner_product series (map at problem.places) -ℤ inner_product problem.values (map at problem.places) ≡ pos (weighted_change problem.weights problem.values series) = omega (arith, ints, change, pay, gain, pulled, cheap) in
    record {
      bounds = paid_each problem.places series problem.bounds amounts obeys is.admissible.amounts paid_same;
      readings = changed_each at problem.places problem.weights problem.values series is.admissible.pulls valued whole change_same;
    }

-- ---- the arcs of bounds

obeyed_at : (places : List Place) (series : List ℤ) (bounds : List Priced) (k : ℕ) → Obeys places series bounds → k < length bounds → (get_or bounds k no_bound).price ≡ 0 → Keeps places series (get_or bounds k no_bound).bound
obeyed_at places series [] k obeys below free = absurd (omega arith)
obeyed_at places series (priced ∷ bounds) zero obeys below free = obeys.0 free
obeyed_at places series (priced ∷ bounds) (suc k) obeys below free = obeyed_at places series bounds k obeys.1 (omega arith) free

record IsBoundTight (problem : Problem) (flows series : List ℤ) (k : ℕ) : Type 0 where
  free : is_unpriced (network_of problem) k ≡ true → RespectsArc (pos 0 ∷ series) (arc_numbered (network_of problem) k)
  more : get_or flows k (pos 0) <ℤ pos (capacity_numbered (network_of problem) k) → RespectsArc (pos 0 ∷ series) (arc_numbered (network_of problem) k)
  back : pos 0 <ℤ get_or flows k (pos 0) → RespectsArc (pos 0 ∷ series) (reversed (arc_numbered (network_of problem) k))

bound_tight : (problem : Problem) (flows series : List ℤ) (k : ℕ) → IsSeries problem series → IsDual problem flows → Obeys problem.places series problem.bounds → AreTermsEqual problem flows series → k < length problem.bounds → IsBoundTight problem flows series k
bound_tight problem flows series k whole is obeys terms below =
    let network = network_of problem in
    let priced = get_or problem.bounds k no_bound in
    let bounds_long : length network.bounds ≡ length problem.bounds =
    length-map (map (λ (p : Priced). p.bound) problem.bounds) (arc_of_bound problem.places) ∙ length-map problem.bounds (λ (p : Priced). p.bound) in
    let prices_long : length network.prices ≡ length problem.bounds = length-map problem.bounds (λ (p : Priced). p.price) in
    let amount = get_or (take (length network.bounds) flows) k (pos 0) in
    let flow : amount ≡ get_or flows k (pos 0) = get_or-take (length network.bounds) flows k (pos 0) (omega arith) in
    let gain = gain_at problem.places series priced in
    let arc = arc_of_bound problem.places priced.bound in
    let risen = gain_by_arc problem series priced.bound whole in
    let at = bound_at problem k below in
    let capacity : capacity_numbered network k ≡ capacity_at_price (unpriced_capacity network) priced.price =
    capacity_of_bound network k (omega arith) ∙ ap (capacity_at_price (unpriced_capacity network)) (price_at problem k 1 below) in
    let carry = zip_at CanCarry problem.bounds (take (length network.bounds) flows) k no_bound (pos 0) is.admissible.amounts below in
    let kept : priced.price ≡ 0 → gain ≤ℤ pos 0 = λ free. omega (arith, ints, obeyed_at problem.places series problem.bounds k obeys below free) in
    let term = terms.bounds k below in
    let forth : gain ≤ℤ pos 0 → RespectsArc (pos 0 ∷ series) (arc_numbered network k) = λ low.
    let here : RespectsArc (pos 0 ∷ series) arc = omega (arith, ints, low, risen) in
    subst (λ (a : Arc). RespectsArc (pos 0 ∷ series) a) (sym at) here in
    let turned : pos 0 ≤ℤ gain → RespectsArc (pos 0 ∷ series) (reversed (arc_numbered network k)) = λ high.
    let here : RespectsArc (pos 0 ∷ series) (reversed arc) = omega (arith, ints, high, risen) in
    subst (λ (a : Arc). RespectsArc (pos 0 ∷ series) (reversed a)) (sym at) here in
    record {
      free = λ free. forth (kept (sym (price_at problem k 1 below) ∙ eqb-true (get_or network.prices k 1) 0 free));
      more = λ room. forth (kept_if_more amount gain priced.price term kept carry.0 (λ some.
          let price : capacity_numbered network k ≡ priced.price = capacity ∙ cond-false (eqb priced.price 0) (unpriced_capacity network) priced.price (ne_eqb priced.price 0 (λ e. omega arith)) in
          omega (arith, ints, flow, room, ap pos price)));
      back = λ some. turned (full_if_some amount gain priced.price term (omega (arith, ints, flow, some)));
    }

-- ---- the arcs of readings

record IsReadingTight (problem : Problem) (flows series : List ℤ) (arc : ℕ) : Type 0 where
  more : get_or flows arc (pos 0) <ℤ pos (capacity_numbered (network_of problem) arc) → RespectsArc (pos 0 ∷ series) (arc_numbered (network_of problem) arc)
  back : pos 0 <ℤ get_or flows arc (pos 0) → RespectsArc (pos 0 ∷ series) (reversed (arc_numbered (network_of problem) arc))

-- what is known of a reading: its two flows, and by how much it is changed
record HasTerm (problem : Problem) (flows series : List ℤ) (r : ℕ) : Type 0 where
  first : IsWithin (get_or problem.weights r 0) (get_or (reading_flows (network_of problem) flows) (2 * r) (pos 0))
  second : IsWithin (get_or problem.weights r 0) (get_or (reading_flows (network_of problem) flows) (2 * r + 1) (pos 0))
  term : (get_or (reading_flows (network_of problem) flows) (2 * r) (pos 0) -ℤ get_or (reading_flows (network_of problem) flows) (2 * r + 1) (pos 0)) *ℤ (get_or series r (pos 0) -ℤ get_or problem.values r (pos 0))
      ≡ pos (get_or problem.weights r 0 * unsigned_abs (get_or series r (pos 0) -ℤ get_or problem.values r (pos 0)))

has_term : (problem : Problem) (flows series : List ℤ) (r : ℕ) → length problem.values ≡ length problem.places → length problem.weights ≡ length problem.places → IsDual problem flows → AreTermsEqual problem flows series → r < length problem.places → HasTerm problem flows series r
has_term problem flows series r valued weighted is terms below =
    let network = network_of problem in
    let amounts = take (length network.bounds) flows in
    let rest = reading_flows network flows in
    let change = get_or series r (pos 0) -ℤ get_or problem.values r (pos 0) in
    let pulled : pull problem.bounds amounts (get_or problem.places r no_place) ≡ get_or (inflow rest) r (pos 0) =
    sym (get_or-map (pull problem.bounds amounts) problem.places r no_place (pos 0) below) ∙ ap (λ (ps : List ℤ). get_or ps r (pos 0)) is.pulls in
    let difference = inflow_at rest (length problem.values) r is.parts.count (omega arith) in
    record {
      first = first_within problem flows r is.parts (omega arith);
      second = second_within problem flows r is.parts (omega arith);
      term = ap (λ z. z *ℤ change) (sym (pulled ∙ difference)) ∙ terms.readings r below;
    }

to_tight : (problem : Problem) (flows series : List ℤ) (r : ℕ) → length problem.values ≡ length problem.places → length problem.weights ≡ length problem.places → r < length problem.places → HasTerm problem flows series r
    → IsReadingTight problem flows series (length (network_of problem).bounds + 2 * r)
to_tight problem flows series r valued weighted below has =
    let network = network_of problem in
    let m = length network.bounds in
    let rest = reading_flows network flows in
    let value = get_or problem.values r (pos 0) in
    let x = get_or series r (pos 0) in
    let weight = get_or problem.weights r 0 in
    let arc = m + 2 * r in
    let prices_long : length network.prices ≡ m = length-map problem.bounds (λ (p : Priced). p.price)
    ∙ sym (length-map (map (λ (p : Priced). p.bound) problem.bounds) (arc_of_bound problem.places) ∙ length-map problem.bounds (λ (p : Priced). p.bound)) in
    let arc_is : arc_numbered network arc ≡ arc_to (1 + r) value = get_or-append-add network.bounds (reading_arcs 1 problem.values) (2 * r) no_arc ∙ arc_to_at 1 problem.values r (omega arith) in
    let half : (arc - length network.prices) / 2 ≡ r = omega (arith, prices_long) in
    let capacity : capacity_numbered network arc ≡ weight = capacity_of_reading network arc (omega (arith, prices_long)) ∙ ap (λ k. get_or problem.weights k 0) half in
    let f = get_or rest (2 * r) (pos 0) in
    let g = get_or rest (2 * r + 1) (pos 0) in
    let f_is : f ≡ get_or flows arc (pos 0) = get_or-drop m flows (2 * r) (pos 0) in
    let node : value_of (pos 0 ∷ series) (1 + r) ≡ x = ap (value_of (pos 0 ∷ series)) (one_more r) in
    record {
      more = λ room.
          let low = not_risen f g (x -ℤ value) weight has.term has.first has.second (inl (omega (arith, ints, room, f_is, ap pos capacity))) in
          let here : RespectsArc (pos 0 ∷ series) (arc_to (1 + r) value) = omega (arith, ints, low, node) in
          subst (λ (a : Arc). RespectsArc (pos 0 ∷ series) a) (sym arc_is) here;
      back = λ some.
          let high = not_fallen f g (x -ℤ value) weight has.term has.first has.second (inl (omega (arith, ints, some, f_is))) in
          let here : RespectsArc (pos 0 ∷ series) (reversed (arc_to (1 + r) value)) = omega (arith, ints, high, node) in
          subst (λ (a : Arc). RespectsArc (pos 0 ∷ series) (reversed a)) (sym arc_is) here;
    }

from_tight : (problem : Problem) (flows series : List ℤ) (r : ℕ) → length problem.values ≡ length problem.places → length problem.weights ≡ length problem.places → r < length problem.places → HasTerm problem flows series r
    → IsReadingTight problem flows series (length (network_of problem).bounds + (2 * r + 1))
from_tight problem flows series r valued weighted below has =
    let network = network_of problem in
    let m = length network.bounds in
    let rest = reading_flows network flows in
    let value = get_or problem.values r (pos 0) in
    let x = get_or series r (pos 0) in
    let weight = get_or problem.weights r 0 in
    let arc = m + (2 * r + 1) in
    let prices_long : length network.prices ≡ m = length-map problem.bounds (λ (p : Priced). p.price)
    ∙ sym (length-map (map (λ (p : Priced). p.bound) problem.bounds) (arc_of_bound problem.places) ∙ length-map problem.bounds (λ (p : Priced). p.bound)) in
    let arc_is : arc_numbered network arc ≡ arc_from (1 + r) value = get_or-append-add network.bounds (reading_arcs 1 problem.values) (2 * r + 1) no_arc ∙ arc_from_at 1 problem.values r (omega arith) in
    let half : (arc - length network.prices) / 2 ≡ r = omega (arith, prices_long) in
    let capacity : capacity_numbered network arc ≡ weight = capacity_of_reading network arc (omega (arith, prices_long)) ∙ ap (λ k. get_or problem.weights k 0) half in
    let f = get_or rest (2 * r) (pos 0) in
    let g = get_or rest (2 * r + 1) (pos 0) in
    let g_is : g ≡ get_or flows arc (pos 0) = get_or-drop m flows (2 * r + 1) (pos 0) in
    let node : value_of (pos 0 ∷ series) (1 + r) ≡ x = ap (value_of (pos 0 ∷ series)) (one_more r) in
    record {
      more = λ room.
          let high = not_fallen f g (x -ℤ value) weight has.term has.first has.second (inr (omega (arith, ints, room, g_is, ap pos capacity))) in
          let here : RespectsArc (pos 0 ∷ series) (arc_from (1 + r) value) = omega (arith, ints, high, node) in
          subst (λ (a : Arc). RespectsArc (pos 0 ∷ series) a) (sym arc_is) here;
      back = λ some.
          let low = not_risen f g (x -ℤ value) weight has.term has.first has.second (inr (omega (arith, ints, some, g_is))) in
          let here : RespectsArc (pos 0 ∷ series) (reversed (arc_from (1 + r) value)) = omega (arith, ints, low, node) in
          subst (λ (a : Arc). RespectsArc (pos 0 ∷ series) (reversed a)) (sym arc_is) here;
    }

-- an arc behind those of the bounds is one of a reading
place_of : (m count k : ℕ) → m ≤ k → k < m + 2 * count → (k - m) / 2 < count × ((k ≡ m + 2 * ((k - m) / 2)) ⊎ (k ≡ m + (2 * ((k - m) / 2) + 1)))
place_of m count k from below = (
  omega arith,
  ⊎_elim
      (λ (even : (k - m) % 2 ≡ 0). inl (omega (arith, even)))
      (λ (odd : (k - m) % 2 ≡ 0 → ⊥). let one : (k - m) % 2 ≡ 1 = ⊎_elim (λ (none : (k - m) % 2 ≡ 0). absurd (odd none)) (λ (some : (k - m) % 2 ≡ 0 → ⊥). omega (arith, some)) (cases_eq ((k - m) % 2) 0) in inr (omega (arith, one)))
      (cases_eq ((k - m) % 2) 0),
)

reading_tight : (problem : Problem) (flows series : List ℤ) (k : ℕ) → length problem.values ≡ length problem.places → length problem.weights ≡ length problem.places → IsDual problem flows → AreTermsEqual problem flows series
    → length (network_of problem).bounds ≤ k → k < length (arcs_of (network_of problem)) → IsReadingTight problem flows series k
reading_tight problem flows series k valued weighted is terms from below =
    let network = network_of problem in
    let m = length network.bounds in
    let at = place_of m (length problem.values) k from (omega (arith, length-arcs_of network)) in
    let r = (k - m) / 2 in
    let inside : r < length problem.places = omega (arith, at.0) in
    let has = has_term problem flows series r valued weighted is terms inside in
    ⊎_elim
    (λ (to : k ≡ m + 2 * r). subst (IsReadingTight problem flows series) (sym to) (to_tight problem flows series r valued weighted inside has))
    (λ (out : k ≡ m + (2 * r + 1)). subst (IsReadingTight problem flows series) (sym out) (from_tight problem flows series r valued weighted inside has))
    at.1

-- ---- all arcs

series_tight : (problem : Problem) (flows series : List ℤ) → IsSeries problem series → length problem.values ≡ length problem.places → length problem.weights ≡ length problem.places → IsDual problem flows → Obeys problem.places series problem.bounds → AreTermsEqual problem flows series
    → TightSeries problem flows series
series_tight problem flows series whole valued weighted is obeys terms =
    let network = network_of problem in
    let bounds_long : length network.bounds ≡ length problem.bounds =
    length-map (map (λ (p : Priced). p.bound) problem.bounds) (arc_of_bound problem.places) ∙ length-map problem.bounds (λ (p : Priced). p.bound) in
    let prices_long : length network.prices ≡ length problem.bounds = length-map problem.bounds (λ (p : Priced). p.price) in
    let of_bound = λ (k : ℕ) (below : k < length network.bounds). bound_tight problem flows series k whole is obeys terms (omega (arith, below)) in
    let of_reading = λ (k : ℕ) (from : length network.bounds ≤ k) (below : k < length (arcs_of network)). reading_tight problem flows series k valued weighted is terms from below in
    record {
      free = λ k below free. (of_bound k (omega (arith, unpriced_below network k free))).free free;
      more = λ k below room. ⊎_elim
          (λ (bound : k < length network.bounds). (of_bound k bound).more room)
          (λ (reading : length network.bounds ≤ k). (of_reading k reading below).more room)
          (cases_lt k (length network.bounds));
      back = λ k below some. ⊎_elim
          (λ (bound : k < length network.bounds). (of_bound k bound).back some)
          (λ (reading : length network.bounds ≤ k). (of_reading k reading below).back some)
          (cases_lt k (length network.bounds));
    }

-- ---- the view of the tight arcs

if_there : (values : List ℤ) (there : Bool) (arc : Arc) → (there ≡ true → RespectsArc values arc) → RespectsIfThere values (cond there (Some arc) None)
if_there values true arc holds = holds refl
if_there values false arc holds = tt

respects_from : (values : List ℤ) (first : ℕ) (is_there : ℕ → Bool → Bool) (arcs : List Arc)
    → ((k : ℕ) → k < length arcs → is_there (first + k) false ≡ true → RespectsArc values (get_or arcs k no_arc))
    → ((k : ℕ) → k < length arcs → is_there (first + k) true ≡ true → RespectsArc values (reversed (get_or arcs k no_arc)))
    → (i : ℕ) → RespectsIfThere values (arc_at (there_from first is_there arcs) i)
respects_from values first is_there [] forth back i = tt
respects_from values first is_there (arc ∷ arcs) forth back zero =
    let here : first + 0 ≡ first = omega arith in
    if_there values (is_there first false) arc (λ there. forth 0 (omega arith) (ap (λ n. is_there n false) here ∙ there))
respects_from values first is_there (arc ∷ arcs) forth back (suc zero) =
    let here : first + 0 ≡ first = omega arith in
    if_there values (is_there first true) (reversed arc) (λ there. back 0 (omega arith) (ap (λ n. is_there n true) here ∙ there))
respects_from values first is_there (arc ∷ arcs) forth back (suc (suc i)) =
    let next : (k : ℕ) → first + suc k ≡ suc first + k = λ k. omega arith in
    respects_from values (suc first) is_there arcs
    (λ k below there. forth (suc k) (omega (arith, below)) (ap (λ n. is_there n false) (next k) ∙ there))
    (λ k below there. back (suc k) (omega (arith, below)) (ap (λ n. is_there n true) (next k) ∙ there))
    i

is_above : (z : ℤ) → is_positive z ≡ true → pos 0 <ℤ z
is_above z h = grind (arith, ints)

either : (a b : Bool) → (a || b) ≡ true → (a ≡ true) ⊎ (b ≡ true)
either true b h = inl refl
either false b h = inr h

pub respects_tight : (net : NetworkState) → AreTight net → RespectsArcs net.potentials (tight_arcs net)
respects_tight net tight =
    let arcs = arcs_of net.network in
    let test : ℕ → Bool → Bool = λ arc back. is_bare net arc back || is_residual net arc back in
    respects_from net.potentials 0 test arcs
    (λ k below there. ⊎_elim
    (λ (free : is_unpriced net.network k ≡ true). tight.free k below free)
    (λ (room : is_residual net k false ≡ true). tight.more k below (omega (arith, ints, is_above (residual_of net k false) room)))
    (either (is_bare net k false) (is_residual net k false) (ap (λ n. test n false) (sym (zero-add k)) ∙ there)))
    (λ k below there. tight.back k below (is_above (residual_of net k true) (ap (λ n. test n true) (sym (zero-add k)) ∙ there)))

-- ---- the law

pub best_is_tight : BestIsTight
best_is_tight problem net series is solves whole obeys cheap =
    let balanced = λ (reading : ℕ) (below : reading < length net.network.values). solves.balanced (suc reading) in
    let all = dual problem net is balanced in
    let network = network_of problem in
    let amounts = take (length network.bounds) net.flows in
    let sound = is.sound in
    let valued_is : value net ≡ dual_value problem amounts =
    (λ i. pos 0 -ℤ inner_product net.flows (map (λ arc. arc.cost) (arcs_of (is.same i)))) ∙ all.value_is in
    let pulled = pulled_is problem.places series problem.bounds amounts sound.distinct in
    let terms = terms_equal problem net.flows series whole sound.valued all obeys pulled (omega (arith, ints, cheap, valued_is)) in
    let tight = series_tight problem net.flows series whole sound.valued sound.weighted all obeys terms in
    let at_net = subst (λ (n : FlowNetwork). AreTight (record { network = n; flows = net.flows; excesses = []; potentials = pos 0 ∷ series; changes = 0 })) (sym is.same) tight in
    respects_tight (record net { potentials = pos 0 ∷ series }) (record { free = at_net.free; more = at_net.more; back = at_net.back })
