-- Arcs saturated, one after the other.
use Rattle.std.proofs.Common.{◌≡◌, ◌≢◌, ℕ, zero, suc, ◌+◌, ◌*◌, ◌-◌, ◌<◌, ◌≤◌, true, false, eqb, ℤ, pos, negsuc, ◌+ℤ◌, ◌-ℤ◌, ◌≤ℤ◌, ◌<ℤ◌, List, length, get_or, set, take, sum, count_by, cond, not, ◌/◌, refl, sym, ap, ◌∙◌, subst, ⊎_elim, arith, get_or-set_same, get_or-set_other}
use Rattle.std.proofs.lemmas.Int.{ints}
use Rattle.std.proofs.lemmas.Bool.{cases_eq, eq-eqb, ne_eqb}
use Rattle.std.proofs.lemmas.List.{get_or_append_left, get_or-append-add, get_or_past}
use Rattle.std.proofs.lemmas.List.Sums.{count_by_more_no, count_by_more_yes}
use Rattle.std.specs.Int.{is_positive}
use Rattle.bound_graph.specs.declared.arc.Arc.{Arc}
use Rattle.bound_graph.specs.Values.{value_of, RespectsArc, RespectsArcs}
use Rattle.flow_core.specs.Layout.{FlowNetwork, IsLayout, arcs_of, arc_numbered, capacity_numbered, reading_arcs, capacity_at_price, unpriced_capacity}
use Rattle.flow_core.specs.State.{NetworkState, IsNetwork, flow_on, residual_of, added, pushed}
use Rattle.flow_core.proofs.Readings.{arc_to_at, arc_from_at}
use Rattle.flow_core.proofs.Sizes.{arc_valid, length-flows, capacity_of_bound, capacity_of_reading}
use Rattle.words.specs.Lists.{total}
use Rattle.words.proofs.Sums.{total-set}
use Rattle.std.proofs.lemmas.List.{length-set}
use Rattle.std.proofs.lemmas.List.Sums.{sum_by-set, sum_by_more}
use Rattle.bound_graph.specs.Arcs.{no_arc}
use Rattle.flow_core.specs.Views.{bare_arcs}
use Rattle.path_flow.specs.Flow.{excess_units, positive_size}
use Rattle.path_flow.proofs.Sums.{positive_less, positive_more}
use Rattle.path_flow.specs.Steps.{HasNoNegative, reduced_cost}
use Rattle.path_flow.specs.Saturation.{Saturates, IsSaturated}
use Rattle.path_flow.proofs.Views.{free_respects}

-- an arc that is empty, and of which the reduced cost is not negative
pub empty_done : (net : NetworkState) (arc : ℕ) → flow_on net arc ≡ pos 0 → pos 0 ≤ℤ reduced_cost net arc → HasNoNegative net arc
empty_done net arc empty cost = record {
  ahead = λ room. cost;
  back = λ some. absurd (omega (arith, ints, some, empty));
}

-- nothing is changed
pub kept : (net : NetworkState) (arc : ℕ) → HasNoNegative net arc → Saturates arc net net
kept net arc done = record {
  network = refl;
  potentials = refl;
  others = λ k other. refl;
  done = done;
  changes = omega arith;
  kept = λ cost. refl;
  units = omega arith;
  whole = refl;
}

-- a push takes from one node what it brings to another
whole_pushed : (net : NetworkState) (arc : ℕ) (amount : ℤ) → IsNetwork net → arc < length (arcs_of net.network) → total (pushed net arc false amount).excesses ≡ total net.excesses
whole_pushed net arc amount is below =
    let ends = arc_numbered net.network arc in
    let valid = arc_valid net.network arc is.layout below in
    let taken = added net.excesses ends.tail (pos 0 -ℤ amount) in
    let long = length-set net.excesses ends.tail (value_of net.excesses ends.tail +ℤ (pos 0 -ℤ amount)) in
    let first = total-set net.excesses ends.tail (value_of net.excesses ends.tail +ℤ (pos 0 -ℤ amount)) (omega (arith, valid.tail, is.excess_each)) in
    let second = total-set taken ends.head (value_of taken ends.head +ℤ amount) (omega (arith, valid.head, is.excess_each, long)) in
    omega (arith, ints, first, second)

units_raised : (net : NetworkState) (arc amount : ℕ) → IsNetwork net → arc < length (arcs_of net.network) → excess_units (pushed net arc false (pos amount)) ≤ excess_units net + amount
units_raised net arc amount is below =
    let ends = arc_numbered net.network arc in
    let valid = arc_valid net.network arc is.layout below in
    let less = value_of net.excesses ends.tail +ℤ (pos 0 -ℤ pos amount) in
    let taken = set net.excesses ends.tail less in
    let long = length-set net.excesses ends.tail less in
    let same : less ≡ value_of net.excesses ends.tail -ℤ pos amount = omega (arith, ints) in
    let fewer = ap positive_size same in
    let first = sum_by-set positive_size net.excesses ends.tail less (pos 0) (omega (arith, valid.tail, is.excess_each)) in
    let second = sum_by-set positive_size taken ends.head (value_of taken ends.head +ℤ pos amount) (pos 0) (omega (arith, valid.head, is.excess_each, long)) in
    omega (arith, first, second, fewer, positive_less (value_of net.excesses ends.tail) amount, positive_more (value_of taken ends.head) amount)

units_filled : (net : NetworkState) (arc : ℕ) → IsNetwork net → arc < length (arcs_of net.network) → flow_on net arc ≡ pos 0 → excess_units (pushed net arc false (residual_of net arc false)) ≤ excess_units net + capacity_numbered net.network arc
units_filled net arc is below empty =
    let all : residual_of net arc false ≡ pos (capacity_numbered net.network arc) = omega (arith, ints, empty) in
    subst (λ (z : ℤ). excess_units (pushed net arc false z) ≤ excess_units net + capacity_numbered net.network arc) (sym all) (units_raised net arc (capacity_numbered net.network arc) is below)

-- an empty arc of negative reduced cost that is filled
pub filled : (net new : NetworkState) (arc : ℕ) → IsNetwork net → arc < length (arcs_of net.network) → flow_on net arc ≡ pos 0 → reduced_cost net arc <ℤ pos 0
    → new ≡ pushed net arc false (residual_of net arc false) → Saturates arc net new
filled net new arc is below empty negative push =
    let all = residual_of net arc false in
    let long = length-flows net is in
    let here : flow_on (pushed net arc false all) arc ≡ flow_on net arc +ℤ all = get_or-set_same net.flows arc (flow_on net arc +ℤ all) (pos 0) (omega (arith, long, below)) in
    subst (λ (state : NetworkState). Saturates arc net state) (sym push) (record {
      network = refl;
      potentials = refl;
      others = λ k other. get_or-set_other net.flows arc k (flow_on net arc +ℤ all) (pos 0) other;
      done = record {
        ahead = λ room. absurd (omega (arith, ints, room, here));
        back = λ some. omega (arith, ints, negative);
      };
      changes = omega arith;
      kept = λ cost. absurd (omega (arith, ints, cost, negative));
      units = units_filled net arc is below empty;
      whole = whole_pushed net arc all is below;
    })

-- ---- one arc after the other

pub no_negative_kept : (old new : NetworkState) (arc : ℕ) → new.network ≡ old.network → new.potentials ≡ old.potentials → flow_on new arc ≡ flow_on old arc → HasNoNegative old arc → HasNoNegative new arc
no_negative_kept old new arc network potentials flow done =
    let cost : reduced_cost new arc ≡ reduced_cost old arc = λ i. reduced_cost (record old { network = network i; potentials = potentials i }) arc in
    let capacity : capacity_numbered new.network arc ≡ capacity_numbered old.network arc = ap (λ n. capacity_numbered n arc) network in
    record {
      ahead = λ room. let before = done.ahead (omega (arith, ints, room, flow, capacity)) in omega (arith, ints, before, cost);
      back = λ some. let before = done.back (omega (arith, ints, some, flow)) in omega (arith, ints, before, cost);
    }

pub one_arc_more : (first old new : NetworkState) (arc : ℕ) → IsSaturated arc first old → Saturates arc old new → (get_or new.network.prices arc 1 ≡ 0 → pos 0 ≤ℤ reduced_cost old arc) → IsSaturated (arc + 1) first new
one_arc_more first old new arc so_far step free = record {
  network = step.network ∙ so_far.network;
  potentials = step.potentials ∙ so_far.potentials;
  done = λ k below. ⊎_elim
      (λ (e : k ≡ arc). subst (HasNoNegative new) (sym e) step.done)
      (λ (other : k ≢ arc). no_negative_kept old new k step.network step.potentials (step.others k other) (so_far.done k (omega arith)))
      (cases_eq k arc);
  rest = λ k above. step.others k (λ e. absurd (omega (arith, e, above))) ∙ so_far.rest k (omega arith);
  free = λ k none. ⊎_elim
      (λ (e : k ≡ arc).
      let same : new ≡ old = step.kept (free (ap (λ n. get_or new.network.prices n 1) (sym e) ∙ none)) in
      ap (λ (net : NetworkState). flow_on net k) same ∙ so_far.rest k (omega (arith, e)))
      (λ (other : k ≢ arc). step.others k other ∙ so_far.free k (ap (λ (n : FlowNetwork). get_or n.prices k 1) (sym step.network) ∙ none))
      (cases_eq k arc);
}

-- seen from where it was in between
pub rebased : (count : ℕ) (first net : NetworkState) → IsSaturated count first net → IsSaturated count net net
rebased count first net is = record { network = refl; potentials = refl; done = is.done; rest = is.rest; free = is.free }

pub based_on : (count more : ℕ) (first net new : NetworkState) → IsSaturated count first net → IsSaturated more net new → IsSaturated more first new
based_on count more first net new before after = record {
  network = after.network ∙ before.network;
  potentials = after.potentials ∙ before.potentials;
  done = after.done;
  rest = after.rest;
  free = after.free;
}

-- ---- bounds

pub cost_kept : (old new : NetworkState) (arc : ℕ) → new.network ≡ old.network → new.potentials ≡ old.potentials → reduced_cost new arc ≡ reduced_cost old arc
cost_kept old new arc network potentials = λ i. reduced_cost (record old { network = network i; potentials = potentials i }) arc

-- a bound without a price has no negative reduced cost
pub free_cost : (count : ℕ) (old net : NetworkState) (k : ℕ) → IsSaturated count old net → RespectsArcs old.potentials (bare_arcs old) → k < length old.network.bounds → get_or net.network.prices k 1 ≡ 0 → pos 0 ≤ℤ reduced_cost net k
free_cost count old net k so_far obeys below free =
    let bound = free_respects old old.potentials k obeys below (ap (λ (n : FlowNetwork). get_or n.prices k 1) (sym so_far.network) ∙ free) in
    let same = cost_kept old net k so_far.network so_far.potentials in
    let arc : arc_numbered old.network k ≡ get_or old.network.bounds k no_arc = get_or_append_left old.network.bounds (reading_arcs 1 old.network.values) no_arc k below in
    let here : RespectsArc old.potentials (arc_numbered old.network k) = subst (RespectsArc old.potentials) (sym arc) bound in
    omega (arith, ints, here, same)

-- how many changes there are after one bound more
pub bound_counted : (prices : List ℕ) (k old new : ℕ) → k < length prices → (get_or prices k 1 ≡ 0 → new ≡ old) → new ≤ old + 1
    → old ≤ count_by (λ price. not (eqb price 0)) (take k prices) → new ≤ count_by (λ price. not (eqb price 0)) (take (k + 1) prices)
bound_counted prices k old new below kept step so_far = ⊎_elim
    (λ (free : get_or prices k 1 ≡ 0).
    let test : not (eqb (get_or prices k 1) 0) ≡ false = ap not (eq-eqb (get_or prices k 1) 0 free) in
    omega (arith, count_by_more_no (λ price. not (eqb price 0)) prices k 1 below test, kept free, so_far))
    (λ (priced : get_or prices k 1 ≢ 0).
    let test : not (eqb (get_or prices k 1) 0) ≡ true = ap not (ne_eqb (get_or prices k 1) 0 priced) in
    omega (arith, count_by_more_yes (λ price. not (eqb price 0)) prices k 1 below test, step, so_far))
    (cases_eq (get_or prices k 1) 0)

-- ---- the two arcs of a reading

first_of_reading : (network : FlowNetwork) (r : ℕ) → r < length network.values → arc_numbered network (length network.bounds + 2 * r) ≡ record { tail = 0; head = 1 + r; cost = get_or network.values r (pos 0) }
first_of_reading network r below = get_or-append-add network.bounds (reading_arcs 1 network.values) (2 * r) no_arc ∙ arc_to_at 1 network.values r below

second_of_reading : (network : FlowNetwork) (r : ℕ) → r < length network.values → arc_numbered network (length network.bounds + 2 * r + 1) ≡ record { tail = 1 + r; head = 0; cost = pos 0 -ℤ get_or network.values r (pos 0) }
second_of_reading network r below =
    let on : length network.bounds + 2 * r + 1 ≡ length network.bounds + (2 * r + 1) = omega arith in
    ap (arc_numbered network) on ∙ get_or-append-add network.bounds (reading_arcs 1 network.values) (2 * r + 1) no_arc ∙ arc_from_at 1 network.values r below

pub opposite : (net : NetworkState) (r : ℕ) → r < length net.network.values → reduced_cost net (length net.network.bounds + 2 * r + 1) ≡ pos 0 -ℤ reduced_cost net (length net.network.bounds + 2 * r)
opposite net r below =
    let cost : Arc → ℤ = λ arc. arc.cost +ℤ (value_of net.potentials arc.tail -ℤ value_of net.potentials arc.head) in
    let first = ap cost (first_of_reading net.network r below) in
    let second = ap cost (second_of_reading net.network r below) in
    omega (arith, ints, first, second)

pub past_bounds : (net : NetworkState) (k : ℕ) → length net.network.prices ≤ k → get_or net.network.prices k 1 ≡ 0 → ⊥
past_bounds net k past free = absurd (omega (arith, get_or_past net.network.prices k 1 past, free))

-- the first arc of a reading is saturated, or may be, and then the second one
pub both_done : (net middle new : NetworkState) (first : ℕ) → length net.network.prices ≤ first → IsSaturated first net net → Saturates first net middle → Saturates (first + 1) middle new → IsSaturated (first + 2) net new
both_done net middle new first past so_far one two =
    let prices = ap (λ (n : FlowNetwork). length n.prices) one.network in
    let more = ap (λ (n : FlowNetwork). length n.prices) two.network in
    let half = one_arc_more net net middle first so_far one (λ free. absurd (past_bounds middle first (omega (arith, prices, past)) free)) in
    let whole = one_arc_more net middle new (first + 1) half two (λ free. absurd (past_bounds new (first + 1) (omega (arith, prices, more, past)) free)) in
    subst (λ count. IsSaturated count net new) (let e : first + 1 + 1 ≡ first + 2 = omega arith in e) whole

-- ---- all arcs

pub above_zero : (z : ℤ) → is_positive z ≡ true → pos 1 ≤ℤ z
above_zero (pos zero) test = absurd cc
above_zero (pos (suc n)) test = omega (arith, ints)
above_zero (negsuc n) test = absurd cc

pub zero_price : (unpriced price : ℕ) → price ≡ 0 → capacity_at_price unpriced price ≡ unpriced
zero_price unpriced zero free = refl
zero_price unpriced (suc price) free = absurd (omega (arith, free))

-- ---- the units that are saturated

pub priced_capacity : (unpriced price : ℕ) → price ≢ 0 → capacity_at_price unpriced price ≡ price
priced_capacity unpriced price some = ap (λ b. cond b unpriced price) (ne_eqb price 0 some)

-- one bound more: at most its price, and nothing where it has none
pub bound_units : (old net new : NetworkState) (k : ℕ) → IsNetwork old → net.network ≡ old.network → k < length old.network.bounds → Saturates k net new → (get_or old.network.prices k 1 ≡ 0 → new ≡ net)
    → excess_units net ≤ sum (take k old.network.prices) → excess_units new ≤ sum (take (k + 1) old.network.prices)
bound_units old net new k is same below step kept so_far =
    let prices = old.network.prices in
    let inside : k < length prices = omega (arith, below, is.layout.priced) in
    let more = sum_by_more (λ (x : ℕ). x) prices k 1 inside in
    let capacity = ap (λ (n : FlowNetwork). capacity_numbered n k) same ∙ capacity_of_bound old.network k inside in
    ⊎_elim
    (λ (free : get_or prices k 1 ≡ 0).
    let units = ap excess_units (kept free) in
    omega (arith, units, so_far, more))
    (λ (priced : get_or prices k 1 ≢ 0).
    let price = priced_capacity (unpriced_capacity old.network) (get_or prices k 1) priced in
    omega (arith, step.units, capacity, price, so_far, more))
    (cases_eq (get_or prices k 1) 0)

-- both arcs of a reading have its weight as capacity
pub weight_of : (network : FlowNetwork) (r : ℕ) → IsLayout network → capacity_numbered network (length network.bounds + 2 * r) ≡ get_or network.weights r 0
weight_of network r layout =
    let here : (length network.bounds + 2 * r - length network.prices) / 2 ≡ r = omega (arith, layout.priced) in
    capacity_of_reading network (length network.bounds + 2 * r) (omega (arith, layout.priced)) ∙ ap (λ k. get_or network.weights k 0) here

pub second_weight_of : (network : FlowNetwork) (r : ℕ) → IsLayout network → capacity_numbered network (length network.bounds + 2 * r + 1) ≡ get_or network.weights r 0
second_weight_of network r layout =
    let here : (length network.bounds + 2 * r + 1 - length network.prices) / 2 ≡ r = omega (arith, layout.priced) in
    capacity_of_reading network (length network.bounds + 2 * r + 1) (omega (arith, layout.priced)) ∙ ap (λ k. get_or network.weights k 0) here
