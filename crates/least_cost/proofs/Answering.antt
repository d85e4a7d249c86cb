-- The answers to a problem.
use Rattle.std.proofs.Common.{◌≡◌, ℕ, ◌^◌, ◌<◌, ◌≤◌, ℤ, pos, ◌-ℤ◌, ◌≤ℤ◌, List, [], ◌∷◌, length, map, take, Option, IfSome, refl, sym, ap, ◌∙◌, subst, arith}
use Rattle.std.specs.Prelude.{unsigned_abs}
use Rattle.std.specs.List.{AllByRecursion, AllZip}
use Rattle.std.proofs.lemmas.Int.{ints}
use Rattle.std.proofs.lemmas.List.{length-map, length-take, take_all}
use Rattle.words.specs.Lists.{Distinct, IsPart, inner_product}
use Rattle.words.proofs.Products.{size_of_minus}
use Rattle.words.proofs.Lists.{all_from_map}
use Rattle.screen_model.specs.declared.place.Place.{Place}
use Rattle.screen_model.specs.declared.bound.Bound.{Bound}
use Rattle.screen_model.specs.declared.bound.BoundName.{BoundName}
use Rattle.screen_model.specs.declared.bound.FlowItem.{FlowItem}
use Rattle.screen_model.specs.Obeys.{Priced, HasEnds, with_prices}
use Rattle.screen_model.specs.Cost.{Problem, IsProblem, change, paid, cost}
use Rattle.screen_model.specs.Flow.{CanCarry}
use Rattle.screen_model.specs.Names.{names_of, AreNamesIn, bounds_named, items_of, amounts_of, IsFlowOver}
use Rattle.screen_model.specs.Best.{IsBest, IsBlocked}
use Rattle.screen_model.proofs.Prices.{keep}
use Rattle.screen_model.proofs.Items.{tell as items_tell}
use Rattle.screen_model.proofs.Names.{tell as names_tell}
use Rattle.screen_model.proofs.Cycles.{forbids}
use Rattle.bound_graph.specs.Cycle.{IsNegativeCycle}
use Rattle.bound_graph.specs.Graph.{arc_of_bound}
use Rattle.flow_core.specs.declared.limits.TheConstants.{MOST_VALUE}
use Rattle.flow_core.specs.Layout.{FlowNetwork, network_of, arcs_of, capacities_of, unpriced_capacity, capacity_at_price}
use Rattle.flow_core.specs.State.{NetworkState, IsNetwork, IsWithin, bound_flows, value}
use Rattle.flow_core.specs.Solving.{by_size, AreAtMost}
use Rattle.flow_core.specs.Views.{bare_arcs}
use Rattle.flow_core.specs.Laws.{IsNetworkOf}
use Rattle.flow_core.proofs.Blocked.{blocked}
use Rattle.flow_core.proofs.Duals.{split}
use Rattle.flow_core.proofs.Sizes.{length-flows, length-arcs_of, costs_of, costs_so_far_small}
use Rattle.least_cost.specs.declared.problem.Problem.{Problem as Lists}
use Rattle.least_cost.specs.Answer.{IsRepaired, IsWithoutSeries, AreChanges}
use Rattle.least_cost.specs.Cycle.{names_on}
use Rattle.least_cost.specs.Problems.{stated, IsSolvable}
use Rattle.least_cost.proofs.Cycles.{names_are}
use Rattle.least_cost.proofs.Greatest.{IsFound}
use Rattle.least_cost.proofs.Sizes.{cost_below}
use Rattle.least_cost.proofs.Items.{items_in_order, items_within, count_items, count_front}

-- ---- the network of a problem that can be solved

priced_ends : (places : List Place) (bounds : List Bound) (prices : List ℕ) → AllByRecursion (HasEnds places) bounds → AllByRecursion (λ priced. HasEnds places priced.bound) (with_prices bounds prices)
priced_ends places bounds prices ends =
    all_from_map (HasEnds places) (λ (priced : Priced). priced.bound) (with_prices bounds prices) (subst (AllByRecursion (HasEnds places)) (sym (keep bounds prices).0) ends)

pub is_sound : (lists : Lists) → IsSolvable lists → IsProblem (stated lists)
is_sound lists is = record { distinct = is.distinct; valued = is.valued; weighted = is.weighted }

pub network_stands : (lists : Lists) (net : NetworkState) → IsSolvable lists → IsNetwork net → net.network ≡ network_of (stated lists) → IsNetworkOf (stated lists) net
network_stands lists net is network same = record {
  sound = is_sound lists is;
  ends = priced_ends lists.places.now lists.bounds.now lists.prices.now is.ends;
  network = network;
  same = same;
}

names_same : (lists : Lists) → names_of (stated lists).bounds ≡ map (λ bound. bound.name) lists.bounds.now
names_same lists = (keep lists.bounds.now lists.prices.now).1.0

distinct_names : (lists : Lists) → IsSolvable lists → Distinct (names_of (stated lists).bounds)
distinct_names lists is = subst (λ (names : List BoundName). Distinct names) (sym (names_same lists)) is.named

-- ---- no series obeys

pub without_series : (lists : Lists) (net : NetworkState) (numbers : List ℕ) (names : List BoundName) → IsSolvable lists → IsNetworkOf (stated lists) net → IsNegativeCycle (bare_arcs net) numbers → names ≡ names_on lists.bounds.now numbers → IsWithoutSeries (stated lists) names
without_series lists net numbers names is network negative named =
    let problem = stated lists in
    let found = blocked problem net numbers network negative in
    let cycle = found.0 in
    let same : names ≡ names_of cycle = named ∙ names_are lists.bounds.now lists.prices.now numbers cycle found.1 in
    let told = names_tell problem.bounds cycle (distinct_names lists is) found.2.members in
    record {
      blocked = record {
        named = subst (λ (ns : List BoundName). AreNamesIn problem.bounds ns) (sym same) told.0;
        blocked = subst (λ (ring : List Priced). IsBlocked problem.bounds ring) (sym (ap (λ (ns : List BoundName). bounds_named ns problem.bounds) same ∙ told.1)) found.2;
      };
      none = λ series obeying. forbids problem.places problem.bounds cycle series found.2 obeying.obeys;
    }

-- ---- a repair

carried_some : (bounds : List Priced) (flow : List ℤ) → AllZip CanCarry bounds flow → AllZip (λ priced amount. pos 0 ≤ℤ amount) bounds flow
carried_some [] [] all = tt
carried_some [] (amount ∷ flow) all = absurd all
carried_some (priced ∷ bounds) [] all = absurd all
carried_some (priced ∷ bounds) (amount ∷ flow) all = (all.0.0, carried_some bounds flow all.1)

pub bounds_of_network : (lists : Lists) → length (network_of (stated lists)).bounds ≡ length (stated lists).bounds
bounds_of_network lists =
    let bounds = (stated lists).bounds in
    length-map (map (λ (p : Priced). p.bound) bounds) (arc_of_bound lists.places.now) ∙ length-map bounds (λ (p : Priced). p.bound)

flows_same : (problem : Problem) (net : NetworkState) → net.network ≡ network_of problem → take (length (network_of problem).bounds) net.flows ≡ bound_flows net
flows_same problem net same = λ i. take (length (sym same i).bounds) net.flows

pub is_repaired : (lists : Lists) (net : NetworkState) (series : List ℤ) (items : List FlowItem) (total_paid broken_paid : ℤ) → IsSolvable lists → IsNetworkOf (stated lists) net → IsFound (stated lists) net series → AllByRecursion (λ value. unsigned_abs value ≤ MOST_VALUE) series
    → items ≡ items_of (stated lists).bounds (bound_flows net) → total_paid ≡ value net → broken_paid ≡ pos (paid (stated lists) series) → IsRepaired (stated lists) series items total_paid broken_paid
is_repaired lists net series items total_paid broken_paid is network found low listed totalled breaking =
    let problem = stated lists in
    let flow = bound_flows net in
    let best = found.best in
    let told = items_tell problem.bounds flow (distinct_names lists is) (carried_some problem.bounds flow best.admissible.amounts) in
    let long : length net.flows ≡ length (arcs_of (network_of problem)) = length-flows net network.network ∙ ap (λ (n : FlowNetwork). length (arcs_of n)) network.same in
    let within = subst (λ (n : FlowNetwork). AllZip IsWithin (capacities_of n) net.flows) network.same network.network.flows in
    let priced : length (network_of problem).prices ≡ length (network_of problem).bounds = subst (λ (n : FlowNetwork). length n.prices ≡ length n.bounds) network.same network.network.layout.priced in
    let parts = split problem net.flows priced long within in
    let bounds_within = subst (λ (f : List ℤ). AllZip IsWithin (map (capacity_at_price (unpriced_capacity (network_of problem))) (network_of problem).prices) f) (flows_same problem net network.same) parts.bounds_within in
    let count : length flow ≡ length problem.bounds = omega (arith, ap (λ (f : List ℤ). length f) (sym (flows_same problem net network.same)), length-take (length (network_of problem).bounds) net.flows, long, length-arcs_of (network_of problem), bounds_of_network lists) in
    record {
      repair = found.repair;
      best = record {
        over = subst (λ (its : List FlowItem). IsFlowOver problem.bounds its) (sym listed) told.0;
        best = subst (IsBest problem series) (sym (ap (λ (its : List FlowItem). amounts_of its problem.bounds) listed ∙ told.1)) best;
      };
      total = totalled ∙ found.valued;
      paid = breaking;
      in_order = subst (λ (its : List FlowItem). IsPart (map (λ item. item.name) its) (names_of problem.bounds)) (sym listed) (items_in_order problem.bounds flow count);
      amounts = subst (λ (its : List FlowItem). AllByRecursion (λ item. item.amount ≤ℤ pos (unpriced_capacity (network_of problem))) its) (sym listed)
          (items_within problem.bounds flow (unpriced_capacity (network_of problem)) (omega arith) bounds_within);
      small_values = low;
      small_total = subst (λ (z : ℤ). unsigned_abs z < 10 ^ 27) (sym (totalled ∙ found.valued)) (cost_below problem series lists.bounds.now lists.prices.now refl (omega (arith, is.weighted, is.few_readings)) is.few_bounds
          is.small_weights is.small_values low is.small_limits is.small_prices);
    }

pub are_changes : (lists : Lists) (net : NetworkState) (items : List FlowItem) (most : ℕ → ℕ → ℕ → ℕ → Option ℕ) (changes : ℕ) → IsNetworkOf (stated lists) net → items ≡ items_of (stated lists).bounds (bound_flows net)
    → changes ≡ net.changes → AreAtMost most net → AreChanges (stated lists) most net.changes items changes
are_changes lists net items most changes network listed counted few =
    let problem = stated lists in
    let is = network.network in
    let some = ap (λ (its : List FlowItem). length its) listed in
    record {
      counted = counted;
      enough = omega (arith, some, count_items problem.bounds (bound_flows net), count_front net.flows (length net.network.bounds), is.changes, counted);
      few = subst (λ (n : ℕ). IfSome (by_size most (network_of problem)) (λ bound. n ≤ bound)) (sym counted)
          (subst (λ (n : FlowNetwork). IfSome (by_size most n) (λ bound. net.changes ≤ bound)) network.same few);
    }

-- what is paid is what the series costs less its change
pub paid_is : (problem : Problem) (series : List ℤ) (all_paid changed : ℤ) → all_paid ≡ pos (cost problem series) → changed ≡ pos (change problem series) → all_paid -ℤ changed ≡ pos (paid problem series)
paid_is problem series all_paid changed totalled change_is = omega (arith, ints, totalled, change_is)

pub length_priced : (lists : Lists) → length (stated lists).bounds ≡ length lists.bounds.now
length_priced lists = sym (length-map (stated lists).bounds (λ (priced : Priced). priced.bound)) ∙ ap (λ (bs : List Bound). length bs) (keep lists.bounds.now lists.prices.now).0

pub cost_small : (problem : Problem) (net : NetworkState) (series : List ℤ) → IsNetwork net → value net ≡ pos (cost problem series) → cost problem series ≤ 10 ^ 32
cost_small problem net series is valued =
    let sum = inner_product net.flows (costs_of net.network) in
    let all : take (length net.flows) net.flows ≡ net.flows = take_all (length net.flows) net.flows (omega arith) in
    let small : unsigned_abs sum ≤ 10 ^ 32 = subst (λ (f : List ℤ). unsigned_abs (inner_product f (costs_of net.network)) ≤ 10 ^ 32) all (costs_so_far_small net (length net.flows) is) in
    let size : unsigned_abs (value net) ≤ 10 ^ 32 = omega (arith, size_of_minus sum, small) in
    subst (λ (z : ℤ). unsigned_abs z ≤ 10 ^ 32) valued size
