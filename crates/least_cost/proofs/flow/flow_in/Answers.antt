use Rattle.std.proofs.Common.{◌≡◌, ℕ, ◌+◌, ◌<◌, ◌≤◌, ◌++◌, [], ℤ, pos, List, length, get_or, take, sym, ap, ◌∙◌, rules, arith, w64, to_z, of_z}
use Rattle.std.proofs.lemmas.Int.{to_z-of_z}
use Rattle.std.proofs.lemmas.List.{length-map, length-take, get_or-take, take_all}
use Rattle.screen_model.specs.declared.bound.Bound.{Bound}
use Rattle.screen_model.specs.declared.bound.FlowItem.{FlowItem}
use Rattle.screen_model.specs.Obeys.{Priced, with_prices}
use Rattle.screen_model.specs.Names.{items_of, with_item}
use Rattle.screen_model.proofs.Prices.{keep}
use Rattle.flow_core.specs.State.{NetworkState, IsNetwork, flow_on, bound_flows}
use Rattle.flow_core.proofs.Sizes.{length-arcs_of, length-flows}
use Rattle.flow_core.proofs.Optimality.{no_bound}
use Rattle.least_cost.proofs.Items.{items_more}
use Rattle.least_cost.proofs.flow.flow_in.Goals as goal

length_bound_flows : (net : NetworkState) → IsNetwork net → length (bound_flows net) ≡ length net.network.bounds
length_bound_flows net is = omega (arith, length-take (length net.network.bounds) net.flows, length-flows net is, length-arcs_of net.network)

length_with_prices : (bounds : List Bound) (prices : List ℕ) → length (with_prices bounds prices) ≡ length bounds
length_with_prices bounds prices = sym (length-map (with_prices bounds prices) (λ (priced : Priced). priced.bound)) ∙ ap (λ (bs : List Bound). length bs) (keep bounds prices).0

one_more : (net : NetworkState) (bounds listed : List Bound) (prices : List ℕ) (items new : List FlowItem) (k : ℕ) (d : Bound) (flow : ℤ) → IsNetwork net → length bounds ≡ length net.network.bounds → listed ≡ bounds → k < length listed
    → items ≡ items_of (take k (with_prices bounds prices)) (take k (bound_flows net)) → flow ≡ flow_on net k → new ≡ items ++ with_item (get_or listed k d).name flow []
    → new ≡ items_of (take (k + 1) (with_prices bounds prices)) (take (k + 1) (bound_flows net))
one_more net bounds listed prices items new k d flow is long same below so_far flow_is added =
    let inside : k < length bounds = omega (arith, below, ap (λ (bs : List Bound). length bs) same) in
    let flow_there : get_or (bound_flows net) k (pos 0) ≡ flow_on net k = get_or-take (length net.network.bounds) net.flows k (pos 0) (omega arith) in
    added ∙ (λ i. so_far i ++ with_item (get_or (same i) k d).name ((flow_is ∙ sym flow_there) i) [])
    ∙ sym (items_more bounds prices (bound_flows net) k d inside (omega (arith, length_bound_flows net is)))

pub loop-number-preserved : goal.loop-number-preserved
loop-number-preserved c = record {
  bounds = c.loop-number.invariant.bounds;
  items = one_more c.args.net.now c.args.bounds.now c.as_slice-bound-items.result.now c.args.prices.now c.loop-number.items c.push_item.new.items c.loop-number.number no_bound.bound (to_z w64 (of_z w64 c.flow.result)) c.requires.network c.requires.bounds
      c.loop-number.invariant.bounds c.loop-number-test.true c.loop-number.invariant.items (to_z-of_z w64 c.flow.result (search rules) ∙ c.flow.ensures) c.in_ok-push_item.ensures;
}

all_items : (net : NetworkState) (bounds listed : List Bound) (prices : List ℕ) (k : ℕ) → IsNetwork net → length bounds ≡ length net.network.bounds → listed ≡ bounds → length listed ≤ k
    → items_of (take k (with_prices bounds prices)) (take k (bound_flows net)) ≡ items_of (with_prices bounds prices) (bound_flows net)
all_items net bounds listed prices k is long same over =
    let past : length bounds ≤ k = omega (arith, over, ap (λ (bs : List Bound). length bs) same) in
    λ i. items_of (take_all k (with_prices bounds prices) (omega (arith, past, length_with_prices bounds prices)) i) (take_all k (bound_flows net) (omega (arith, past, length_bound_flows net is)) i)

pub returns : goal.returns
returns c = c.loop-number.invariant.items ∙ all_items c.args.net.now c.args.bounds.now c.as_slice-bound-items.result.now c.args.prices.now c.loop-number.number c.requires.network c.requires.bounds c.loop-number.invariant.bounds c.loop-number-test.false
