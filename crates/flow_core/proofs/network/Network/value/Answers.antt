use Rattle.std.proofs.Common.{◌≡◌, ℕ, ◌+◌, ◌<◌, ℤ, pos, ◌-ℤ◌, ◌*ℤ◌, List, length, take, get_or, ap, ◌∙◌, subst, rules, arith, w64, of_z, to_z}
use Rattle.std.specs.Prelude.{FitsSigned}
use Rattle.std.proofs.lemmas.Int.{to_z-of_z, fits_signed_from_abs}
use Rattle.words.specs.Lists.{inner_product}
use Rattle.words.proofs.Products.{size_of_minus}
use Rattle.bound_graph.specs.declared.arc.Arc.{Arc}
use Rattle.flow_core.specs.Layout.{arc_numbered}
use Rattle.flow_core.specs.State.{NetworkState, IsNetwork, flow_on}
use Rattle.flow_core.proofs.Sizes.{few_arcs, arc_valid, length-flows, flow_small, costs_of, costs_so_far_small, cost_of_one_more}
use Rattle.flow_core.proofs.network.Network.value.Goals as goal
use mir.Syntax.{w128}

flow_read : (net : NetworkState) (flows : List ℤ) (k : ℕ) → IsNetwork net → flows ≡ net.flows → k < length net.flows → to_z w64 (of_z w64 (get_or flows k (pos 0))) ≡ flow_on net k
flow_read net flows k is same below =
    let small = flow_small net k is (omega (arith, length-flows net is)) in
    ap (λ (fs : List ℤ). to_z w64 (of_z w64 (get_or fs k (pos 0)))) same ∙ to_z-of_z w64 (flow_on net k) (fits_signed_from_abs w64 (flow_on net k) (omega (arith, small)))

cost_read : (net : NetworkState) (arc : Arc) (k : ℕ) → IsNetwork net → arc ≡ arc_numbered net.network k → k < length net.flows → to_z w64 (of_z w64 arc.cost) ≡ (arc_numbered net.network k).cost
cost_read net arc k is same below =
    let valid = arc_valid net.network k is.layout (omega (arith, length-flows net is)) in
    let cost = (arc_numbered net.network k).cost in
    ap (λ (a : Arc). to_z w64 (of_z w64 a.cost)) same ∙ to_z-of_z w64 cost (fits_signed_from_abs w64 cost (omega (arith, valid.cost)))

one_more : (net : NetworkState) (flows : List ℤ) (arc : Arc) (k : ℕ) (product before : ℤ) → IsNetwork net → flows ≡ net.flows → arc ≡ arc_numbered net.network k → k < length net.flows
    → FitsSigned w128 product → product ≡ to_z w64 (of_z w64 (get_or flows k (pos 0))) *ℤ to_z w64 (of_z w64 arc.cost)
    → before ≡ pos 0 -ℤ inner_product (take k net.flows) (costs_of net.network)
    → before -ℤ to_z w128 (of_z w128 product) ≡ pos 0 -ℤ inner_product (take (k + 1) net.flows) (costs_of net.network)
one_more net flows arc k product before is same arc_is below fits product_is before_is =
    let flow = flow_read net flows k is same below in
    let cost = cost_read net arc k is arc_is below in
    let both : to_z w128 (of_z w128 product) ≡ flow_on net k *ℤ (arc_numbered net.network k).cost = to_z-of_z w128 product fits ∙ product_is ∙ (λ i. flow i *ℤ cost i) in
    (λ i. before_is i -ℤ both i) ∙ cost_of_one_more net k (flow_on net k) (arc_numbered net.network k).cost is below (λ i. flow_on net k) (λ i. (arc_numbered net.network k).cost)

sum_fits : (net : NetworkState) (k : ℕ) → IsNetwork net → FitsSigned w128 (pos 0 -ℤ inner_product (take k net.flows) (costs_of net.network))
sum_fits net k is =
    let sum = inner_product (take k net.flows) (costs_of net.network) in
    fits_signed_from_abs w128 (pos 0 -ℤ sum) (omega (arith, size_of_minus sum, costs_so_far_small net k is))

pub overflow_cast-arc : goal.overflow_cast-arc
overflow_cast-arc c =
    let is : IsNetwork c.args.self.now = subst IsNetwork c.self.view_is c.self.invariant.network in
    let few = few_arcs c.args.self.now.network is.layout in
    let long = length-flows c.args.self.now is in
    let same = ap (λ (flows : List ℤ). length flows) c.loop-arc.invariant.items in
    omega arith

pub arc-requires : goal.arc-requires
arc-requires c =
    let is : IsNetwork c.args.self.now = subst IsNetwork c.self.view_is c.self.invariant.network in
    let long = length-flows c.args.self.now is in
    let same = ap (λ (flows : List ℤ). length flows) c.loop-arc.invariant.items in
    omega arith

pub overflow_sub-value : goal.overflow_sub-value
overflow_sub-value c =
    let is : IsNetwork c.args.self.now = subst IsNetwork c.self.view_is c.self.invariant.network in
    let below : c.loop-arc.arc < length c.args.self.now.flows = omega (arith, ap (λ (flows : List ℤ). length flows) c.loop-arc.invariant.items) in
    let fits : FitsSigned w128 c.product-value.result = search rules in
    let more = one_more c.args.self.now c.deref-flow-items.result.now c.arc.result c.loop-arc.arc c.product-value.result _ is c.loop-arc.invariant.items c.arc.ensures below fits c.product-value.ensures c.loop-arc.invariant.value in
    rw more (sum_fits c.args.self.now (c.loop-arc.arc + 1) is)

pub loop-arc-preserved : goal.loop-arc-preserved
loop-arc-preserved c =
    let is : IsNetwork c.args.self.now = subst IsNetwork c.self.view_is c.self.invariant.network in
    let below : c.loop-arc.arc < length c.args.self.now.flows = omega (arith, ap (λ (flows : List ℤ). length flows) c.loop-arc.invariant.items) in
    let fits : FitsSigned w128 c.product-value.result = search rules in
    let more = one_more c.args.self.now c.deref-flow-items.result.now c.arc.result c.loop-arc.arc c.product-value.result _ is c.loop-arc.invariant.items c.arc.ensures below fits c.product-value.ensures c.loop-arc.invariant.value in
    record {
      items = c.loop-arc.invariant.items;
      value = ap (λ z. to_z w128 (of_z w128 z)) more ∙ to_z-of_z w128 _ (sum_fits c.args.self.now (c.loop-arc.arc + 1) is);
    }
