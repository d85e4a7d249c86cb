use Rattle.std.proofs.Common.{◌≡◌, ◌+◌, ◌*◌, ◌++◌, ℕ, ℤ, pos, List, length, replicate, ap, ◌∙◌, subst, rules, arith, w64, of_z, to_z}
use Rattle.std.specs.Prelude.{FitsSigned}
use Rattle.std.specs.List.{AllByRecursion}
use Rattle.std.proofs.lemmas.Int.{to_z-of_z}
use Rattle.std.proofs.lemmas.List.{length-map}
use Rattle.bound_graph.specs.Arcs.{IsArc}
use Rattle.bound_graph.specs.Graph.{Digraph, arc_of_bound, arcs_of_bounds}
use Rattle.bound_graph.specs.Reverses.{with_reverses}
use Rattle.flow_core.specs.Layout.{IsLayout, nodes_of, arcs_of, reading_arcs, unpriced_capacity}
use Rattle.flow_core.specs.State.{new_state}
use Rattle.flow_core.proofs.Sizes.{arcs_valid, few_arcs, weights_small, prices_small, length-arcs_of}
use Rattle.flow_core.proofs.Building.{IsMade, network_by, layout_of, network_of_problem, made_state, made_stored}
use Rattle.flow_core.proofs.network.Network.new.Goals as goal

pub from_arcs_both_ways-requires-clause-valid : goal.from_arcs_both_ways-requires-clause-valid
from_arcs_both_ways-requires-clause-valid c =
    let network = network_by c.args.places.now c.args.bounds.now c.args.prices.now c.args.values.now c.args.weights.now in
    let layout : IsLayout network = layout_of c.args.places.now c.args.bounds.now c.args.prices.now c.args.values.now c.args.weights.now c.requires.distinct c.requires.valued c.requires.weighted c.requires.priced c.requires.few_readings c.requires.few_bounds c.requires.ends c.requires.ranged c.requires.values c.requires.weights c.requires.prices c.requires.limits in
    let nodes : nodes_of network ≡ c.len-nodes.result + 1 = omega (arith, c.len-nodes.ensures, c.requires.valued) in
    let arcs = c.in_ok-arcs.ensures ∙ ap (λ (values : List ℤ). arcs_of_bounds c.args.places.now c.args.bounds.now ++ reading_arcs 1 values) c.as_slice.ensures in
    rw arcs (subst (λ n. AllByRecursion (IsArc n) (arcs_of network)) nodes (arcs_valid network layout))

pub from_arcs_both_ways-requires-clause-few : goal.from_arcs_both_ways-requires-clause-few
from_arcs_both_ways-requires-clause-few c =
    let network = network_by c.args.places.now c.args.bounds.now c.args.prices.now c.args.values.now c.args.weights.now in
    let layout : IsLayout network = layout_of c.args.places.now c.args.bounds.now c.args.prices.now c.args.values.now c.args.weights.now c.requires.distinct c.requires.valued c.requires.weighted c.requires.priced c.requires.few_readings c.requires.few_bounds c.requires.ends c.requires.ranged c.requires.values c.requires.weights c.requires.prices c.requires.limits in
    let arcs = c.in_ok-arcs.ensures ∙ ap (λ (values : List ℤ). arcs_of_bounds c.args.places.now c.args.bounds.now ++ reading_arcs 1 values) c.as_slice.ensures in
    rw arcs (omega (arith, few_arcs network layout))

pub unpriced_capacity-requires-clause-weights : goal.unpriced_capacity-requires-clause-weights
unpriced_capacity-requires-clause-weights c =
    let network = network_by c.args.places.now c.args.bounds.now c.args.prices.now c.args.values.now c.args.weights.now in
    let layout : IsLayout network = layout_of c.args.places.now c.args.bounds.now c.args.prices.now c.args.values.now c.args.weights.now c.requires.distinct c.requires.valued c.requires.weighted c.requires.priced c.requires.few_readings c.requires.few_bounds c.requires.ends c.requires.ranged c.requires.values c.requires.weights c.requires.prices c.requires.limits in
    omega (arith, weights_small network layout)

pub unpriced_capacity-requires-clause-prices : goal.unpriced_capacity-requires-clause-prices
unpriced_capacity-requires-clause-prices c =
    let network = network_by c.args.places.now c.args.bounds.now c.args.prices.now c.args.values.now c.args.weights.now in
    let layout : IsLayout network = layout_of c.args.places.now c.args.bounds.now c.args.prices.now c.args.values.now c.args.weights.now c.requires.distinct c.requires.valued c.requires.weighted c.requires.priced c.requires.few_readings c.requires.few_bounds c.requires.ends c.requires.ranged c.requires.values c.requires.weights c.requires.prices c.requires.limits in
    omega (arith, prices_small network layout)

pub invariant_of-result : goal.invariant_of-result
invariant_of-result c =
    let network = network_by c.args.places.now c.args.bounds.now c.args.prices.now c.args.values.now c.args.weights.now in
    let layout : IsLayout network = layout_of c.args.places.now c.args.bounds.now c.args.prices.now c.args.values.now c.args.weights.now c.requires.distinct c.requires.valued c.requires.weighted c.requires.priced c.requires.few_readings c.requires.few_bounds c.requires.ends c.requires.ranged c.requires.values c.requires.weights c.requires.prices c.requires.limits in
    let nodes : c.len-nodes.result + 1 ≡ nodes_of network = omega (arith, c.len-nodes.ensures, c.requires.valued) in
    let arcs = c.in_ok-arcs.ensures ∙ ap (λ (values : List ℤ). arcs_of_bounds c.args.places.now c.args.bounds.now ++ reading_arcs 1 values) c.as_slice.ensures in
    let count : c.len.result + 2 * c.len-2.result ≡ length (arcs_of network) =
    omega (arith, c.len.ensures, c.len-2.ensures, c.requires.valued, length-arcs_of network, length-map c.args.bounds.now (arc_of_bound c.args.places.now)) in
    let zeroes : (n : ℕ) → List ℤ = λ n. replicate n (pos 0) in
    let flows : c.in_ok-flows.flows.items ≡ zeroes (c.len.result + 2 * c.len-2.result) = search rules in
    let excesses : c.in_ok-excesses.excesses.items ≡ zeroes (c.len-nodes.result + 1) = search rules in
    let potentials : c.in_ok-potentials.potentials.items ≡ zeroes (c.len-nodes.result + 1) = search rules in
    let graph = c.in_ok-from_arcs_both_ways.field-0 in
    let made : IsMade network graph.arcs graph.nodes c.in_ok-prices_kept.prices_kept c.in_ok-weights_kept.weights_kept.items c.in_ok-flows.flows.items c.in_ok-excesses.excesses.items c.in_ok-potentials.potentials.items = record {
      layout = layout;
      arcs_are = ap (λ (g : Digraph). g.arcs) c.in_ok-from_arcs_both_ways.ensures ∙ ap with_reverses arcs;
      nodes_are = ap (λ (g : Digraph). g.nodes) c.in_ok-from_arcs_both_ways.ensures ∙ nodes;
      prices_are = c.in_ok-prices_kept.ensures;
      weights_are = c.in_ok-weights_kept.ensures.items;
      flows_are = flows ∙ ap zeroes count;
      excesses_are = excesses ∙ ap zeroes nodes;
      potentials_are = potentials ∙ ap zeroes nodes;
    } in
    let fits : FitsSigned w64 c.unpriced_capacity.result = search rules in
    let capacity : to_z w64 (of_z w64 c.unpriced_capacity.result) ≡ pos (unpriced_capacity network) = to_z-of_z w64 c.unpriced_capacity.result fits ∙ c.unpriced_capacity.ensures in
    made_stored network graph.arcs graph.nodes c.in_ok-prices_kept.prices_kept c.in_ok-weights_kept.weights_kept.items c.in_ok-flows.flows.items c.in_ok-excesses.excesses.items c.in_ok-potentials.potentials.items _ made capacity

pub returns : goal.returns
returns c =
    let network = network_by c.args.places.now c.args.bounds.now c.args.prices.now c.args.values.now c.args.weights.now in
    let layout : IsLayout network = layout_of c.args.places.now c.args.bounds.now c.args.prices.now c.args.values.now c.args.weights.now c.requires.distinct c.requires.valued c.requires.weighted c.requires.priced c.requires.few_readings c.requires.few_bounds c.requires.ends c.requires.ranged c.requires.values c.requires.weights c.requires.prices c.requires.limits in
    let nodes : c.len-nodes.result + 1 ≡ nodes_of network = omega (arith, c.len-nodes.ensures, c.requires.valued) in
    let arcs = c.in_ok-arcs.ensures ∙ ap (λ (values : List ℤ). arcs_of_bounds c.args.places.now c.args.bounds.now ++ reading_arcs 1 values) c.as_slice.ensures in
    let count : c.len.result + 2 * c.len-2.result ≡ length (arcs_of network) =
    omega (arith, c.len.ensures, c.len-2.ensures, c.requires.valued, length-arcs_of network, length-map c.args.bounds.now (arc_of_bound c.args.places.now)) in
    let zeroes : (n : ℕ) → List ℤ = λ n. replicate n (pos 0) in
    let flows : c.in_ok-flows.flows.items ≡ zeroes (c.len.result + 2 * c.len-2.result) = search rules in
    let excesses : c.in_ok-excesses.excesses.items ≡ zeroes (c.len-nodes.result + 1) = search rules in
    let potentials : c.in_ok-potentials.potentials.items ≡ zeroes (c.len-nodes.result + 1) = search rules in
    let graph = c.in_ok-from_arcs_both_ways.field-0 in
    let made : IsMade network graph.arcs graph.nodes c.in_ok-prices_kept.prices_kept c.in_ok-weights_kept.weights_kept.items c.in_ok-flows.flows.items c.in_ok-excesses.excesses.items c.in_ok-potentials.potentials.items = record {
      layout = layout;
      arcs_are = ap (λ (g : Digraph). g.arcs) c.in_ok-from_arcs_both_ways.ensures ∙ ap with_reverses arcs;
      nodes_are = ap (λ (g : Digraph). g.nodes) c.in_ok-from_arcs_both_ways.ensures ∙ nodes;
      prices_are = c.in_ok-prices_kept.ensures;
      weights_are = c.in_ok-weights_kept.ensures.items;
      flows_are = flows ∙ ap zeroes count;
      excesses_are = excesses ∙ ap zeroes nodes;
      potentials_are = potentials ∙ ap zeroes nodes;
    } in
    made_state network graph.arcs graph.nodes c.in_ok-prices_kept.prices_kept c.in_ok-weights_kept.weights_kept.items c.in_ok-flows.flows.items c.in_ok-excesses.excesses.items c.in_ok-potentials.potentials.items made
    ∙ ap new_state (network_of_problem c.args.places.now c.args.bounds.now c.args.prices.now c.args.values.now c.args.weights.now c.requires.priced)
