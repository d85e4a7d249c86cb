use Rattle.std.proofs.Common.{◌<◌, w64, length, sum_by, ap, ◌∙◌, arith}
use Rattle.std.proofs.lemmas.Int.{to_z-of_z}
use Rattle.std.proofs.lemmas.List.{take_all}
use Rattle.path_flow.specs.Flow.{positive_size}
use Rattle.path_flow.proofs.Weighing.{excess_more, excess_within, most_small}
use Rattle.path_flow.proofs.units.excess_units.Goals as goal

pub overflow_add-units : goal.overflow_add-units
overflow_add-units c =
    let net = c.args.net.now in
    let size = c.positive_size-units.ensures ∙ ap positive_size (to_z-of_z w64 c.excess.result (record { sfits = c.excess.type_inv }) ∙ c.excess.ensures) in
    let small = most_small net.network c.requires.network.layout in
    let below : c.loop-node.node < length net.excesses = omega (arith, c.requires.network.excess_each, c.loop-node-test.true, c.nodes-node-end.ensures.count) in
    let within = excess_within net.excesses c.loop-node.node 4400000000 below (omega (arith, small, c.requires.few)) in
    record { fits = omega (arith, within, c.loop-node.invariant, size) }

pub loop-node-preserved : goal.loop-node-preserved
loop-node-preserved c =
    let net = c.args.net.now in
    let size = c.positive_size-units.ensures ∙ ap positive_size (to_z-of_z w64 c.excess.result (record { sfits = c.excess.type_inv }) ∙ c.excess.ensures) in
    let below : c.loop-node.node < length net.excesses = omega (arith, c.requires.network.excess_each, c.loop-node-test.true, c.nodes-node-end.ensures.count) in
    excess_more net.excesses c.loop-node.node c.loop-node.units c.positive_size-units.result below c.loop-node.invariant size

pub returns : goal.returns
returns c =
    let net = c.args.net.now in
    c.loop-node.invariant ∙ ap (sum_by positive_size) (take_all c.loop-node.node net.excesses (omega (arith, c.requires.network.excess_each, c.loop-node-test.false, c.nodes-node-end.ensures.count)))
