use Rattle.std.proofs.Common.{length, ap, arith}
use Rattle.flow_core.specs.Layout.{arcs_of}
use Rattle.flow_core.specs.State.{NetworkState}
use Rattle.flow_core.proofs.Sizes.{few_arcs, length-flows}
use Rattle.flow_core.proofs.network.Network.arcs.Goals as goal

pub overflow_cast-result : goal.overflow_cast-result
overflow_cast-result c =
    let long = length-flows _ c.self.invariant.network in
    let few = few_arcs _ c.self.invariant.network.layout in
    omega arith

pub returns : goal.returns
returns c =
    let long = length-flows _ c.self.invariant.network in
    let same = ap (λ (net : NetworkState). length (arcs_of net.network)) c.self.view_is in
    omega arith
