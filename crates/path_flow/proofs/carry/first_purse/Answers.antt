use Rattle.std.proofs.Common.{◌≡◌, ◌≤◌, ◌+◌, ◌-◌, ◌*◌, length, sym, subst, arith}
use Rattle.std.proofs.Math.Nat.{mul-le-mul_left}
use Rattle.path_flow.specs.Flow.{most_units}
use Rattle.path_flow.proofs.Weighing.{most_small}
use Rattle.path_flow.proofs.Carrying.{paths_for}
use Rattle.path_flow.proofs.carry.first_purse.Goals as goal

pub overflow_mul-result : goal.overflow_mul-result
overflow_mul-result c =
    let net = c.args.net.now in
    let limit = c.most_units.result - c.excess_units-need.result in
    let few : c.from.result ≤ 400000 = omega (arith, c.from.ensures, c.nodes.ensures.count, c.requires.network.layout.few_readings) in
    let more = mul-le-mul_left limit few in
    record { fits = omega (arith, more, c.most_units.ensures, most_small net.network c.requires.network.layout) }

pub returns-clause-pool : goal.returns-clause-pool
returns-clause-pool c =
    let net = c.args.net.now in
    let limit = c.most_units.result - c.excess_units-need.result in
    let readings = length net.network.values in
    let count : c.from.result ≡ readings = omega (arith, c.from.ensures, c.nodes.ensures.count) in
    let all = paths_for readings (most_units net.network) limit c.excess_units-need.result (omega (arith, c.most_units.ensures, c.excess_units-need.ensures, c.requires.units)) in
    subst (λ k. limit * k + readings * c.excess_units-need.result ≡ readings * most_units net.network) (sym count) all
