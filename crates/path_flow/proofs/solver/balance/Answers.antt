use Rattle.std.proofs.Common.{◌≡◌, ◌+◌, ◌*◌, to_z, of_z, w64, length, sym, ap, ◌∙◌, subst, arith}
use Rattle.std.proofs.lemmas.Int.{to_z-of_z}
use Rattle.flow_core.specs.Layout.{FlowNetwork}
use Rattle.path_flow.specs.Flow.{IsLeft, most_units}
use Rattle.path_flow.proofs.solver.balance.Goals as goal

pub carry-budget-requires-clause-whole : goal.carry-budget-requires-clause-whole
carry-budget-requires-clause-whole c = c.saturate.ensures.whole ∙ c.requires.whole

pub discharge-requires-clause-left : goal.discharge-requires-clause-left
discharge-requires-clause-left c =
    let net = c.saturate.new.net in (
      net.changes + length net.network.values * most_units net.network,
      subst (λ (n : FlowNetwork). IsLeft n (net.changes + length net.network.values * most_units net.network) c.carry-budget.new.net (to_z w64 (of_z w64 c.spare_units-spare.result)) 1) (sym c.carry-budget.ensures.network_stays)
          (c.carry-budget.ensures.left (to_z w64 (of_z w64 c.spare_units-spare.result)) (to_z-of_z w64 c.spare_units-spare.result (record { sfits = c.spare_units-spare.type_inv }) ∙ c.spare_units-spare.ensures)),
    )

pub returns-in-Some-clause-network_stays : goal.returns-in-Some-clause-network_stays
returns-in-Some-clause-network_stays c = c.discharge.ensures.network_stays ∙ c.carry-budget.ensures.network_stays ∙ c.saturate.ensures.stays.network

pub returns-in-Some-clause-changes : goal.returns-in-Some-clause-changes
returns-in-Some-clause-changes c =
    let net = c.saturate.new.net in
    let values = ap (λ (n : FlowNetwork). length n.values) c.saturate.ensures.stays.network in
    let product = ap (λ (n : FlowNetwork). length n.values * most_units n) c.saturate.ensures.stays.network in
    let all = c.discharge.ensures.changes (net.changes + length net.network.values * most_units net.network)
    (subst (λ (n : FlowNetwork). IsLeft n (net.changes + length net.network.values * most_units net.network) c.carry-budget.new.net (to_z w64 (of_z w64 c.spare_units-spare.result)) 1) (sym c.carry-budget.ensures.network_stays)
    (c.carry-budget.ensures.left (to_z w64 (of_z w64 c.spare_units-spare.result)) (to_z-of_z w64 c.spare_units-spare.result (record { sfits = c.spare_units-spare.type_inv }) ∙ c.spare_units-spare.ensures))) in
    let turned : length c.args.net.now.network.values * most_units c.args.net.now.network ≡ most_units c.args.net.now.network * length c.args.net.now.network.values = omega arith in
    omega (arith, all, c.saturate.ensures.changes, product, turned)
