use Rattle.std.proofs.Common.{ℤ, pos, ◌+ℤ◌, ◌≤ℤ◌, ◌/◌, w64, to_z, of_z, sym, ◌∙◌, subst, arith}
use Rattle.std.specs.Prelude.{unsigned_abs}
use Rattle.std.proofs.lemmas.Int.{ints, to_z-of_z}
use Rattle.bound_graph.specs.Values.{value_of}
use Rattle.flow_core.specs.State.{flow_on}
use Rattle.path_flow.specs.Flow.{HasSign}
use Rattle.path_flow.proofs.Weighing.{most_small}
use Rattle.path_flow.proofs.Carrying.{covered_after, paid_by}
use Rattle.path_flow.proofs.carry.carry_over.Goals as goal

pub amount_over-amount-requires-clause-limit : goal.amount_over-amount-requires-clause-limit
amount_over-amount-requires-clause-limit c = omega (arith, c.requires.covered.limit, most_small c.args.net.now.network c.requires.network.layout)

pub returns-then-amount-gt0-clause-covered : goal.returns-then-amount-gt0-clause-covered
returns-then-amount-gt0-clause-covered c =
    let net = c.args.net.now in
    let before = c.args.purse.now in
    let arc = c.args.number / 2 in
    let excess = to_z-of_z w64 c.excess.result (record { sfits = c.excess.type_inv }) ∙ c.excess.ensures in
    let same = to_z-of_z w64 c.amount_over-amount.result (record { sfits = c.amount_over-amount.type_inv }) in
    let most = c.amount_over-amount.ensures in
    covered_after before _ net c.push.new.self c.direction_of.result c.args.node c.args.number c.takes_from-back.result (to_z w64 (of_z w64 c.amount_over-amount.result)) c.requires.covered c.requires.network
    c.requires.number c.requires.tail c.requires.apart c.requires.tight c.takes_from-back.ensures
    (subst (λ (z : ℤ). HasSign c.direction_of.result z) excess c.direction_of.ensures)
    (omega (arith, ints, c.if-amount-gt0.true))
    (subst (λ (z : ℤ). z ≤ℤ pos (unsigned_abs (value_of net.excesses c.args.node))) (sym same) most.excess)
    (λ forth price. subst (λ (z : ℤ). (flow_on net arc +ℤ z) ≤ℤ pos before.limit) (sym same) (most.limit forth price))
    c.push.ensures.pushed
    (paid_by before c.push.new.self arc c.free_flow.result c.max-purse.result c.requires.pool c.max-purse.ensures c.free_flow.ensures.free c.free_flow.ensures.priced)
