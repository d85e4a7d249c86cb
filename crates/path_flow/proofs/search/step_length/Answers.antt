use Rattle.std.proofs.Common.{ℤ, pos, ◌-ℤ◌, ◌*◌, ◌^◌, ◌≤◌, ◌/◌, arith, sym, ap, ◌∙◌, subst}
use Rattle.std.specs.Prelude.{unsigned_abs}
use Rattle.std.specs.Int.{w128}
use Rattle.std.proofs.lemmas.Int.{to_z-of_z}
use Rattle.words.proofs.Products.{size_of_minus}
use Rattle.bound_graph.specs.Reverses.{is_back}
use Rattle.path_flow.specs.Steps.{reduced_cost}
use Rattle.path_flow.proofs.Lengths.{length_back, length_ahead, cost_small}
use Rattle.path_flow.proofs.search.step_length.Goals as goal

pub minus-requires : goal.minus-requires
minus-requires c =
    let cost = to_z-of_z w128 c.reduced_cost-cost.result (record { sfits = c.reduced_cost-cost.type_inv }) ∙ c.reduced_cost-cost.ensures in
    subst (λ (z : ℤ). unsigned_abs z ≤ 6 * 10 ^ 15) (sym cost) (cost_small c.args.net.now (c.args.number / 2) c.requires.network c.requires.number)

pub returns-then-takes_from-clause-long : goal.returns-then-takes_from-clause-long
returns-then-takes_from-clause-long c =
    let cost = to_z-of_z w128 c.reduced_cost-cost.result (record { sfits = c.reduced_cost-cost.type_inv }) ∙ c.reduced_cost-cost.ensures in
    let value = to_z-of_z w128 c.minus.result (record { sfits = c.minus.type_inv }) ∙ c.minus.ensures ∙ ap (λ (z : ℤ). pos 0 -ℤ z) cost in
    value ∙ sym (length_back c.args.net.now c.args.direction (c.args.number / 2) (is_back c.args.number) (sym c.takes_from.ensures ∙ c.if-takes_from.true))

pub returns-then-takes_from-clause-size : goal.returns-then-takes_from-clause-size
returns-then-takes_from-clause-size c =
    let cost = to_z-of_z w128 c.reduced_cost-cost.result (record { sfits = c.reduced_cost-cost.type_inv }) ∙ c.reduced_cost-cost.ensures in
    let value = to_z-of_z w128 c.minus.result (record { sfits = c.minus.type_inv }) ∙ c.minus.ensures ∙ ap (λ (z : ℤ). pos 0 -ℤ z) cost in
    let small = cost_small c.args.net.now (c.args.number / 2) c.requires.network c.requires.number in
    subst (λ (z : ℤ). unsigned_abs z ≤ 6 * 10 ^ 15) (sym value) (omega (arith, small, size_of_minus (reduced_cost c.args.net.now (c.args.number / 2))))

pub returns-else-takes_from-clause-long : goal.returns-else-takes_from-clause-long
returns-else-takes_from-clause-long c =
    let cost = to_z-of_z w128 c.reduced_cost-cost.result (record { sfits = c.reduced_cost-cost.type_inv }) ∙ c.reduced_cost-cost.ensures in
    cost ∙ sym (length_ahead c.args.net.now c.args.direction (c.args.number / 2) (is_back c.args.number) (sym c.takes_from.ensures ∙ c.if-takes_from.false))

pub returns-else-takes_from-clause-size : goal.returns-else-takes_from-clause-size
returns-else-takes_from-clause-size c =
    let cost = to_z-of_z w128 c.reduced_cost-cost.result (record { sfits = c.reduced_cost-cost.type_inv }) ∙ c.reduced_cost-cost.ensures in
    subst (λ (z : ℤ). unsigned_abs z ≤ 6 * 10 ^ 15) (sym cost) (cost_small c.args.net.now (c.args.number / 2) c.requires.network c.requires.number)
