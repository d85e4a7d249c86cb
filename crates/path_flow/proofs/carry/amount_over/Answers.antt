use Rattle.std.proofs.Common.{ℤ, ◌<◌, ◌≤◌, ◌^◌, w64, sym, ◌∙◌, subst, arith}
use Rattle.std.specs.Prelude.{unsigned_abs}
use Rattle.std.proofs.lemmas.Int.{to_z-of_z}
use Rattle.flow_core.proofs.Sizes.{excess_small, flow_small}
use Rattle.path_flow.proofs.carry.amount_over.Goals as goal

pub size-requires : goal.size-requires
size-requires c =
    let small = excess_small c.args.net.now c.args.node c.requires.network c.requires.node in
    let same = to_z-of_z w64 c.excess.result (record { sfits = c.excess.type_inv }) ∙ c.excess.ensures in
    subst (λ (z : ℤ). unsigned_abs z < 2 ^ 62) (sym same) (omega (arith, small))

pub less-requires-clause-flow : goal.less-requires-clause-flow
less-requires-clause-flow c =
    let small = flow_small c.args.net.now c.args.arc c.requires.network c.requires.arc in
    let same = to_z-of_z w64 c.flow.result (record { sfits = c.flow.type_inv }) ∙ c.flow.ensures in
    subst (λ (z : ℤ). unsigned_abs z ≤ 2 ^ 40) (sym same) (omega (arith, small))
