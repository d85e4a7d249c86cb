use Rattle.std.proofs.Common.{ℤ, ◌<◌, ◌^◌, w64, sym, ◌∙◌, subst, arith}
use Rattle.std.specs.Prelude.{unsigned_abs}
use Rattle.std.proofs.lemmas.Int.{to_z-of_z}
use Rattle.flow_core.proofs.Sizes.{excess_small}
use Rattle.path_flow.proofs.discharge.amount_to.Goals as goal

pub size-requires : goal.size-requires
size-requires c =
    let small = excess_small c.args.net.now c.args.end c.requires.network c.requires.end in
    let same = to_z-of_z w64 c.excess.result (record { sfits = c.excess.type_inv }) ∙ c.excess.ensures in
    subst (λ (z : ℤ). unsigned_abs z < 2 ^ 62) (sym same) (omega (arith, small))
