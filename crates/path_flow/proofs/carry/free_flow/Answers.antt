use Rattle.std.proofs.Common.{pos, w64, ap, ◌∙◌}
use Rattle.std.specs.Prelude.{unsigned_abs}
use Rattle.std.proofs.lemmas.Int.{to_z-of_z}
use Rattle.flow_core.specs.State.{flow_on}
use Rattle.flow_core.proofs.Sizes.{flow_within}
use Rattle.path_flow.proofs.Discharging.{size_positive}
use Rattle.path_flow.proofs.carry.free_flow.Goals as goal

pub returns-then-is_unpriced-clause-free : goal.returns-then-is_unpriced-clause-free
returns-then-is_unpriced-clause-free c =
    let net = c.args.net.now in
    let same = to_z-of_z w64 c.flow.result (record { sfits = c.flow.type_inv }) ∙ c.flow.ensures in
    λ price. ap pos (c.unsigned_abs.ensures.value ∙ ap unsigned_abs same) ∙ size_positive (flow_on net c.args.arc) (flow_within net c.args.arc c.requires.network c.requires.arc).0
