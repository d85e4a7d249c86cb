use Rattle.std.proofs.Common.{rules, ◌∙◌, ap, pos, w64}
use Rattle.std.specs.Option.{unwrap_or}
use Rattle.std.proofs.lemmas.Int.{to_z-of_z}
use mir.Val.{SFits}
use Rattle.bound_maker.proofs.Found.{got}
use Rattle.bound_maker.proofs.cost.value_of.Goals as goal

pub returns : goal.returns
returns c =
    let fits : SFits w64 c.unwrap_or.result = search rules in
    to_z-of_z w64 c.unwrap_or.result fits ∙ (c.unwrap_or.ensures ∙ (ap (λ o. unwrap_or o (pos 0)) (c.copied.ensures ∙ c.get.ensures) ∙ got c.args.series.now c.args.i (pos 0)))
