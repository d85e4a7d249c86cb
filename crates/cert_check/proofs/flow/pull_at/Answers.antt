use Rattle.std.proofs.Common.{rules, ◌∙◌, ap, pos}
use Rattle.std.specs.Option.{unwrap_or}
use Rattle.std.specs.Int.{w128}
use mir.Val.{SFits}
use Rattle.std.proofs.lemmas.Int.{to_z-of_z}
use Rattle.bound_maker.proofs.Found.{got}
use Rattle.cert_check.proofs.flow.pull_at.Goals as goal

pub returns : goal.returns
returns c =
    let fits : SFits w128 c.unwrap_or.result = search rules in
    to_z-of_z w128 c.unwrap_or.result fits ∙ (c.unwrap_or.ensures ∙ (ap (λ o. unwrap_or o (pos 0)) (c.copied.ensures ∙ c.get.ensures) ∙ got c.args.pulls.now c.args.i (pos 0)))
