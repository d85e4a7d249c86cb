use Rattle.std.proofs.Common.{◌∙◌, ap, false}
use Rattle.std.specs.Option.{unwrap_or}
use Rattle.bound_maker.proofs.Found.{got}
use Rattle.cert_check.proofs.marks.is_marked.Goals as goal

pub returns : goal.returns
returns c = c.unwrap_or.ensures ∙ (ap (λ o. unwrap_or o false) (c.copied.ensures ∙ c.get.ensures) ∙ got c.args.marks.now c.args.i false)
