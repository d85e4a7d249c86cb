use Rattle.std.proofs.Common.{◌||◌, sym, ◌∙◌}
use Rattle.flow_core.specs.Layout.{arcs_of}
use Rattle.flow_core.specs.Views.{is_residual, is_bare}
use Rattle.flow_core.proofs.BothWays.{length-there_from}
use Rattle.flow_core.proofs.views.TightArcList.arcs.Goals as goal

pub returns : goal.returns
returns c =
    let net = c.args.self.now.net.now in
    c.arcs_both_ways.ensures ∙ sym (length-there_from 0 (λ arc back. is_bare net arc back || is_residual net arc back) (arcs_of net.network))
