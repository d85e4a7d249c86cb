use Rattle.std.proofs.Common.{sym, ◌∙◌}
use Rattle.flow_core.specs.Layout.{arcs_of}
use Rattle.flow_core.specs.Views.{is_residual}
use Rattle.flow_core.proofs.BothWays.{length-there_from}
use Rattle.flow_core.proofs.views.ResidualArcList.arcs.Goals as goal

pub returns : goal.returns
returns c =
    let net = c.args.self.now.net.now in
    c.arcs_both_ways.ensures ∙ sym (length-there_from 0 (is_residual net) (arcs_of net.network))
