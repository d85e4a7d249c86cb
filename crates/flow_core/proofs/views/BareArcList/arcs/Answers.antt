use Rattle.std.proofs.Common.{sym, ◌∙◌}
use Rattle.flow_core.specs.Views.{is_bare}
use Rattle.flow_core.proofs.BothWays.{length-there_from}
use Rattle.flow_core.proofs.views.BareArcList.arcs.Goals as goal

pub returns : goal.returns
returns c =
    let net = c.args.self.now.net.now in
    c.bounds_both_ways.ensures ∙ sym (length-there_from 0 (is_bare net) (net.network.bounds))
