use Rattle.std.proofs.Common.{sym, ◌∙◌}
use Rattle.flow_core.proofs.BothWays.{bare_there, bare_away}
use Rattle.flow_core.proofs.views.BareArcList.arc.Goals as goal

pub returns-then-is_bare-clause-found : goal.returns-then-is_bare-clause-found
returns-then-is_bare-clause-found c =
    bare_there c.args.self.now.net.now c.args.i c.both_ways.result (sym c.is_bare.ensures.value ∙ c.if-is_bare.true) (c.is_bare.ensures.bound c.if-is_bare.true) c.both_ways.ensures.found

pub returns-else-is_bare-clause-found : goal.returns-else-is_bare-clause-found
returns-else-is_bare-clause-found c = bare_away c.args.self.now.net.now c.args.i (sym c.is_bare.ensures.value ∙ c.if-is_bare.false)
