use Rattle.std.proofs.Common.{sym, ◌∙◌}
use Rattle.flow_core.proofs.BothWays.{tight_there, tight_other}
use Rattle.flow_core.proofs.views.TightArcList.arc.Goals as goal

pub returns-then-is_bare-clause-found : goal.returns-then-is_bare-clause-found
returns-then-is_bare-clause-found c =
    tight_there c.args.self.now.net.now c.args.i c.both_ways.result (sym c.is_bare.ensures.value ∙ c.if-is_bare.true) c.both_ways.ensures.found

pub returns-clause-found : goal.returns-clause-found
returns-clause-found c =
    tight_other c.args.self.now.net.now c.args.i c.residual_arc.result (sym c.is_bare.ensures.value ∙ c.if-is_bare.false) c.residual_arc.ensures.found
