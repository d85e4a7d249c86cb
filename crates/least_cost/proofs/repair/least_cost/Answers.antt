use Rattle.std.proofs.Common.{◌∙◌, sym, ap, subst}
use Rattle.std.specs.Result.{IfOk}
use Rattle.flow_core.specs.State.{NetworkState, IsNetwork}
use Rattle.least_cost.specs.Answer.{CountsChanges}
use Rattle.least_cost.specs.Problems.{stated}
use Rattle.least_cost.proofs.Answering.{network_stands}
use Rattle.least_cost.proofs.repair.least_cost.Goals as goal

pub repaired-requires-clause-network : goal.repaired-requires-clause-network
repaired-requires-clause-network g c =
    network_stands c.args.problem.now c.solve.new.net c.requires (subst IsNetwork c.net-2.view_is c.net-2.invariant.network)
    (c.in-Best.ensures.network_stays ∙ ap (λ (n : NetworkState). n.network) c.in_ok-net.ensures)

pub returns-in-Best-clause-changes : goal.returns-in-Best-clause-changes
returns-in-Best-clause-changes g c =
    subst (λ last. IfOk c.repaired.result (CountsChanges (stated c.args.problem.now) (g.V.Solver.most c.solve.new.self) last)) (sym c.in-Best.ensures.last)
    (c.repaired.ensures.changes (g.V.Solver.most c.solve.new.self) c.in-Best.ensures.most)

pub no_series-requires-clause-network : goal.no_series-requires-clause-network
no_series-requires-clause-network g c =
    network_stands c.args.problem.now c.solve.new.net c.requires (subst IsNetwork c.net-2.view_is c.net-2.invariant.network)
    (c.in-Blocked.ensures.network_stays ∙ ap (λ (n : NetworkState). n.network) c.in_ok-net.ensures)

pub returns-clause-changes : goal.returns-clause-changes
returns-clause-changes g c = c.no_series.ensures.changes (g.V.Solver.most c.solve.new.self) (g.V.Solver.last c.solve.new.self)
