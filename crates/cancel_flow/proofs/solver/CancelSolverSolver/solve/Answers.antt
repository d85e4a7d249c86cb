use Rattle.std.proofs.Common.{List, Option, sym, ap, ◌∙◌, subst}
use Rattle.bound_graph.specs.declared.arc.Arc.{Arc}
use Rattle.bound_graph.specs.Values.{RespectsArcs}
use Rattle.bound_graph.specs.Cycle.{IsNegativeCycle}
use Rattle.bound_graph.proofs.Cycles.{forbids}
use Rattle.flow_core.specs.State.{NetworkState}
use Rattle.flow_core.specs.Views.{bare_arcs}
use Rattle.cancel_flow.proofs.Cut.{tight_respected}
use Rattle.cancel_flow.proofs.Taking.{same_bare}
use Rattle.cancel_flow.proofs.solver.CancelSolverSolver.solve.Goals as goal
use Rattle.cancel_flow.proofs.solver.CancelSolverSolver.solve.Goals.{in-Cycle, in-Greatest}

pub take_distances-requires-clause-respects : goal.take_distances-requires-clause-respects
take_distances-requires-clause-respects c =
    let net = c.cancel_all.new.net in
    let values = c.settle_from_zero.new.room.distances in
    let cancelled = c.cancel_all.ensures in
    let bare = ap bare_arcs c.bound_arcs.ensures ∙ sym (same_bare c.args.net.now net cancelled.network_stays) in
    tight_respected net c.cancel_all.new.room.distances values cancelled.network cancelled.balanced cancelled.respects
    (subst (λ (arcs : List (Option Arc)). RespectsArcs values arcs) bare (c.settle_from_zero.ensures.respects c.in-Greatest.is))

pub returns-clause-where_blocked : goal.returns-clause-where_blocked
returns-clause-where_blocked c =
    let old = c.args.net.now in
    let new = c.match-settle_from_zero.net in
    let values = c.settle_from_zero.new.room.distances in
    elim c.match-settle_from_zero.branch [
      | in-Cycle w ↦ λ numbers negative. w.solved-is
      | in-Greatest w ↦ λ numbers negative.
          let network = ap (λ (net : NetworkState). net.network) w.net-is ∙ w.take_distances.ensures.stays.network ∙ w.cancel_all.ensures.network_stays in
          let respects = subst (λ (arcs : List (Option Arc)). RespectsArcs values arcs) (ap bare_arcs c.bound_arcs.ensures) (c.settle_from_zero.ensures.respects w.in-Greatest.is) in
          absurd (forbids (bare_arcs old) numbers values (subst (λ (arcs : List (Option Arc)). IsNegativeCycle arcs numbers) (same_bare old new network) negative) respects)
    ]
