use Rattle.std.proofs.Common.{pos, ◌≤ℤ◌, ◌≡◌, ◌<◌, ◌≤◌, ℕ, List, count_by, sum, not, eqb, length, get_or, ap, sym, ◌∙◌, subst, arith}
use Rattle.std.proofs.lemmas.List.{take_all}
use Rattle.path_flow.specs.Flow.{excess_units}
use Rattle.path_flow.specs.Steps.{reduced_cost}
use Rattle.path_flow.specs.Saturation.{IsSaturated}
use Rattle.flow_core.specs.Layout.{FlowNetwork}
use Rattle.flow_core.specs.State.{NetworkState}
use Rattle.path_flow.proofs.Saturating.{one_arc_more, free_cost, bound_counted, bound_units}
use Rattle.path_flow.proofs.saturate.saturate_bounds.Goals as goal

pub saturate_bound-requires-clause-bound : goal.saturate_bound-requires-clause-bound
saturate_bound-requires-clause-bound c =
    let bounds = ap (λ (n : FlowNetwork). length n.bounds) c.loop-bound.invariant.saturated.network in
    omega (arith, bounds, c.loop-bound-test.true, c.loop-bound.auto.bound-end, c.bounds-bound-end.ensures)

pub saturate_bound-requires-clause-obeys : goal.saturate_bound-requires-clause-obeys
saturate_bound-requires-clause-obeys c =
    let old = c.args.net.now in
    let k = c.loop-bound.bound in
    let below : k < length old.network.bounds = omega (arith, c.loop-bound-test.true, c.loop-bound.auto.bound-end, c.bounds-bound-end.ensures) in
    λ none. free_cost k old c.loop-bound.net k c.loop-bound.invariant.saturated c.requires.obeys below none

pub loop-bound-preserved : goal.loop-bound-preserved
loop-bound-preserved c =
    let was = c.loop-bound.invariant in
    let old = c.args.net.now in
    let net = c.loop-bound.net in
    let new = c.saturate_bound.new.net in
    let k = c.loop-bound.bound in
    let step = c.saturate_bound.ensures.saturated in
    let below : k < length old.network.bounds = omega (arith, c.loop-bound-test.true, c.loop-bound.auto.bound-end, c.bounds-bound-end.ensures) in
    let free : get_or net.network.prices k 1 ≡ 0 → pos 0 ≤ℤ reduced_cost net k = λ none. free_cost k old net k was.saturated c.requires.obeys below none in
    record {
      network = c.saturate_bound.ensures.network;
      saturated = one_arc_more old net new k was.saturated step (λ none. free (ap (λ (n : FlowNetwork). get_or n.prices k 1) (sym step.network) ∙ none));
      units = bound_units old net new k c.requires.network was.saturated.network below step
          (λ none. step.kept (free (ap (λ (n : FlowNetwork). get_or n.prices k 1) was.saturated.network ∙ none))) was.units;
      whole = step.whole ∙ was.whole;
      changes = bound_counted old.network.prices k net.changes new.changes (omega (arith, below, c.requires.network.layout.priced))
          (λ none. ap (λ (s : NetworkState). s.changes) (step.kept (free (ap (λ (n : FlowNetwork). get_or n.prices k 1) was.saturated.network ∙ none)))) step.changes was.changes;
    }

pub returns-clause-saturated : goal.returns-clause-saturated
returns-clause-saturated c =
    let all : c.loop-bound.bound ≡ length c.args.net.now.network.bounds = omega (arith, c.loop-bound-test.false, c.loop-bound.auto.bound-end, c.bounds-bound-end.ensures) in
    subst (λ count. IsSaturated count c.args.net.now c.loop-bound.net) all c.loop-bound.invariant.saturated

pub returns-clause-changes : goal.returns-clause-changes
returns-clause-changes c =
    let prices = c.args.net.now.network.prices in
    let all = take_all c.loop-bound.bound prices (omega (arith, c.loop-bound-test.false, c.bounds-bound-end.ensures, c.requires.network.layout.priced)) in
    subst (λ (l : List ℕ). c.loop-bound.net.changes ≤ count_by (λ price. not (eqb price 0)) l) all c.loop-bound.invariant.changes

pub returns-clause-units : goal.returns-clause-units
returns-clause-units c =
    let prices = c.args.net.now.network.prices in
    let all = take_all c.loop-bound.bound prices (omega (arith, c.loop-bound-test.false, c.bounds-bound-end.ensures, c.requires.network.layout.priced)) in
    subst (λ (l : List ℕ). excess_units c.loop-bound.net ≤ sum l) all c.loop-bound.invariant.units
