use Rattle.std.proofs.Common.{◌≡◌, ℕ, suc, ◌+◌, pos, ℤ, List, length, replicate, refl, ap, ◌∙◌, subst, arith}
use Rattle.std.specs.Prelude.{slice_set}
use Rattle.bound_graph.specs.Values.{RespectsArcs}
use Rattle.neg_cycle.specs.Distances.{IsGreatest}
use Rattle.neg_cycle.specs.declared.sweep.Settled.{Settled}
use Rattle.neg_cycle.specs.declared.sweep.Settled.TheVariants.{Greatest, Cycle}
use Rattle.flow_core.specs.State.{NetworkState}
use Rattle.flow_core.specs.Views.{tight_arcs}
use Rattle.flow_core.specs.declared.limits.TheConstants.{MOST_VALUE}
use Rattle.least_cost.proofs.Greatest.{starts, are_settled, can_settle}
use Rattle.least_cost.proofs.series.settle_tight.Goals as goal

greatest_if : (settled : Settled) → (settled ≡ Cycle → ⊥) → settled ≡ Greatest
greatest_if Greatest no_cycle = refl
greatest_if Cycle no_cycle = absurd (no_cycle refl)

start_list : (count nodes : ℕ) (all : List ℤ) → nodes ≡ count + 1 → all ≡ replicate nodes (pos MOST_VALUE) → slice_set all 0 (pos 0) ≡ starts count
start_list count nodes all long filled =
    let more : nodes ≡ suc count = omega arith in
    ap (λ (ds : List ℤ). slice_set ds 0 (pos 0)) (filled ∙ ap (λ n. replicate n (pos MOST_VALUE)) more)

greatest_here : (c : goal.Else-prove) → IsGreatest (tight_arcs c.args.net.now) (starts (length c.args.net.now.network.values)) c.settle-settled.new.room.distances
greatest_here c =
    let net = c.args.net.now in
    let same = c.tight_arcs.ensures in
    let settled = greatest_if c.settle-settled.result (λ cycle. can_settle net c.requires.solved
    (subst (λ (n : NetworkState). (distances : List ℤ) → RespectsArcs distances (tight_arcs n) → ⊥) same (c.settle-settled.ensures.none cycle))) in
    let first = c.start.ensures.distances ∙ start_list (length net.network.values) (length c.args.room.now.distances) c.start_all.new.self.distances c.requires.nodes c.start_all.ensures.distances in
    subst (λ (ds : List ℤ). IsGreatest (tight_arcs net) ds c.settle-settled.new.room.distances) first
    (subst (λ (n : NetworkState). IsGreatest (tight_arcs n) c.start.new.self.distances c.settle-settled.new.room.distances) same (c.settle-settled.ensures.greatest settled))

pub returns-clause-greatest : goal.returns-clause-greatest
returns-clause-greatest c = greatest_here c

pub returns-clause-small : goal.returns-clause-small
returns-clause-small c = (are_settled c.args.net.now c.settle-settled.new.room.distances c.requires.network c.requires.solved (greatest_here c)).small
