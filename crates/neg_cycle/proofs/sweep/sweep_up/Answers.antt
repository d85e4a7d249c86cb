use Rattle.std.proofs.Common.{◌≡◌, ◌<◌, ◌+◌, ◌⊎◌, ℕ, ◌∙◌, subst, arith}
use Rattle.neg_cycle.specs.Labels.{IsLabelling}
use Rattle.neg_cycle.proofs.Relaxing.{lowers_trans}
use Rattle.neg_cycle.proofs.Sweeping.{fell_more, kept_more}
use Rattle.neg_cycle.proofs.sweep.sweep_up.Goals as goal

-- a number below i + 1 is below i or is i
below_or_at : (i j : ℕ) → j < i + 1 → (j < i) ⊎ (j ≡ i)
below_or_at i j h = grind arith

pub loop-i-preserved : goal.loop-i-preserved
loop-i-preserved g c =
    let arcs = g.A.ArcList.listed c.args.arcs.now in
    let was = c.loop-i.invariant in
    let tried = c.relax-fell.ensures in
    let old = c.args.labels.now.distances.items in
    let middle = c.loop-i.labels.distances.items in
    let new = c.relax-fell.new.labels.distances.items in
    let bound : (c.args.bound + c.from.result) + 1 ≡ c.args.bound + (c.loop-i.i + 1) = omega arith in
    record {
      nodes = tried.lowers.below.nodes ∙ was.nodes;
      labels = subst (λ ranks. IsLabelling arcs ranks c.relax-fell.new.labels.distances.items c.relax-fell.new.labels.parents.items c.relax-fell.new.labels.ranks.items) bound tried.labels;
      lowers = lowers_trans arcs old middle new was.lowers tried.lowers;
      fell = fell_more c.loop-i.fell c.relax-fell.result old middle new was.fell tried.fell;
      kept = kept_more arcs c.loop-i.fell c.relax-fell.result middle new c.loop-i.i (λ j. j < c.loop-i.i) (λ j. j < c.loop-i.i + 1) (below_or_at c.loop-i.i) tried.fell was.kept tried.kept;
    }
