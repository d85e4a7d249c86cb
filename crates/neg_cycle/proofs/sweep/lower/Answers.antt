use Rattle.std.proofs.Common.{◌<◌, ◌-◌, List, Option, length, take, drop, sym, ap, ◌∙◌, subst}
use Rattle.std.specs.List.{All}
use Rattle.std.specs.Option.{IfSome}
use Rattle.neg_cycle.specs.declared.forest.Parent.{Parent}
use Rattle.neg_cycle.specs.Forest.{IsParentCycle, IsRanking}
use Rattle.neg_cycle.specs.Labels.{IsLabelling}
use Rattle.neg_cycle.proofs.Cycles.{holds_cycle}
use Rattle.neg_cycle.proofs.Relaxing.{lowers_trans}
use Rattle.neg_cycle.proofs.Ranked.{ranked, tails_within, height_falls}
use Rattle.neg_cycle.proofs.sweep.lower.Goals as goal

pub rank_or_cycle-requires-clause-tails : goal.rank_or_cycle-requires-clause-tails
rank_or_cycle-requires-clause-tails g c =
    let labels = c.sweep_twice.new.labels in
    let swept = c.sweep_twice.ensures.labels in
    subst (λ (parents : List (Option Parent)). All (λ parent. IfSome parent (λ p. p.tail < length parents)) parents) (sym c.deref.ensures.value) (tails_within (g.A.ArcList.listed c.args.arcs.now) swept.0 labels.distances.items labels.parents.items labels.ranks.items swept.1)

pub returns-in-Some-clause-lowers : goal.returns-in-Some-clause-lowers
returns-in-Some-clause-lowers g c =
    lowers_trans (g.A.ArcList.listed c.args.arcs.now) c.args.labels.now.distances.items c.turns.labels.distances.items c.sweep_twice.new.labels.distances.items c.turns.invariant.lowers c.sweep_twice.ensures.lowers

pub returns-clause-lowers : goal.returns-clause-lowers
returns-clause-lowers g c =
    lowers_trans (g.A.ArcList.listed c.args.arcs.now) c.args.labels.now.distances.items c.turns.labels.distances.items c.sweep_twice.new.labels.distances.items c.turns.invariant.lowers c.sweep_twice.ensures.lowers

pub returns-in-Some-clause-answer : goal.returns-in-Some-clause-answer
returns-in-Some-clause-answer g c =
    let labels = c.sweep_twice.new.labels in
    let swept = c.sweep_twice.ensures.labels in
    let path = c.rank_or_cycle.new.path.items in
    let start = c.in-Some.stretch.start in
    let end = c.in-Some.stretch.end in
    let found = c.in-Some.ensures.answer in
    let round = subst (λ (parents : List (Option Parent)). IsParentCycle parents (take (end - start) (drop start path))) c.deref.ensures.value found.2 in
    holds_cycle (g.A.ArcList.listed c.args.arcs.now) swept.0 labels.distances.items labels.parents.items labels.ranks.items path start end swept.1 found.0 found.1 round

pub turns-smaller : goal.turns-smaller
turns-smaller g c =
    let labels = c.sweep_twice.new.labels in
    let swept = c.sweep_twice.ensures.labels in
    let ranks = c.rank_or_cycle.new.ranks.items in
    let ranking = subst (λ (parents : List (Option Parent)). IsRanking parents ranks) c.deref.ensures.value c.in_default.ensures.answer in
    let fresh = ranked (g.A.ArcList.listed c.args.arcs.now) swept.0 labels.distances.items labels.parents.items labels.ranks.items ranks swept.1 ranking in
    height_falls (g.A.ArcList.listed c.args.arcs.now) c.turns.labels.distances.items labels.distances.items labels.parents.items ranks c.sweep_twice.ensures.lowers.below.nodes fresh (c.sweep_twice.ensures.fell c.turns-test.true)

pub turns-preserved : goal.turns-preserved
turns-preserved g c =
    let arcs = g.A.ArcList.listed c.args.arcs.now in
    let labels = c.sweep_twice.new.labels in
    let swept = c.sweep_twice.ensures in
    let ranks = c.rank_or_cycle.new.ranks.items in
    let ranking = subst (λ (parents : List (Option Parent)). IsRanking parents ranks) c.deref.ensures.value c.in_default.ensures.answer in
    let fresh = ranked arcs swept.labels.0 labels.distances.items labels.parents.items labels.ranks.items ranks swept.labels.1 ranking in
    let nodes = swept.lowers.below.nodes ∙ c.turns.invariant.nodes in
    record {
      nodes = nodes;
      labels = subst (λ bound. IsLabelling arcs bound labels.distances.items labels.parents.items ranks) nodes fresh;
      lowers = lowers_trans arcs c.args.labels.now.distances.items c.turns.labels.distances.items labels.distances.items c.turns.invariant.lowers swept.lowers;
      path = c.rank_or_cycle.ensures.path ∙ ap (λ (l : List (Option Parent)). length l) c.deref.ensures.value ∙ swept.labels.1.parents_of ∙ nodes;
    }
