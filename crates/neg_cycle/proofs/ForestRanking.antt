-- From walks to a ranking.
use Rattle.std.proofs.Common.{◌≡◌, ◌≢◌, ℕ, ◌+◌, ◌-◌, ◌^◌, ◌<◌, List, [], length, get_or, take, replicate, Option, None, Some, IfSome, sym, subst, ap, ◌∙◌, inl, inr, ◌⊎◌, ⊎_elim, arith}
use Rattle.std.specs.Option.{option_map}
use Rattle.std.proofs.lemmas.Bool.{cases_lt}
use Rattle.std.proofs.lemmas.Option.{IfSome_then}
use Rattle.std.proofs.lemmas.List.{length-take-le, length-replicate, get_or-replicate, get_or_past}
use Rattle.std.proofs.lemmas.List.Elements.{All-from_get_or}
use Rattle.neg_cycle.specs.declared.forest.Parent.{Parent}
use Rattle.neg_cycle.specs.declared.forest.Walk.TheVariants.{Ended}
use Rattle.neg_cycle.specs.declared.forest.TheConstants.{UNRANKED}
use Rattle.neg_cycle.specs.Forest.{parent_at, IsRanking}
use Rattle.neg_cycle.specs.ForestWalk.{rank_at, tail_at, unranked, IsWalk, IsAtEnd, StayRanked, Tells}
use Rattle.neg_cycle.proofs.ForestTurn.{IsTurned}
use Rattle.neg_cycle.proofs.ForestCount.{all_unranked}

-- Before the first walk no node has a rank.
pub none_ranked : (parents : List (Option Parent)) (ranks : List ℕ) → ranks ≡ replicate (length parents) UNRANKED → IsWalk parents 0 [] ranks
none_ranked parents ranks is = record {
  nodes = ap length is ∙ length-replicate (length parents) UNRANKED;
  falls = λ node h. absurd (omega arith);
  within = λ place h. absurd (omega arith);
  places = λ place h. absurd (omega arith);
  steps = λ place h. absurd (omega arith);
  met = λ node inside low some. absurd (some (ap (λ rs. rank_at rs node) is ∙ get_or-replicate (length parents) node UNRANKED 0 inside));
  count = omega (arith, ap unranked is, all_unranked (length parents));
}

-- A node that has a rank was done, or stands in the walk.
stands : (parents : List (Option Parent)) (done : ℕ) (walk before now : List ℕ) → length parents < 2 ^ 32 → IsWalk parents done walk before →
    IsTurned done (length walk) walk before now → (node : ℕ) → node < length parents → rank_at now node ≢ UNRANKED →
    (rank_at before node < done) ⊎ ((place : ℕ) × (place < length walk) × (get_or walk place 0 ≡ node))
stands parents done walk before now few walked turned node inside some =
    let had : rank_at before node ≢ UNRANKED = λ e. some (turned.above node (omega (arith, walked.count)) ∙ e) in
    ⊎_elim
    (λ less. inl less)
    (λ low. let met = walked.met node inside low had in inr (rank_at before node - done, omega (arith, met.0), met.1))
    (cases_lt (rank_at before node) done)

small_rank : (parents : List (Option Parent)) (done : ℕ) (walk before now : List ℕ) → length parents < 2 ^ 32 → IsWalk parents done walk before →
    IsTurned done (length walk) walk before now → (node : ℕ) → node < length parents → rank_at now node ≢ UNRANKED →
    rank_at now node < done + length walk
small_rank parents done walk before now few walked turned node inside some = ⊎_elim
    (λ less. omega (arith, turned.below node less))
    (λ (place, at, is). omega (arith, turned.falls place at, ap (rank_at now) is))
    (stands parents done walk before now few walked turned node inside some)

falls_at : (parents : List (Option Parent)) (done : ℕ) (walk before now : List ℕ) → IsWalk parents done walk before →
    IsAtEnd parents done walk before → IsTurned done (length walk) walk before now → (place : ℕ) → place < length walk →
    IfSome (tail_at parents (get_or walk place 0)) (λ tail. rank_at now tail < rank_at now (get_or walk place 0))
falls_at parents done walk before now walked end turned place at = ⊎_elim
    (λ more. rw (walked.steps place more) (omega (arith, turned.falls place at, turned.falls (place + 1) more)))
    (λ last. IfSome_then (tail_at parents (get_or walk place 0)) (end place (omega arith))
    (λ tail less. omega (arith, turned.below tail less, turned.falls place at)))
    (cases_lt (place + 1) (length walk))

falls_on : (parents : List (Option Parent)) (done : ℕ) (walk before now : List ℕ) → length parents < 2 ^ 32 → IsWalk parents done walk before →
    IsAtEnd parents done walk before → IsTurned done (length walk) walk before now → (node : ℕ) → rank_at now node < done + length walk →
    IfSome (tail_at parents node) (λ tail. rank_at now tail < rank_at now node)
falls_on parents done walk before now few walked end turned node small = ⊎_elim
    (λ inside. ⊎_elim
    (λ less. IfSome_then (tail_at parents node) (walked.falls node less)
    (λ tail lower. omega (arith, turned.below tail (omega arith), turned.below node less)))
    (λ (place, at, is). subst (λ v. IfSome (tail_at parents v) (λ tail. rank_at now tail < rank_at now v)) is
    (falls_at parents done walk before now walked end turned place at))
    (stands parents done walk before now few walked turned node inside (λ e. absurd (omega (arith, walked.count)))))
    (λ past. rw (get_or_past parents node None past) tt)
    (cases_lt node (length parents))

-- The nodes of a walk at its end get ranks above those of the nodes that are done.
pub walk_ranked : (parents : List (Option Parent)) (done : ℕ) (walk before now : List ℕ) → length parents < 2 ^ 32 → IsWalk parents done walk before →
    IsAtEnd parents done walk before → IsTurned done (length walk) walk before now → IsWalk parents (done + length walk) [] now
walk_ranked parents done walk before now few walked end turned = record {
  nodes = turned.nodes ∙ walked.nodes;
  falls = falls_on parents done walk before now few walked end turned;
  within = λ place h. absurd (omega arith);
  places = λ place h. absurd (omega arith);
  steps = λ place h. absurd (omega arith);
  met = λ node inside low some. absurd (omega (arith, small_rank parents done walk before now few walked turned node inside some));
  count = omega (arith, walked.count, turned.count);
}

-- The nodes before `next` are done.
pub record AreDone (parents : List (Option Parent)) (done next : ℕ) (ranks path : List ℕ) : Type 0 where
  pub walked : IsWalk parents done [] ranks
  pub below : (node : ℕ) → node < next → rank_at ranks node ≢ UNRANKED
  pub long : length path ≡ length parents

still_ranked : (parents : List (Option Parent)) (done : ℕ) (walk before now : List ℕ) → length parents < 2 ^ 32 → IsWalk parents done walk before →
    IsTurned done (length walk) walk before now → (node : ℕ) → node < length parents → rank_at before node ≢ UNRANKED → rank_at now node ≢ UNRANKED
still_ranked parents done walk before now few walked turned node inside had e = ⊎_elim
    (λ less. had (sym (turned.below node less) ∙ e))
    (λ low.
    let met = walked.met node inside low had in
    let falls = turned.falls (rank_at before node - done) (omega (arith, met.0)) in
    omega (arith, falls, ap (rank_at now) met.1, walked.count))
    (cases_lt (rank_at before node) done)

-- One more node is done.
pub next_done : (parents : List (Option Parent)) (done next : ℕ) (ranks path walked_ranks walked_path now : List ℕ) (count : ℕ) → length parents < 2 ^ 32 →
    AreDone parents done next ranks path → next < length parents → StayRanked ranks walked_ranks → rank_at walked_ranks next ≢ UNRANKED →
    Tells parents done walked_path walked_ranks (Ended count) → length walked_path ≡ length path →
    IsTurned done (length (take count walked_path)) (take count walked_path) walked_ranks now →
    AreDone parents (done + count) (next + 1) now walked_path
next_done parents done next ranks path walked_ranks walked_path now count few are inside stay first tells long turned =
    let len : length (take count walked_path) ≡ count = length-take-le count walked_path tells.0 in
    let walk = walk_ranked parents done (take count walked_path) walked_ranks now few tells.1 tells.2 turned in
    record {
      walked = subst (λ (n : ℕ). IsWalk parents (done + n) [] now) len walk;
      below = λ node h.
          let had : rank_at walked_ranks node ≢ UNRANKED = ⊎_elim
          (λ less. stay node (are.below node less))
          (λ past. let same : next ≡ node = omega arith in subst (λ v. rank_at walked_ranks v ≢ UNRANKED) same first)
          (cases_lt node next)
          in
          still_ranked parents done (take count walked_path) walked_ranks now few tells.1 turned node (omega arith) had;
      long = long ∙ are.long;
    }

by_parent : (o : Option Parent) (P : ℕ → Type 0) → IfSome (option_map (λ parent. parent.tail) o) P → IfSome o (λ parent. P parent.tail)
by_parent None P h = tt
by_parent (Some parent) P h = h

-- In the end each node has a rank.
pub ranking : (parents : List (Option Parent)) (done : ℕ) (ranks : List ℕ) → IsWalk parents done [] ranks →
    ((node : ℕ) → node < length parents → rank_at ranks node ≢ UNRANKED) → IsRanking parents ranks
ranking parents done ranks walked all =
    let small : (node : ℕ) → node < length parents → rank_at ranks node < done =
    λ node inside. ⊎_elim (λ less. less) (λ low. absurd (omega (arith, (walked.met node inside low (all node inside)).0))) (cases_lt (rank_at ranks node) done)
    in
    record {
      nodes = walked.nodes;
      small = All-from_get_or (λ rank. rank < length parents) ranks 0 (λ node inside. omega (arith, small node (omega (arith, walked.nodes)), walked.count));
      falls = λ node. ⊎_elim
          (λ inside. by_parent (parent_at parents node) (λ tail. rank_at ranks tail < rank_at ranks node) (walked.falls node (small node inside)))
          (λ past. rw (get_or_past parents node None past) tt)
          (cases_lt node (length parents));
    }
