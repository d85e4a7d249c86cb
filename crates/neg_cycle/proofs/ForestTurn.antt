-- The ranks of a walk from its end on.
use Rattle.std.proofs.Common.{◌≡◌, ◌≢◌, ℕ, ◌+◌, ◌^◌, ◌<◌, ◌≤◌, List, length, get_or, set, ap, ◌∙◌, ⊎_elim, arith}
use Rattle.std.proofs.lemmas.Bool.{cases_eq}
use Rattle.std.proofs.lemmas.List.{length-set, get_or-set_same, get_or-set_other}
use Rattle.neg_cycle.specs.ForestWalk.{rank_at, unranked}
use Rattle.neg_cycle.proofs.ForestCount.{unranked_same}

-- The first nodes of a walk, so many as `turned`, have ranks that fall along it. No other rank is changed.
pub record IsTurned (done turned : ℕ) (walk before now : List ℕ) : Type 0 where
  pub nodes : length now ≡ length before
  pub falls : (place : ℕ) → place < turned → rank_at now (get_or walk place 0) + place + 1 ≡ done + length walk
  pub below : (node : ℕ) → rank_at before node < done → rank_at now node ≡ rank_at before node
  pub above : (node : ℕ) → done + turned ≤ rank_at before node → rank_at now node ≡ rank_at before node
  pub count : unranked now ≡ unranked before

-- The nodes of a walk have as ranks their places in it, counted from `done`.
pub record HasPlaces (done : ℕ) (walk ranks : List ℕ) : Type 0 where
  pub small : done + length walk ≤ length ranks
  pub few : length ranks < 2 ^ 32
  pub within : (place : ℕ) → place < length walk → get_or walk place 0 < length ranks
  pub places : (place : ℕ) → place < length walk → rank_at ranks (get_or walk place 0) ≡ done + place

pub one_turned : (done i : ℕ) (walk before now : List ℕ) (rank : ℕ) → HasPlaces done walk before → IsTurned done i walk before now →
    i < length walk → rank + i + 1 ≡ done + length walk → IsTurned done (i + 1) walk before (set now (get_or walk i 0) rank)
one_turned done i walk before now rank has part inside is =
    let within : get_or walk i 0 < length now = omega (arith, has.within i inside, part.nodes) in
    let place : rank_at before (get_or walk i 0) ≡ done + i = has.places i inside in
    let had : rank_at now (get_or walk i 0) ≡ done + i = part.above (get_or walk i 0) (omega arith) ∙ place in
    let other : (v : ℕ) → rank_at before v ≢ done + i → rank_at (set now (get_or walk i 0) rank) v ≡ rank_at now v =
    λ v h. get_or-set_other now (get_or walk i 0) v rank 0 (λ same. h (ap (rank_at before) same ∙ place))
    in
    record {
      nodes = length-set now (get_or walk i 0) rank ∙ part.nodes;
      falls = λ k h. ⊎_elim
          (λ same. rw same (omega (arith, get_or-set_same now (get_or walk i 0) rank 0 within)))
          (λ apart.
          let elsewhere = other (get_or walk k 0) (λ e. absurd (omega (arith, has.places k (omega arith), e))) in
          omega (arith, elsewhere, part.falls k (omega arith)))
          (cases_eq k i);
      below = λ v h. other v (λ e. absurd (omega arith)) ∙ part.below v h;
      above = λ v h. other v (λ e. absurd (omega arith)) ∙ part.above v (omega arith);
      count = unranked_same now (get_or walk i 0) rank within (λ e. absurd (omega (arith, has.small, has.few, had, e))) (λ e. absurd (omega (arith, has.small, has.few, e))) ∙ part.count;
    }
