-- How many nodes have no rank.
use Rattle.std.proofs.Common.{◌≡◌, ◌≢◌, ℕ, zero, suc, ◌+◌, ◌<◌, ◌≤◌, List, length, get_or, set, replicate, cond, eqb, refl, arith}
use Rattle.std.proofs.lemmas.Bool.{ne_eqb, eq-eqb, cond-true, cond-false}
use Rattle.std.proofs.lemmas.List.Sums.{sum_by-cons, sum_by-set, get_or-le-sum_by}
use Rattle.neg_cycle.specs.declared.forest.TheConstants.{UNRANKED}
use Rattle.neg_cycle.specs.ForestWalk.{rank_at, unranked}

-- what a rank counts
abbrev counts : ℕ → ℕ
counts rank = cond (eqb rank UNRANKED) 1 0

at_rank : (rank : ℕ) → rank ≢ UNRANKED → counts rank ≡ 0
at_rank rank h = cond-false (eqb rank UNRANKED) 1 0 (ne_eqb rank UNRANKED h)

at_none : (rank : ℕ) → rank ≡ UNRANKED → counts rank ≡ 1
at_none rank h = cond-true (eqb rank UNRANKED) 1 0 (eq-eqb rank UNRANKED h)

pub some_unranked : (ranks : List ℕ) (node : ℕ) → node < length ranks → rank_at ranks node ≡ UNRANKED → 1 ≤ unranked ranks
some_unranked ranks node inside none =
    let least = get_or-le-sum_by counts ranks node 0 inside in
    omega (arith, at_none (get_or ranks node 0) none)

-- a node that had no rank gets one
pub unranked_less : (ranks : List ℕ) (node rank : ℕ) → node < length ranks → rank_at ranks node ≡ UNRANKED → rank ≢ UNRANKED →
    unranked (set ranks node rank) + 1 ≡ unranked ranks
unranked_less ranks node rank inside none some =
    let change = sum_by-set counts ranks node rank 0 inside in
    omega (arith, at_none (get_or ranks node 0) none, at_rank rank some)

-- a rank in place of another
pub unranked_same : (ranks : List ℕ) (node rank : ℕ) → node < length ranks → rank_at ranks node ≢ UNRANKED → rank ≢ UNRANKED →
    unranked (set ranks node rank) ≡ unranked ranks
unranked_same ranks node rank inside had some =
    let change = sum_by-set counts ranks node rank 0 inside in
    omega (arith, at_rank (get_or ranks node 0) had, at_rank rank some)

pub all_unranked : (n : ℕ) → unranked (replicate n UNRANKED) ≡ n
all_unranked zero = refl
all_unranked (suc n) = omega (arith, sum_by-cons counts UNRANKED (replicate n UNRANKED), all_unranked n)
