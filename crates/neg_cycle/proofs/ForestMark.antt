-- A walk that goes on to a node that has no rank.
use Rattle.std.proofs.Common.{◌≡◌, ◌≢◌, ℕ, ◌+◌, ◌-◌, ◌^◌, ◌<◌, ◌≤◌, List, [], ◌∷◌, ◌++◌, length, get_or, set, drop, Option, Some, IfSome, refl, sym, ap, ◌∙◌, ⊎_elim, arith}
use Rattle.std.proofs.lemmas.Grind.{common_steps}
use Rattle.std.proofs.lemmas.Bool.{cases_eq}
use Rattle.std.proofs.lemmas.Option.{IfSome_then}
use Rattle.std.proofs.lemmas.List.{length-set, get_or-set_same, get_or-set_other, get_or_append_left, get_or_push, length_push, length-drop, get_or-drop}
use Rattle.neg_cycle.specs.declared.forest.Parent.{Parent}
use Rattle.neg_cycle.specs.declared.forest.TheConstants.{UNRANKED}
use Rattle.neg_cycle.specs.ForestWalk.{rank_at, tail_at, IsWalk}
use Rattle.neg_cycle.proofs.ForestCount.{unranked_less}
use Rattle.neg_cycle.proofs.ForestCycle.{IsClosed}

-- A walk, and the node to which it goes on.
pub record GoesOn (parents : List (Option Parent)) (done : ℕ) (walk ranks : List ℕ) (node : ℕ) : Type 0 where
  pub few : length parents < 2 ^ 32
  pub so_far : IsWalk parents done walk ranks
  pub inside : node < length parents
  pub next : (place : ℕ) → place + 1 ≡ length walk → tail_at parents (get_or walk place 0) ≡ Some node

-- what is known of the ranks, where one node gets one
pub other_ranks : (ranks : List ℕ) (node rank v : ℕ) → v ≢ node → rank_at (set ranks node rank) v ≡ rank_at ranks v
other_ranks ranks node rank v h = get_or-set_other ranks node v rank 0 h

falls_on : (parents : List (Option Parent)) (done : ℕ) (walk ranks : List ℕ) (node : ℕ) → GoesOn parents done walk ranks node →
    rank_at ranks node ≡ UNRANKED → (v : ℕ) → rank_at (set ranks node (done + length walk)) v < done →
    IfSome (tail_at parents v) (λ tail. rank_at (set ranks node (done + length walk)) tail < rank_at (set ranks node (done + length walk)) v)
falls_on parents done walk ranks node on none v h =
    let within : node < length ranks = omega (arith, on.inside, on.so_far.nodes) in
    let same : rank_at (set ranks node (done + length walk)) node ≡ done + length walk = get_or-set_same ranks node (done + length walk) 0 within in
    let apart : v ≢ node = λ e. absurd (omega (arith, same, ap (rank_at (set ranks node (done + length walk))) e)) in
    let is = other_ranks ranks node (done + length walk) v apart in
    let before : rank_at ranks v < done = omega arith in
    IfSome_then (tail_at parents v) (on.so_far.falls v before)
    (λ tail less.
    let elsewhere : tail ≢ node = λ e. absurd (omega (arith, ap (rank_at ranks) e, none, on.so_far.count, on.few)) in
    omega (arith, is, other_ranks ranks node (done + length walk) tail elsewhere))

met_on : (parents : List (Option Parent)) (done : ℕ) (walk ranks : List ℕ) (node : ℕ) → GoesOn parents done walk ranks node →
    (v : ℕ) → v < length parents → done ≤ rank_at (set ranks node (done + length walk)) v → rank_at (set ranks node (done + length walk)) v ≢ UNRANKED →
    (rank_at (set ranks node (done + length walk)) v < done + length (walk ++ node ∷ []))
    × (get_or (walk ++ node ∷ []) (rank_at (set ranks node (done + length walk)) v - done) 0 ≡ v)
met_on parents done walk ranks node on v inside low some =
    let within : node < length ranks = omega (arith, on.inside, on.so_far.nodes) in
    let same : rank_at (set ranks node (done + length walk)) node ≡ done + length walk = get_or-set_same ranks node (done + length walk) 0 within in
    let longer = length_push walk node in
    ⊎_elim
    (λ e.
    let is : rank_at (set ranks node (done + length walk)) v ≡ done + length walk = ap (rank_at (set ranks node (done + length walk))) e ∙ same in
    let place : rank_at (set ranks node (done + length walk)) v - done ≡ length walk = omega arith in
    (omega arith, ap (λ p. get_or (walk ++ node ∷ []) p 0) place ∙ get_or_push walk node 0 (length walk) refl ∙ sym e))
    (λ apart.
    let is : rank_at (set ranks node (done + length walk)) v ≡ rank_at ranks v = other_ranks ranks node (done + length walk) v apart in
    let met = on.so_far.met v inside (omega arith) (λ e. some (is ∙ e)) in
    let at : rank_at ranks v - done < length walk = omega (arith, met.0) in
    (omega (arith, met.0), ap (λ p. get_or (walk ++ node ∷ []) (p - done) 0) is ∙ get_or_append_left walk (node ∷ []) 0 (rank_at ranks v - done) at ∙ met.1))
    (cases_eq v node)

pub marked : (parents : List (Option Parent)) (done : ℕ) (walk ranks : List ℕ) (node : ℕ) → GoesOn parents done walk ranks node →
    rank_at ranks node ≡ UNRANKED → IsWalk parents done (walk ++ node ∷ []) (set ranks node (done + length walk))
marked parents done walk ranks node on none =
    let within : node < length ranks = omega (arith, on.inside, on.so_far.nodes) in
    let small : done + length walk < 2 ^ 32 = omega (arith, on.so_far.count, on.few) in
    record {
      nodes = length-set ranks node (done + length walk) ∙ on.so_far.nodes;
      falls = λ v h. falls_on parents done walk ranks node on none v h;
      within = λ place h. grind (arith, common_steps, on.so_far.within);
      places = λ place h. grind (arith, common_steps, on.so_far.places);
      steps = λ place h. grind (arith, common_steps, on.so_far.steps, on.next);
      met = met_on parents done walk ranks node on;
      count = omega (arith, on.so_far.count, length_push walk node, unranked_less ranks node (done + length walk) within none (omega arith));
    }

-- The walk comes back to a node that it met.
pub closed : (parents : List (Option Parent)) (done : ℕ) (walk ranks : List ℕ) (node : ℕ) → GoesOn parents done walk ranks node →
    done ≤ rank_at ranks node → rank_at ranks node ≢ UNRANKED → IsClosed parents (drop (rank_at ranks node - done) walk)
closed parents done walk ranks node on low some =
    let met = on.so_far.met node on.inside low some in
    let at : rank_at ranks node - done < length walk = omega (arith, met.0) in
    let len = length-drop (rank_at ranks node - done) walk in
    let start : rank_at ranks node - done + 0 ≡ rank_at ranks node - done = omega arith in
    let back : get_or (drop (rank_at ranks node - done) walk) 0 0 ≡ node =
    get_or-drop (rank_at ranks node - done) walk 0 0 ∙ ap (λ p. get_or walk p 0) start ∙ met.1
    in
    record {
      some = omega arith;
      steps = λ i h. grind (arith, common_steps, on.so_far.steps);
      last = λ i h. rw (back, get_or-drop (rank_at ranks node - done) walk i 0) (on.next (rank_at ranks node - done + i) (omega arith));
      apart = λ i j h k e. grind (arith, common_steps, on.so_far.places);
    }
