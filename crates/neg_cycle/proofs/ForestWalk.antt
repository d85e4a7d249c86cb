-- A walk under way, at the front of a path.
use Rattle.std.proofs.Common.{◌≡◌, ◌≢◌, ℕ, ◌+◌, ◌-◌, ◌^◌, ◌<◌, ◌≤◌, List, [], ◌∷◌, ◌++◌, length, get_or, set, take, drop, Option, None, Some, IfSome, All, refl, sym, subst, ap, ◌∙◌, ⊎_elim, arith}
use Rattle.std.proofs.lemmas.Bool.{cases_eq}
use Rattle.std.proofs.lemmas.List.{get_or_read, length-set, length-take-le, get_or-set_same, take_more_set, get_or_push, length_push, drop-take}
use Rattle.neg_cycle.specs.declared.forest.Parent.{Parent}
use Rattle.neg_cycle.specs.declared.forest.Walk.TheVariants.{Ended, Cycle}
use Rattle.neg_cycle.specs.declared.forest.TheConstants.{UNRANKED}
use Rattle.neg_cycle.specs.Forest.{IsParentCycle, parent_at}
use Rattle.neg_cycle.specs.ForestWalk.{rank_at, tail_at, IsWalk, StayRanked, Tells}
use Rattle.neg_cycle.proofs.ForestCount.{some_unranked}
use Rattle.neg_cycle.proofs.ForestCycle.{cycle}
use Rattle.neg_cycle.proofs.ForestMark.{GoesOn, other_ranks, marked, closed}

-- The parent that a node has leaves a node.
pub parent_in : (parents : List (Option Parent)) (node : ℕ) (parent : Parent) → All (λ parent. IfSome parent (λ p. p.tail < length parents)) parents →
    node < length parents → parent_at parents node ≡ Some parent → (tail_at parents node ≡ Some parent.tail) × (parent.tail < length parents)
parent_in parents node parent all inside is =
    let here : IfSome (parent_at parents node) (λ p. p.tail < length parents) = all node None inside in
    (rw is refl, rw is at here)

-- The first nodes of the path are a walk that goes on to a node.
pub record IsUnderWay (parents : List (Option Parent)) (done first : ℕ) (before ranks path : List ℕ) (count node : ℕ) : Type 0 where
  pub on : GoesOn parents done (take count path) ranks node
  pub long : length path ≡ length parents
  pub fits : count ≤ length path
  pub begun : rank_at ranks first ≡ UNRANKED → node ≡ first
  pub stay : StayRanked before ranks

-- A walk at whose end stands a node.
pub record IsMarked (parents : List (Option Parent)) (done first : ℕ) (before ranks path : List ℕ) (count node : ℕ) : Type 0 where
  pub few : length parents < 2 ^ 32
  pub so_far : IsWalk parents done (take count path) ranks
  pub long : length path ≡ length parents
  pub fits : count ≤ length path
  pub last : (place : ℕ) → place + 1 ≡ length (take count path) → get_or (take count path) place 0 ≡ node
  pub first_ranked : rank_at ranks first ≢ UNRANKED
  pub stay : StayRanked before ranks

-- what is read at the node is its rank
pub read : (parents : List (Option Parent)) (done first : ℕ) (before ranks path : List ℕ) (count node rank : ℕ) →
    IsUnderWay parents done first before ranks path count node → rank ≡ get_or ranks node rank → rank ≡ rank_at ranks node
read parents done first before ranks path count node rank way is =
    get_or_read ranks node rank (omega (arith, way.on.inside, way.on.so_far.nodes)) is 0

pub room : (parents : List (Option Parent)) (done first : ℕ) (before ranks path : List ℕ) (count node : ℕ) →
    IsUnderWay parents done first before ranks path count node → rank_at ranks node ≡ UNRANKED → (done + count < 2 ^ 32) × (count < length path)
room parents done first before ranks path count node way none =
    let some = some_unranked ranks node (omega (arith, way.on.inside, way.on.so_far.nodes)) none in
    let len = length-take-le count path way.fits in
    (omega (arith, way.on.so_far.count, way.on.few), omega (arith, way.on.so_far.count, way.long))

pub mark : (parents : List (Option Parent)) (done first : ℕ) (before ranks path : List ℕ) (count node : ℕ) →
    IsUnderWay parents done first before ranks path count node → rank_at ranks node ≡ UNRANKED →
    IsMarked parents done first before (set ranks node (done + count)) (set path count node) (count + 1) node
mark parents done first before ranks path count node way none =
    let fits = room parents done first before ranks path count node way none in
    let len : length (take count path) ≡ count = length-take-le count path way.fits in
    let longer : take (count + 1) (set path count node) ≡ take count path ++ node ∷ [] = take_more_set path count node fits.1 in
    let same : rank_at (set ranks node (done + count)) node ≡ done + count = get_or-set_same ranks node (done + count) 0 (omega (arith, way.on.inside, way.on.so_far.nodes)) in
    let other = other_ranks ranks node (done + count) in
    record {
      few = way.on.few;
      so_far = rw longer (subst (λ (n : ℕ). IsWalk parents done (take count path ++ node ∷ []) (set ranks node (done + n))) len (marked parents done (take count path) ranks node way.on none));
      long = length-set path count node ∙ way.long;
      fits = omega (arith, length-set path count node, fits.1);
      last = λ place h. rw longer (get_or_push (take count path) node 0 place (omega (arith, ap length longer, length_push (take count path) node)));
      first_ranked = λ e. ⊎_elim
          (λ at. omega (arith, ap (rank_at (set ranks node (done + count))) at, fits.0))
          (λ apart. apart (sym (way.begun (sym (other first apart) ∙ e))))
          (cases_eq first node);
      stay = λ v h e. ⊎_elim
          (λ at. omega (arith, ap (rank_at (set ranks node (done + count))) at, fits.0))
          (λ apart. way.stay v h (sym (other v apart) ∙ e))
          (cases_eq v node);
    }

-- The node at the end has a parent.
pub go_on : (parents : List (Option Parent)) (done first : ℕ) (before ranks path : List ℕ) (count node tail : ℕ) →
    IsMarked parents done first before ranks path count node → tail_at parents node ≡ Some tail → tail < length parents →
    IsUnderWay parents done first before ranks path count tail
go_on parents done first before ranks path count node tail at parent inside = record {
  on = record {
    few = at.few;
    so_far = at.so_far;
    inside = inside;
    next = λ place h. ap (tail_at parents) (at.last place h) ∙ parent;
  };
  long = at.long;
  fits = at.fits;
  begun = λ e. absurd (at.first_ranked e);
  stay = at.stay;
}

-- It has none.
pub root : (parents : List (Option Parent)) (done first : ℕ) (before ranks path : List ℕ) (count node : ℕ) →
    IsMarked parents done first before ranks path count node → tail_at parents node ≡ None → Tells parents done path ranks (Ended count)
root parents done first before ranks path count node at none =
    (at.fits, at.so_far, λ place h. rw (ap (tail_at parents) (at.last place h) ∙ none) tt)

-- It goes on to a node that is done.
pub met_done : (parents : List (Option Parent)) (done first : ℕ) (before ranks path : List ℕ) (count node : ℕ) →
    IsUnderWay parents done first before ranks path count node → rank_at ranks node < done → Tells parents done path ranks (Ended count)
met_done parents done first before ranks path count node way small =
    (way.fits, way.on.so_far, λ place h. rw (way.on.next place h) small)

-- It goes on to a node that it met.
pub met_again : (parents : List (Option Parent)) (done first : ℕ) (before ranks path : List ℕ) (count node : ℕ) →
    IsUnderWay parents done first before ranks path count node → done ≤ rank_at ranks node → rank_at ranks node ≢ UNRANKED →
    Tells parents done path ranks (Cycle (record { start = rank_at ranks node - done; end = count }))
met_again parents done first before ranks path count node way low some =
    let met = way.on.so_far.met node way.on.inside low some in
    let len : length (take count path) ≡ count = length-take-le count path way.fits in
    let start : rank_at ranks node - done < count = omega (arith, met.0) in
    let split : rank_at ranks node - done + (count - (rank_at ranks node - done)) ≡ count = omega arith in
    let is : drop (rank_at ranks node - done) (take count path) ≡ take (count - (rank_at ranks node - done)) (drop (rank_at ranks node - done) path) =
    ap (λ n. drop (rank_at ranks node - done) (take n path)) (sym split) ∙ drop-take (rank_at ranks node - done) (count - (rank_at ranks node - done)) path
    in
    (omega arith, way.fits, subst (IsParentCycle parents) is (cycle parents (drop (rank_at ranks node - done) (take count path)) (closed parents done (take count path) ranks node way.on low some)))
