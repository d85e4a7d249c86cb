-- Labels with a ranking of the nodes by their parents.
use Rattle.std.proofs.Common.{◌≡◌, ℕ, zero, suc, ◌*◌, ◌^◌, ◌<◌, true, ℤ, pos, negsuc, ◌+ℤ◌, ◌≤ℤ◌, ◌<ℤ◌, List, length, get_or, unsigned_abs, Option, None, Some, MatchOption, IfSome, ◌∙◌, subst, inr, arith}
use Rattle.std.specs.List.{All}
use Rattle.std.proofs.lemmas.Int.{ints}
use Rattle.std.proofs.lemmas.List.Elements.{All-from_get_or}
use Rattle.words.specs.Lists.{total}
use Rattle.bound_graph.specs.declared.arc.Arc.{Arc}
use Rattle.neg_cycle.specs.declared.forest.Parent.{Parent}
use Rattle.neg_cycle.specs.Forest.{parent_at, IsRanking}
use Rattle.neg_cycle.specs.Labels.{IsParentOf, IsWithin, IsLabelling, Fell}
use Rattle.neg_cycle.proofs.Relaxing.{cost_low}
use Rattle.words.proofs.Sums.{total_low}

-- the same label with another ranking
label_ranked : (arcs : List (Option Arc)) (distances : List ℤ) (ranks fresh : List ℕ) (node : ℕ) (parent : Option Parent) → MatchOption parent (IsWithin 1 (get_or distances node (pos 0))) (IsParentOf arcs distances ranks node) → IfSome parent (λ p. get_or fresh p.tail 0 < get_or fresh node 0) → MatchOption parent (IsWithin 1 (get_or distances node (pos 0))) (IsParentOf arcs distances fresh node)
label_ranked arcs distances ranks fresh node None old falls = old
label_ranked arcs distances ranks fresh node (Some parent) old falls = record {
  arc = old.arc;
  there = old.there;
  valid = old.valid;
  tail = old.tail;
  head = old.head;
  reached = old.reached;
  strict = inr falls;
}

-- one step up the parents
step_low : (arcs : List (Option Arc)) (distances : List ℤ) (ranks fresh : List ℕ) (bound node : ℕ) (parent : Option Parent) → MatchOption parent (IsWithin 1 (get_or distances node (pos 0))) (IsParentOf arcs distances ranks node) → IfSome parent (λ p. get_or fresh p.tail 0 < get_or fresh node 0) → get_or fresh node 0 < suc bound → ((tail : ℕ) → tail < length distances → get_or fresh tail 0 < bound → IsWithin bound (get_or distances tail (pos 0))) → IsWithin (suc bound) (get_or distances node (pos 0))
step_low arcs distances ranks fresh bound node None old falls below lower =
    let start : IsWithin 1 (get_or distances node (pos 0)) = old in
    omega (arith, ints)
step_low arcs distances ranks fresh bound node (Some parent) old falls below lower =
    let tail : parent.tail < length distances = subst (λ n. n < length distances) old.tail old.valid.tail in
    let falls_to : get_or fresh parent.tail 0 < get_or fresh node 0 = falls in
    let at_tail = lower parent.tail tail (omega arith) in
    let reached = old.reached in
    let cost = cost_low old.arc.cost (4 * 10 ^ 15) old.valid.cost in
    omega (arith, ints)

-- a node of rank below the bound has fallen by less than that many costs
low_by_rank : (arcs : List (Option Arc)) (distances : List ℤ) (parents : List (Option Parent)) (ranks fresh : List ℕ) → ((node : ℕ) → node < length distances → MatchOption (parent_at parents node) (IsWithin 1 (get_or distances node (pos 0))) (IsParentOf arcs distances ranks node)) → ((node : ℕ) → IfSome (parent_at parents node) (λ p. get_or fresh p.tail 0 < get_or fresh node 0)) → (bound node : ℕ) → node < length distances → get_or fresh node 0 < bound → IsWithin bound (get_or distances node (pos 0))
low_by_rank arcs distances parents ranks fresh each falls zero node h below = absurd (omega arith)
low_by_rank arcs distances parents ranks fresh each falls (suc bound) node h below =
    step_low arcs distances ranks fresh bound node (parent_at parents node) (each node h) (falls node) below (low_by_rank arcs distances parents ranks fresh each falls bound)

-- the labels with a fresh ranking
pub ranked : (arcs : List (Option Arc)) (bound : ℕ) (distances : List ℤ) (parents : List (Option Parent)) (ranks fresh : List ℕ) → IsLabelling arcs bound distances parents ranks → IsRanking parents fresh → IsLabelling arcs (length distances) distances parents fresh
ranked arcs bound distances parents ranks fresh labels ranking =
    let bounded : (node : ℕ) → node < length distances → get_or fresh node 0 < length distances =
    λ node h. let small = ranking.small node 0 (omega (arith, ranking.nodes, labels.parents_of)) in omega (arith, labels.parents_of) in
    record {
      parents_of = labels.parents_of;
      ranks_of = ranking.nodes ∙ labels.parents_of;
      bounded = bounded;
      high = labels.high;
      low = λ node h. low_by_rank arcs distances parents ranks fresh labels.each ranking.falls (length distances) node h (bounded node h);
      each = λ node h. label_ranked arcs distances ranks fresh node (parent_at parents node) (labels.each node h) (ranking.falls node);
    }

-- the tail of each parent is among the nodes
tail_within : (arcs : List (Option Arc)) (distances : List ℤ) (ranks : List ℕ) (node count : ℕ) (parent : Option Parent) → count ≡ length distances → MatchOption parent (IsWithin 1 (get_or distances node (pos 0))) (IsParentOf arcs distances ranks node) → IfSome parent (λ p. p.tail < count)
tail_within arcs distances ranks node count None same label = tt
tail_within arcs distances ranks node count (Some parent) same label =
    let tail = label.valid.tail in
    let is = label.tail in
    omega arith

pub tails_within : (arcs : List (Option Arc)) (bound : ℕ) (distances : List ℤ) (parents : List (Option Parent)) (ranks : List ℕ) → IsLabelling arcs bound distances parents ranks → All (λ parent. IfSome parent (λ p. p.tail < length parents)) parents
tails_within arcs bound distances parents ranks labels =
    All-from_get_or (λ (parent : Option Parent). IfSome parent (λ p. p.tail < length parents)) parents None (λ node h. tail_within arcs distances ranks node (length parents) (parent_at parents node) labels.parents_of (labels.each node (omega (arith, labels.parents_of))))

-- how far the distances together are above the least that a ranking leaves them
pub height : List ℤ → ℕ
height distances = unsigned_abs (total distances +ℤ pos (length distances * (4 * 10 ^ 15 * length distances)))

size_falls : (a b : ℤ) → pos 0 ≤ℤ a → a <ℤ b → unsigned_abs a < unsigned_abs b
size_falls (pos a) (pos b) low below = omega (arith, ints)
size_falls (pos a) (negsuc b) low below = absurd (omega (arith, ints))
size_falls (negsuc a) b low below = absurd (omega (arith, ints))

pub height_falls : (arcs : List (Option Arc)) (old new : List ℤ) (parents : List (Option Parent)) (ranks : List ℕ) → length new ≡ length old → IsLabelling arcs (length new) new parents ranks → Fell true old new → height new < height old
unfolding height
height_falls arcs old new parents ranks same labels fell =
    let low = total_low new (4 * 10 ^ 15 * length new) labels.low in
    let most : ℕ = length new * (4 * 10 ^ 15 * length new) in
    let above : (total new +ℤ pos most) <ℤ (total old +ℤ pos most) = omega (arith, ints) in
    rw (← same) (size_falls (total new +ℤ pos most) (total old +ℤ pos most) low above)
