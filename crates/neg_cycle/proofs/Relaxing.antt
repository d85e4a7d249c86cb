-- What relaxing an arc keeps of the labels.
use Rattle.std.proofs.Common.{◌≡◌, ◌≢◌, ℕ, ◌+◌, ◌*◌, ◌^◌, ◌<◌, ◌≤◌, ℤ, pos, negsuc, ◌+ℤ◌, ◌≤ℤ◌, ◌<ℤ◌, List, Bool, true, false, true≢false, IsTrue, ◌↔◌, Option, None, Some, MatchOption, length, get_or, set, unsigned_abs, refl, sym, ap, ◌∙◌, subst, inl, inr, ⊎_elim, arith, get_or-set_same, get_or-set_other}
use Rattle.std.proofs.lemmas.Int.{ints, by_lt_z}
use Rattle.std.proofs.lemmas.List.{length-set}
use Rattle.std.proofs.lemmas.Bool.{cases_eq}
use Rattle.bound_graph.specs.declared.arc.Arc.{Arc}
use Rattle.bound_graph.specs.Arcs.{arc_at, IsArc}
use Rattle.neg_cycle.specs.declared.forest.Parent.{Parent}
use Rattle.bound_graph.specs.Values.{RespectsIfThere}
use Rattle.neg_cycle.specs.Distances.{AreAtMost}
use Rattle.neg_cycle.specs.Forest.{parent_at}
use Rattle.neg_cycle.specs.Labels.{IsParentOf, IsWithin, IsLabelling, Lowers, Fell}
use Rattle.neg_cycle.specs.declared.labels.Labels.{Labels}
use Rattle.words.proofs.Sums.{total_falls}

-- an element that was set, and another one
set_here : {A : Type 0} (xs : List A) (i j : ℕ) (y d : A) → i < length xs → j ≡ i → get_or (set xs i y) j d ≡ y
set_here xs i j y d h e = rw e (get_or-set_same xs i y d h)

set_apart : {A : Type 0} (xs : List A) (i j : ℕ) (y d : A) → j ≢ i → get_or (set xs i y) j d ≡ get_or xs j d
set_apart xs i j y d ne = get_or-set_other xs i j y d ne

-- a cost that is not too great is not far below 0
pub cost_low : (cost : ℤ) (size : ℕ) → unsigned_abs cost ≤ size → pos 0 ≤ℤ (cost +ℤ pos size)
cost_low (pos n) size h = omega (arith, ints)
cost_low (negsuc n) size h = omega (arith, ints)

-- the distance of a node set lower
pub at_most_set : (distances : List ℤ) (head : ℕ) (sum : ℤ) → head < length distances → sum <ℤ get_or distances head (pos 0) → AreAtMost (set distances head sum) distances
at_most_set distances head sum has falls = record {
  nodes = length-set distances head sum;
  each = λ node h. ⊎_elim
      (λ (e : node ≡ head).
      let here = set_here distances head node sum (pos 0) has e in
      let same : get_or distances node (pos 0) ≡ get_or distances head (pos 0) = ap (λ n. get_or distances n (pos 0)) e in
      omega (arith, ints))
      (λ (ne : node ≢ head).
      let apart = set_apart distances head node sum (pos 0) ne in
      omega (arith, ints))
      (cases_eq node head);
}

-- a list that keeps the arc and was no higher is no higher than before at the head
pub lowers_set : (arcs : List (Option Arc)) (distances : List ℤ) (i : ℕ) (arc : Arc) (sum : ℤ) → arc_at arcs i ≡ Some arc → arc.tail < length distances → arc.head < length distances → sum ≡ get_or distances arc.tail (pos 0) +ℤ arc.cost → sum <ℤ get_or distances arc.head (pos 0) → Lowers arcs distances (set distances arc.head sum)
lowers_set arcs distances i arc sum there tail head is falls = record {
  below = at_most_set distances arc.head sum head falls;
  keeps = λ other low obeys. record {
    nodes = low.nodes ∙ sym (length-set distances arc.head sum);
    each = λ node h. ⊎_elim
        (λ (e : node ≡ arc.head).
        let here = set_here distances arc.head node sum (pos 0) head e in
        let same : get_or other node (pos 0) ≡ get_or other arc.head (pos 0) = ap (λ n. get_or other n (pos 0)) e in
        let kept : RespectsIfThere other (Some arc) = subst (λ o. RespectsIfThere other o) there (obeys i) in
        let at_tail = low.each arc.tail tail in
        omega (arith, ints))
        (λ (ne : node ≢ arc.head).
        let apart = set_apart distances arc.head node sum (pos 0) ne in
        let at_node = low.each node (omega (arith, length-set distances arc.head sum)) in
        omega (arith, ints))
        (cases_eq node arc.head);
  };
}

-- the parent of another node is still its parent when the head is set lower, with any rank
parent_kept : (arcs : List (Option Arc)) (distances : List ℤ) (ranks : List ℕ) (head : ℕ) (sum : ℤ) (rank node : ℕ) (parent : Parent) → head < length distances → sum <ℤ get_or distances head (pos 0) → node ≢ head → IsParentOf arcs distances ranks node parent → IsParentOf arcs (set distances head sum) (set ranks head rank) node parent
parent_kept arcs distances ranks head sum rank node parent has falls ne old =
    let at_node = set_apart distances head node sum (pos 0) ne in
    let rank_of_node = set_apart ranks head node rank 0 ne in
    let valid : IsArc (length (set distances head sum)) old.arc = rw (length-set distances head sum) old.valid in
    ⊎_elim
    (λ (e : parent.tail ≡ head).
    let at_tail = set_here distances head parent.tail sum (pos 0) has e in
    let same : get_or distances parent.tail (pos 0) ≡ get_or distances head (pos 0) = ap (λ n. get_or distances n (pos 0)) e in
    let old_step = old.reached in
    let step : (get_or (set distances head sum) parent.tail (pos 0) +ℤ old.arc.cost) <ℤ get_or (set distances head sum) node (pos 0) = omega (arith, ints) in
    record { arc = old.arc; there = old.there; valid = valid; tail = old.tail; head = old.head; reached = omega (arith, ints); strict = inl step })
    (λ (other : parent.tail ≢ head).
    let at_tail = set_apart distances head parent.tail sum (pos 0) other in
    let rank_of_tail = set_apart ranks head parent.tail rank 0 other in
    record {
      arc = old.arc;
      there = old.there;
      valid = valid;
      tail = old.tail;
      head = old.head;
      reached = rw (at_tail, at_node) old.reached;
      strict = rw (at_tail, at_node, rank_of_tail, rank_of_node) old.strict;
    })
    (cases_eq parent.tail head)

-- the arc that lowered the head is that of its parent
parent_new : (arcs : List (Option Arc)) (distances : List ℤ) (ranks : List ℕ) (i rank node : ℕ) (arc : Arc) (sum : ℤ) → arc_at arcs i ≡ Some arc → IsArc (length distances) arc → arc.head < length ranks → get_or ranks arc.tail 0 < rank → sum ≡ get_or distances arc.tail (pos 0) +ℤ arc.cost → sum <ℤ get_or distances arc.head (pos 0) → node ≡ arc.head → IsParentOf arcs (set distances arc.head sum) (set ranks arc.head rank) node (record { arc = i; tail = arc.tail })
parent_new arcs distances ranks i rank node arc sum there is_arc has_rank lower is falls e =
    let valid : IsArc (length (set distances arc.head sum)) arc = rw (length-set distances arc.head sum) is_arc in
    let at_node = set_here distances arc.head node sum (pos 0) is_arc.head e in
    let rank_of_node = set_here ranks arc.head node rank 0 has_rank e in
    ⊎_elim
    (λ (loop : arc.tail ≡ arc.head).
    let at_tail = set_here distances arc.head arc.tail sum (pos 0) is_arc.head loop in
    let same : get_or distances arc.tail (pos 0) ≡ get_or distances arc.head (pos 0) = ap (λ n. get_or distances n (pos 0)) loop in
    let step : (get_or (set distances arc.head sum) arc.tail (pos 0) +ℤ arc.cost) <ℤ get_or (set distances arc.head sum) node (pos 0) = omega (arith, ints) in
    record { arc = arc; there = there; valid = valid; tail = refl; head = sym e; reached = omega (arith, ints); strict = inl step })
    (λ (other : arc.tail ≢ arc.head).
    let at_tail = set_apart distances arc.head arc.tail sum (pos 0) other in
    let rank_of_tail = set_apart ranks arc.head arc.tail rank 0 other in
    record { arc = arc; there = there; valid = valid; tail = refl; head = sym e; reached = omega (arith, ints); strict = inr (omega arith) })
    (cases_eq arc.tail arc.head)

label_kept : (arcs : List (Option Arc)) (distances : List ℤ) (ranks : List ℕ) (head : ℕ) (sum : ℤ) (rank node : ℕ) (parent : Option Parent) → head < length distances → sum <ℤ get_or distances head (pos 0) → node ≢ head → MatchOption parent (IsWithin 1 (get_or distances node (pos 0))) (IsParentOf arcs distances ranks node) → MatchOption parent (IsWithin 1 (get_or (set distances head sum) node (pos 0))) (IsParentOf arcs (set distances head sum) (set ranks head rank) node)
label_kept arcs distances ranks head sum rank node None has falls ne old = rw (set_apart distances head node sum (pos 0) ne) old
label_kept arcs distances ranks head sum rank node (Some parent) has falls ne old = parent_kept arcs distances ranks head sum rank node parent has falls ne old

-- the labels after an arc lowered its head
pub relaxed : (arcs : List (Option Arc)) (bound : ℕ) (distances : List ℤ) (parents : List (Option Parent)) (ranks : List ℕ) (i : ℕ) (arc : Arc) (sum : ℤ) → IsLabelling arcs bound distances parents ranks → arc_at arcs i ≡ Some arc → IsArc (length distances) arc → sum ≡ get_or distances arc.tail (pos 0) +ℤ arc.cost → sum <ℤ get_or distances arc.head (pos 0) → IsLabelling arcs (bound + 1) (set distances arc.head sum) (set parents arc.head (Some (record { arc = i; tail = arc.tail }))) (set ranks arc.head bound)
relaxed arcs bound distances parents ranks i arc sum labels there is_arc is falls =
    let lengths = length-set distances arc.head sum in
    let has_rank : arc.head < length ranks = omega (arith, is_arc.head, labels.ranks_of) in
    let has_parent : arc.head < length parents = omega (arith, is_arc.head, labels.parents_of) in
    record {
      parents_of = length-set parents arc.head (Some (record { arc = i; tail = arc.tail })) ∙ labels.parents_of ∙ sym lengths;
      ranks_of = length-set ranks arc.head bound ∙ labels.ranks_of ∙ sym lengths;
      bounded = λ node h. ⊎_elim
          (λ (e : node ≡ arc.head).
          let here = set_here ranks arc.head node bound 0 has_rank e in
          omega arith)
          (λ (ne : node ≢ arc.head).
          let apart = set_apart ranks arc.head node bound 0 ne in
          let old = labels.bounded node (omega arith) in
          omega arith)
          (cases_eq node arc.head);
      high = λ node h.
          let falls_there = (at_most_set distances arc.head sum is_arc.head falls).each node (omega arith) in
          let old = labels.high node (omega arith) in
          omega (arith, ints);
      low = λ node h. ⊎_elim
          (λ (e : node ≡ arc.head).
          let here = set_here distances arc.head node sum (pos 0) is_arc.head e in
          let at_tail = labels.low arc.tail is_arc.tail in
          let cost = cost_low arc.cost (4 * 10 ^ 15) is_arc.cost in
          omega (arith, ints))
          (λ (ne : node ≢ arc.head).
          let apart = set_apart distances arc.head node sum (pos 0) ne in
          let old = labels.low node (omega arith) in
          omega (arith, ints))
          (cases_eq node arc.head);
      each = λ node h. ⊎_elim
          (λ (e : node ≡ arc.head).
          let here : parent_at (set parents arc.head (Some (record { arc = i; tail = arc.tail }))) node ≡ Some (record { arc = i; tail = arc.tail }) = set_here parents arc.head node (Some (record { arc = i; tail = arc.tail })) None has_parent e in
          rw here (parent_new arcs distances ranks i bound node arc sum there is_arc has_rank (labels.bounded arc.tail is_arc.tail) is falls e))
          (λ (ne : node ≢ arc.head).
          let apart : parent_at (set parents arc.head (Some (record { arc = i; tail = arc.tail }))) node ≡ parent_at parents node = set_apart parents arc.head node (Some (record { arc = i; tail = arc.tail })) None ne in
          rw apart (label_kept arcs distances ranks arc.head sum bound node (parent_at parents node) is_arc.head falls ne (labels.each node (omega arith))))
          (cases_eq node arc.head);
    }

-- a greater bound
pub higher : (arcs : List (Option Arc)) (bound more : ℕ) (distances : List ℤ) (parents : List (Option Parent)) (ranks : List ℕ) → bound ≤ more → IsLabelling arcs bound distances parents ranks → IsLabelling arcs more distances parents ranks
higher arcs bound more distances parents ranks at_most labels = record {
  parents_of = labels.parents_of;
  ranks_of = labels.ranks_of;
  bounded = λ node h. let old = labels.bounded node h in omega arith;
  high = labels.high;
  low = λ node h. let old = labels.low node h in omega (arith, ints);
  each = labels.each;
}

pub at_most_refl : (distances : List ℤ) → AreAtMost distances distances
at_most_refl distances = record { nodes = refl; each = λ node h. omega (arith, ints) }

pub at_most_trans : (low middle high : List ℤ) → AreAtMost low middle → AreAtMost middle high → AreAtMost low high
at_most_trans low middle high first second = record {
  nodes = first.nodes ∙ second.nodes;
  each = λ node h.
      let below = first.each node (omega (arith, second.nodes)) in
      let above = second.each node h in
      omega (arith, ints);
}

pub lowers_refl : (arcs : List (Option Arc)) (distances : List ℤ) → Lowers arcs distances distances
lowers_refl arcs distances = record { below = at_most_refl distances; keeps = λ other low obeys. low }

pub lowers_trans : (arcs : List (Option Arc)) (old middle new : List ℤ) → Lowers arcs old middle → Lowers arcs middle new → Lowers arcs old new
lowers_trans arcs old middle new first second = record {
  below = at_most_trans new middle old second.below first.below;
  keeps = λ other low obeys. second.keeps other (first.keeps other low obeys) obeys;
}

-- what is said of the labels before and after an arc that is there is tried
pub record Tried (arcs : List (Option Arc)) (bound i : ℕ) (fell : Bool) (old new : Labels) : Type 0 where
  pub labels : IsLabelling arcs (bound + 1) new.distances.items new.parents.items new.ranks.items
  pub lowers : Lowers arcs old.distances.items new.distances.items
  pub falls : Fell fell old.distances.items new.distances.items
  pub kept : fell ≡ false → RespectsIfThere new.distances.items (arc_at arcs i)

pub tried : (arcs : List (Option Arc)) (bound i : ℕ) (arc : Arc) (fell : Bool) (old new : Labels) → IsLabelling arcs bound old.distances.items old.parents.items old.ranks.items → arc_at arcs i ≡ Some arc → IsArc (length old.distances.items) arc → IsTrue fell ↔ ((get_or old.distances.items arc.tail (pos 0) +ℤ arc.cost) <ℤ get_or old.distances.items arc.head (pos 0)) → (fell ≡ false → new ≡ old) → (fell ≡ true → new.distances.items ≡ set old.distances.items arc.head (get_or old.distances.items arc.tail (pos 0) +ℤ arc.cost)) → (fell ≡ true → new.parents.items ≡ set old.parents.items arc.head (Some (record { arc = i; tail = arc.tail }))) → (fell ≡ true → new.ranks.items ≡ set old.ranks.items arc.head bound) → Tried arcs bound i fell old new
tried arcs bound i arc true old new labels there is_arc when same distances parents ranks =
    let sum : ℤ = get_or old.distances.items arc.tail (pos 0) +ℤ arc.cost in
    let falls : sum <ℤ get_or old.distances.items arc.head (pos 0) = when.0 refl in
    record {
      labels = rw (distances refl, parents refl, ranks refl) (relaxed arcs bound old.distances.items old.parents.items old.ranks.items i arc sum labels there is_arc refl falls);
      lowers = rw (distances refl) (lowers_set arcs old.distances.items i arc sum there is_arc.tail is_arc.head refl falls);
      falls = rw (distances refl) (total_falls old.distances.items arc.head sum is_arc.head falls);
      kept = λ e. absurd (true≢false e);
    }
tried arcs bound i arc false old new labels there is_arc when same distances parents ranks =
    let unchanged = same refl in
    record {
      labels = rw unchanged (higher arcs bound (bound + 1) old.distances.items old.parents.items old.ranks.items (omega arith) labels);
      lowers = rw unchanged (lowers_refl arcs old.distances.items);
      falls = ap (λ (l : Labels). l.distances.items) unchanged;
      kept = λ e. rw (unchanged, there) (by_lt_z (get_or old.distances.items arc.tail (pos 0) +ℤ arc.cost) (get_or old.distances.items arc.head (pos 0)) (λ lower. absurd (true≢false (sym (when.1 lower)))) (λ kept. kept));
    }
