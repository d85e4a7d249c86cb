-- A search goes over one step more.
use Rattle.std.proofs.Common.{◌≡◌, ℕ, zero, suc, ◌+◌, ◌/◌, ◌<◌, Bool, true, false, ℤ, pos, ◌≤ℤ◌, ◌<ℤ◌, List, [], ◌∷◌, ◌++◌, Option, None, Some, Contains, length, get_or, set, inl, inr, refl, sym, ap, ◌∙◌, subst, ⊎_elim, arith, get_or-set_same}
use Rattle.std.proofs.lemmas.Int.{ints, clamps, by_lt_z}
use Rattle.std.proofs.lemmas.List.{length-set}
use Rattle.words.proofs.Lists.{contains_cases}
use Rattle.bound_graph.specs.Reverses.{turned, is_back}
use Rattle.flow_core.specs.Layout.{arcs_of, arc_numbered, nodes_of}
use Rattle.flow_core.specs.State.{NetworkState, IsNetwork, residual_of}
use Rattle.flow_core.specs.Views.{arc_both_ways}
use Rattle.flow_core.proofs.Sizes.{arc_valid}
use Rattle.path_flow.specs.declared.search.Task.{Task}
use Rattle.path_flow.specs.declared.search.Label.{Label}
use Rattle.path_flow.specs.Steps.{HasNoNegative}
use Rattle.path_flow.specs.Search.{HasRoom, IsNear, label_after, label_at, step_length, takes_from}
use Rattle.path_flow.specs.Reach.{Reach, is_better, lowered}
use Rattle.path_flow.specs.Searching.{IsLast, IsSearching, key_at, one_if_open, open_nodes}
use Rattle.path_flow.proofs.Expanding.{IsBetter, last_stays, lowered_keeps, passed, settled_apart, with_label}
use Rattle.path_flow.proofs.Numbers.{number_half, number_back, number_of}
use Rattle.path_flow.proofs.Reaching.{lower_by_test, not_lower_by_test, lowered_again, lowered_first, lowered_not}
use Rattle.path_flow.proofs.Shifting.{lengths_not_negative, turned_valid}
use Rattle.path_flow.proofs.Trees.{room_some, same_label}

-- the step is that of one of the numbers
abbrev pub IsAmong : List ℕ → ℕ → Bool → Type 0
IsAmong numbers arc back = Contains numbers (number_of arc back)

-- ---- how many nodes are open

set_open : (labels : List (Option Label)) (keys : List (Option ℤ)) (h : ℕ) (label : Label) (key : ℤ) → h < length labels → length keys ≡ length labels
    → one_if_open (get_or labels h None) (get_or keys h None) ≡ 1 → open_nodes (set labels h (Some label)) (set keys h (Some key)) ≡ open_nodes labels keys
set_open [] keys h label key below same counted = absurd (omega (arith, below))
set_open (l ∷ labels) [] h label key below same counted = absurd (omega (arith, same))
set_open (l ∷ labels) (k ∷ keys) zero label key below same counted = omega (arith, counted)
set_open (l ∷ labels) (k ∷ keys) (suc h) label key below same counted = omega (arith, set_open labels keys h label key (omega (arith, below)) (omega (arith, same)) counted)

set_closed : (labels : List (Option Label)) (keys : List (Option ℤ)) (h : ℕ) → h < length labels → length keys ≡ length labels
    → one_if_open (get_or labels h None) (get_or keys h None) ≡ 1 → one_if_open (get_or labels h None) None ≡ 0 → open_nodes labels (set keys h None) + 1 ≡ open_nodes labels keys
set_closed [] keys h below same counted closed = absurd (omega (arith, below))
set_closed (l ∷ labels) [] h below same counted closed = absurd (omega (arith, same))
set_closed (l ∷ labels) (k ∷ keys) zero below same counted closed = omega (arith, counted, closed)
set_closed (l ∷ labels) (k ∷ keys) (suc h) below same counted closed = omega (arith, set_closed labels keys h (omega (arith, below)) (omega (arith, same)) counted closed)

-- a node that comes out of the heap is open no more
pub one_closed : (reach : Reach) (node : ℕ) (key : ℤ) (label : Label) → node < length reach.labels → length reach.keys ≡ length reach.labels → key_at reach node ≡ Some key → label_at reach.labels node ≡ Some label
    → open_nodes reach.labels (set reach.keys node None) + 1 ≡ open_nodes reach.labels reach.keys
one_closed reach node key label below same waits is =
    set_closed reach.labels reach.keys node below same (λ i. one_if_open (is i) (waits i)) (ap (λ (option : Option Label). one_if_open option None) is)

is_open : (label : Option Label) (key : Option ℤ) → ((l : Label) → label ≡ Some l → key ≡ None → ⊥) → one_if_open label key ≡ 1
is_open None key counted = refl
is_open (Some label) (Some key) counted = refl
is_open (Some label) None counted = absurd (counted label refl refl)

-- ---- one step

pub record IsStepped (net : NetworkState) (task : Task) (numbers : List ℕ) (u : ℕ) (last : Label) (reach new : Reach) : Type 0 where
  pub searching : IsSearching net task (IsAmong numbers) new
  pub is_last : IsLast task new u last
  pub same : length new.keys ≡ length new.labels
  pub counted : open_nodes new.labels new.keys ≡ open_nodes reach.labels reach.keys

by_test : {P : Type 0} (b : Bool) → (b ≡ true → P) → (b ≡ false → P) → P
by_test true one other = one refl
by_test false one other = other refl

room_at : (net : NetworkState) (task : Task) (number arc : ℕ) (back : Bool) → number ≡ number_of arc back → HasRoom net task.direction arc back → HasRoom net task.direction (number / 2) (is_back number)
room_at net task number arc back e room =
    let half : arc ≡ number / 2 = sym (number_half arc back) ∙ ap (λ n. n / 2) (sym e) in
    let odd : back ≡ is_back number = sym (number_back arc back) ∙ ap is_back (sym e) in
    subst (λ a. HasRoom net task.direction a (is_back number)) half (subst (λ b. HasRoom net task.direction arc b) odd room)

abbrev NearAt : NetworkState → Task → List (Option Label) → ℕ → Bool → Label → Type 0
NearAt net task labels arc back from = IsNear from (step_length net task.direction arc back) (label_at labels (turned back (arc_numbered net.network arc)).head)

near_at : (net : NetworkState) (task : Task) (labels : List (Option Label)) (number arc : ℕ) (back : Bool) (last from : Label) → number ≡ number_of arc back → from ≡ last
    → NearAt net task labels (number / 2) (is_back number) last → NearAt net task labels arc back from
near_at net task labels number arc back last from e same near =
    let half : number / 2 ≡ arc = ap (λ n. n / 2) e ∙ number_half arc back in
    let odd : is_back number ≡ back = ap is_back e ∙ number_back arc back in
    subst (λ a. NearAt net task labels a back from) half
    (subst (λ b. NearAt net task labels (number / 2) b from) odd
    (subst (λ (l : Label). NearAt net task labels (number / 2) (is_back number) l) (sym same) near))

-- the step of a number is not left any more, once the node after it is near
past : (net : NetworkState) (task : Task) (reach : Reach) (u number : ℕ) (numbers : List ℕ) (last : Label)
    → IsSearching net task (IsAmong (number ∷ numbers)) reach → IsLast task reach u last → (arc_both_ways net.network number).tail ≡ u
    → (HasRoom net task.direction (number / 2) (is_back number) → NearAt net task reach.labels (number / 2) (is_back number) last)
    → IsSearching net task (IsAmong numbers) reach
past net task reach u number numbers last so_far is_last tail near =
    passed net task reach (IsAmong (number ∷ numbers)) (IsAmong numbers) so_far (λ arc back room from settled left.
    ⊎_elim
    (λ (e : number ≡ number_of arc back).
    let ends : (turned back (arc_numbered net.network arc)).tail ≡ u =
    sym (λ i. (turned ((ap is_back e ∙ number_back arc back) i) (arc_numbered net.network ((ap (λ n. n / 2) e ∙ number_half arc back) i))).tail) ∙ tail in
    let same = same_label (label_at reach.labels u) from last (ap (label_at reach.labels) (sym ends) ∙ settled.is) is_last.settled.is in
    inr (near_at net task reach.labels number arc back last from e same (near (room_at net task number arc back e room))))
    (λ later. inl later)
    (contains_cases number numbers (number_of arc back) left))

not_better : (label : Label) (option : Option Label) → is_better label option ≡ false → (before : Label) × (option ≡ Some before) × (before.distance ≤ℤ label.distance)
not_better label None worse = absurd cc
not_better label (Some before) worse = (before, refl, not_lower_by_test label.distance before.distance worse)

if_better : (label : Label) (option : Option Label) (before : Label) → is_better label option ≡ true → option ≡ Some before → label.distance <ℤ before.distance
if_better label option before better is = lower_by_test label.distance before.distance (sym (ap (is_better label) is) ∙ better)

known : {P : Type 0} (option : Option Label) → (option ≡ None → P) → ((l : Label) → option ≡ Some l → P) → P
known None none some = none refl
known (Some l) none some = some l refl

lowered_better : (reach : Reach) (h : ℕ) (label : Label) → is_better label (label_at reach.labels h) ≡ true → (reached : List ℕ) × (lowered reach h label ≡ with_label reach h label reached)
lowered_better reach h label better = known (label_at reach.labels h)
    (λ none. (reach.reached ++ h ∷ [], lowered_first reach h label none))
    (λ before some. (reach.reached, lowered_again reach h label before some better))

better_is : (net : NetworkState) (task : Task) (reach : Reach) (u number : ℕ) (last : Label) (left : ℕ → Bool → Type 0) → IsNetwork net → ((k : ℕ) → k < length (arcs_of net.network) → HasNoNegative net k)
    → IsSearching net task left reach → IsLast task reach u last → (arc_both_ways net.network number).tail ≡ u → length reach.keys ≡ length reach.labels
    → HasRoom net task.direction (number / 2) (is_back number)
    → is_better (label_after net task.direction last number) (label_at reach.labels (arc_both_ways net.network number).head) ≡ true
    → IsBetter net task reach u last (arc_both_ways net.network number).head (label_after net task.direction last number)
better_is net task reach u number last left network all so_far is_last tail same room better =
    let label = label_after net task.direction last number in
    let h = (arc_both_ways net.network number).head in
    let some = room_some net task reach.labels u last so_far.tree is_last.settled.is in
    let valid = turned_valid (nodes_of net.network) (is_back number) (arc_numbered net.network (number / 2)) (arc_valid net.network (number / 2) network.layout room.below) in
    let size = so_far.tree.size in
    record {
      step = room;
      tail = tail;
      head = refl;
      hops = refl;
      some = omega (arith, ints, clamps, some, room.room);
      residual = omega (arith, ints, clamps);
      no_more = omega (arith, ints, clamps);
      distance = refl;
      long = lengths_not_negative net task.direction (number / 2) (is_back number) all room;
      labels = omega (arith, valid.head, size);
      keys = omega (arith, valid.head, size, same);
      better = λ before is. if_better label (label_at reach.labels h) before better is;
    }

-- the step reaches its node on a shorter way
step_lowers : (net : NetworkState) (task : Task) (reach : Reach) (u number : ℕ) (numbers : List ℕ) (last : Label) (reached : List ℕ)
    → IsSearching net task (IsAmong (number ∷ numbers)) reach → IsLast task reach u last → (arc_both_ways net.network number).tail ≡ u → length reach.keys ≡ length reach.labels
    → IsBetter net task reach u last (arc_both_ways net.network number).head (label_after net task.direction last number)
    → IsStepped net task numbers u last reach (with_label reach (arc_both_ways net.network number).head (label_after net task.direction last number) reached)
step_lowers net task reach u number numbers last reached so_far is_last tail same better =
    let label = label_after net task.direction last number in
    let h = (arc_both_ways net.network number).head in
    let new = with_label reach h label reached in
    let searching = lowered_keeps net task reach u h last label reached (IsAmong (number ∷ numbers)) so_far is_last better in
    let stays = last_stays net task reach u h last label reached (IsAmong (number ∷ numbers)) so_far is_last better in
    record {
      searching = past net task new u number numbers last searching stays tail (λ room. record {
        label = label;
        is = get_or-set_same reach.labels h (Some label) None better.labels;
        near = omega (arith, ints);
      });
      is_last = stays;
      same = length-set reach.keys h (Some label.distance) ∙ same ∙ sym (length-set reach.labels h (Some label));
      counted = set_open reach.labels reach.keys h label label.distance better.labels same
          (is_open (get_or reach.labels h None) (get_or reach.keys h None) (λ l is out. absurd (settled_apart net task reach u h h last label l is_last better (record { is = is; out = out }) refl)));
    }

stepped_as : (net : NetworkState) (task : Task) (numbers : List ℕ) (u : ℕ) (last : Label) (reach one other : Reach) → other ≡ one → IsStepped net task numbers u last reach one → IsStepped net task numbers u last reach other
stepped_as net task numbers u last reach one other same stepped = subst (IsStepped net task numbers u last reach) (sym same) stepped

pub step_over : (net : NetworkState) (task : Task) (reach new : Reach) (u number : ℕ) (numbers : List ℕ) (last : Label) → IsNetwork net → ((k : ℕ) → k < length (arcs_of net.network) → HasNoNegative net k)
    → IsSearching net task (IsAmong (number ∷ numbers)) reach → IsLast task reach u last → (arc_both_ways net.network number).tail ≡ u → number / 2 < length (arcs_of net.network) → length reach.keys ≡ length reach.labels
    → ((HasRoom net task.direction (number / 2) (is_back number) → ⊥) → new ≡ reach)
    → (HasRoom net task.direction (number / 2) (is_back number) → new ≡ lowered reach (arc_both_ways net.network number).head (label_after net task.direction last number))
    → IsStepped net task numbers u last reach new
step_over net task reach new u number numbers last network all so_far is_last tail below same none some =
    let label = label_after net task.direction last number in
    let h = (arc_both_ways net.network number).head in
    by_lt_z (pos 0) (residual_of net (number / 2) (takes_from task.direction (is_back number)))
    (λ more.
    let room : HasRoom net task.direction (number / 2) (is_back number) = record { below = below; room = omega (arith, ints, more) } in
    by_test (is_better label (label_at reach.labels h))
    (λ better.
    let lower = lowered_better reach h label better in
    stepped_as net task numbers u last reach (with_label reach h label lower.0) new (some room ∙ lower.1)
    (step_lowers net task reach u number numbers last lower.0 so_far is_last tail same (better_is net task reach u number last (IsAmong (number ∷ numbers)) network all so_far is_last tail same room better)))
    (λ worse.
    let before = not_better label (label_at reach.labels h) worse in
    stepped_as net task numbers u last reach reach new (some room ∙ lowered_not reach h label worse) (record {
      searching = past net task reach u number numbers last so_far is_last tail (λ has. record { label = before.0; is = before.1; near = before.2 });
      is_last = is_last;
      same = same;
      counted = refl;
    })))
    (λ full.
    let no_room : HasRoom net task.direction (number / 2) (is_back number) → ⊥ = λ room. absurd (omega (arith, ints, full, room.room)) in
    stepped_as net task numbers u last reach reach new (none no_room) (record {
      searching = past net task reach u number numbers last so_far is_last tail (λ room. absurd (no_room room));
      is_last = is_last;
      same = same;
      counted = refl;
    }))
