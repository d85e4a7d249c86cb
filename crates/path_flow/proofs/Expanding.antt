-- One node more is settled, and the nodes after it are reached.
use Rattle.std.proofs.Common.{◌≡◌, ◌≢◌, ◌⊎◌, ℕ, ◌+◌, ◌/◌, ◌<◌, Bool, ℤ, pos, ◌+ℤ◌, ◌≤ℤ◌, ◌<ℤ◌, List, Option, None, Some, IfSome, length, get_or, set, inl, inr, refl, sym, ap, ◌∙◌, subst, ⊎_elim, arith, get_or-set_same, get_or-set_other}
use Rattle.std.proofs.lemmas.Int.{ints}
use Rattle.std.proofs.lemmas.Bool.{cases_eq}
use Rattle.std.proofs.lemmas.List.{length-set}
use Rattle.bound_graph.specs.Reverses.{turned, is_back}
use Rattle.flow_core.specs.Layout.{arc_numbered}
use Rattle.flow_core.specs.State.{NetworkState, residual_of}
use Rattle.flow_core.specs.Views.{arc_both_ways}
use Rattle.node_heap.specs.Keys.{HasLeast}
use Rattle.path_flow.specs.declared.search.Task.{Task}
use Rattle.path_flow.specs.declared.search.Label.{Label}
use Rattle.path_flow.specs.Search.{HasRoom, IsEnd, IsNear, IsReached, IsTree, label_at, step_length, takes_from}
use Rattle.path_flow.specs.Reach.{HasDistance, Reach}
use Rattle.path_flow.specs.Searching.{IsLast, IsSearching, IsSettled, StepsFrom, key_at, nothing_left}
use Rattle.path_flow.proofs.Searching.{distance_of_key, least_at}

-- ---- a node comes out of the heap

out_again : (keys : List (Option ℤ)) (node other : ℕ) → node < length keys → get_or keys other None ≡ None → get_or (set keys node None) other None ≡ None
out_again keys node other below out = ⊎_elim
    (λ (e : other ≡ node). ap (λ n. get_or (set keys node None) n None) e ∙ get_or-set_same keys node None None below)
    (λ (apart : other ≢ node). get_or-set_other keys node other None None apart ∙ out)
    (cases_eq other node)

-- a node that is settled after it was taken out is that node, or was settled before
settled_before : (reach : Reach) (node other : ℕ) (label : Label) → other ≢ node → IsSettled (record reach { keys = set reach.keys node None }) other label → IsSettled reach other label
settled_before reach node other label apart settled = record {
  is = settled.is;
  out = sym (get_or-set_other reach.keys node other None None apart) ∙ settled.out;
}

waits_before : (reach : Reach) (node other : ℕ) (key : ℤ) → node < length reach.keys → get_or (set reach.keys node None) other None ≡ Some key → get_or reach.keys other None ≡ Some key
waits_before reach node other key below waits = ⊎_elim
    (λ (e : other ≡ node).
    let none : get_or (set reach.keys node None) other None ≡ None = ap (λ n. get_or (set reach.keys node None) n None) e ∙ get_or-set_same reach.keys node None None below in
    absurd (let both = sym none ∙ waits in cc))
    (λ (apart : other ≢ node). sym (get_or-set_other reach.keys node other None None apart) ∙ waits)
    (cases_eq other node)

pub popped : (net : NetworkState) (task : Task) (reach : Reach) (node : ℕ) (key : ℤ) (label : Label) → node < length reach.keys → IsSearching net task nothing_left reach → HasLeast reach.keys node key
    → label_at reach.labels node ≡ Some label → (IsEnd net task node → ⊥) → IsSearching net task (StepsFrom net node) (record reach { keys = set reach.keys node None })
popped net task reach node key label below so_far least is inner =
    let distance = distance_of_key reach node key label (so_far.keyed node) least.has is in
    record {
      tree = so_far.tree;
      keyed = λ other.
          let agrees : ℤ → Type 0 = HasDistance (label_at reach.labels other) in
          ⊎_elim
          (λ (e : other ≡ node).
          subst (λ (option : Option ℤ). IfSome option agrees) (sym (ap (λ n. get_or (set reach.keys node None) n None) e ∙ get_or-set_same reach.keys node None None below)) tt)
          (λ (apart : other ≢ node). subst (λ (option : Option ℤ). IfSome option agrees) (sym (get_or-set_other reach.keys node other None None apart)) (so_far.keyed other))
          (cases_eq other node);
      settled = λ other l apart there. out_again reach.keys node (arc_both_ways net.network l.number).tail below (so_far.settled other l apart there);
      closed = λ arc back step from settled. ⊎_elim
          (λ (e : (turned back (arc_numbered net.network arc)).tail ≡ node). inl e)
          (λ (apart : (turned back (arc_numbered net.network arc)).tail ≢ node).
          ⊎_elim absurd (λ near. inr near) (so_far.closed arc back step from (settled_before reach node (turned back (arc_numbered net.network arc)).tail from apart settled)))
          (cases_eq (turned back (arc_numbered net.network arc)).tail node);
      order = λ other l third k settled waits.
          let waited = waits_before reach node third k below waits in
          ⊎_elim
          (λ (e : other ≡ node).
          let same : l ≡ label = let both = sym settled.is ∙ ap (label_at reach.labels) e ∙ is in cc in
          let far = ap (λ (x : Label). x.distance) same in
          let low = least_at reach.keys key k third least.least waited in
          omega (arith, ints, far, distance, low))
          (λ (apart : other ≢ node). so_far.order other l third k (settled_before reach node other l apart settled) waited)
          (cases_eq other node);
      ends = λ other l settled is_end. ⊎_elim
          (λ (e : other ≡ node). inner (subst (IsEnd net task) e is_end))
          (λ (apart : other ≢ node). so_far.ends other l (settled_before reach node other l apart settled) is_end)
          (cases_eq other node);
      started = λ other l apart there. out_again reach.keys node task.source below (so_far.started other l apart there);
    }

-- and it was settled last
pub popped_last : (net : NetworkState) (task : Task) (reach : Reach) (node : ℕ) (key : ℤ) (label : Label) → node < length reach.keys → IsSearching net task nothing_left reach → HasLeast reach.keys node key
    → label_at reach.labels node ≡ Some label → IsLast task (record reach { keys = set reach.keys node None }) node label
popped_last net task reach node key label below so_far least is =
    let distance = distance_of_key reach node key label (so_far.keyed node) least.has is in
    let gone : get_or (set reach.keys node None) node None ≡ None = get_or-set_same reach.keys node None None below in
    record {
      settled = record { is = is; out = gone };
      farthest = λ other l settled. ⊎_elim
          (λ (e : other ≡ node).
          let same : l ≡ label = let both = sym settled.is ∙ ap (label_at reach.labels) e ∙ is in cc in
          let far = ap (λ (x : Label). x.distance) same in
          omega (arith, ints, far))
          (λ (apart : other ≢ node).
          let low = so_far.order other l node key (settled_before reach node other l apart settled) least.has in
          omega (arith, ints, low, distance))
          (cases_eq other node);
      source = ⊎_elim
          (λ (e : node ≡ task.source). ap (λ n. get_or (set reach.keys node None) n None) (sym e) ∙ gone)
          (λ (apart : node ≢ task.source). out_again reach.keys node task.source below (so_far.started node label apart is))
          (cases_eq node task.source);
    }

-- ---- a node is reached on a shorter way

-- the step from the node that was settled last, and the label that it gives the node after it
pub record IsBetter (net : NetworkState) (task : Task) (reach : Reach) (u : ℕ) (last : Label) (h : ℕ) (label : Label) : Type 0 where
  pub step : HasRoom net task.direction (label.number / 2) (is_back label.number)
  pub tail : (arc_both_ways net.network label.number).tail ≡ u
  pub head : (arc_both_ways net.network label.number).head ≡ h
  pub hops : label.hops ≡ last.hops + 1
  pub some : pos 1 ≤ℤ label.room
  pub residual : label.room ≤ℤ residual_of net (label.number / 2) (takes_from task.direction (is_back label.number))
  pub no_more : label.room ≤ℤ last.room
  pub distance : label.distance ≡ last.distance +ℤ step_length net task.direction (label.number / 2) (is_back label.number)
  pub long : pos 0 ≤ℤ step_length net task.direction (label.number / 2) (is_back label.number)
  pub labels : h < length reach.labels
  pub keys : h < length reach.keys
  pub better : (before : Label) → label_at reach.labels h ≡ Some before → label.distance <ℤ before.distance

-- the reach with that label
abbrev pub with_label : Reach → ℕ → Label → List ℕ → Reach
with_label reach h label reached = record { labels = set reach.labels h (Some label); keys = set reach.keys h (Some label.distance); reached = reached }

if_some_more : (P Q : Label → Type 0) (option : Option Label) → ((l : Label) → option ≡ Some l → P l → Q l) → IfSome option P → IfSome option Q
if_some_more P Q None more some = tt
if_some_more P Q (Some l) more some = more l refl some

-- what is settled is another node
pub settled_apart : (net : NetworkState) (task : Task) (reach : Reach) (u h x : ℕ) (last label l : Label) → IsLast task reach u last → IsBetter net task reach u last h label → IsSettled reach x l → x ≢ h
settled_apart net task reach u h x last label l is_last better settled = λ e.
    let low = is_last.farthest x l settled in
    let high = better.better l (ap (label_at reach.labels) (sym e) ∙ settled.is) in
    absurd (omega (arith, ints, low, high, better.distance, better.long))

label_kept : (reach : Reach) (h x : ℕ) (label : Label) → x ≢ h → label_at (set reach.labels h (Some label)) x ≡ label_at reach.labels x
label_kept reach h x label apart = get_or-set_other reach.labels h x (Some label) None apart

key_kept : (reach : Reach) (h x : ℕ) (key : ℤ) → x ≢ h → get_or (set reach.keys h (Some key)) x None ≡ key_at reach x
key_kept reach h x key apart = get_or-set_other reach.keys h x (Some key) None apart

-- what is settled now was settled before
settled_then : (net : NetworkState) (task : Task) (reach : Reach) (u h x : ℕ) (last label l : Label) (reached : List ℕ) → IsBetter net task reach u last h label → IsSettled (with_label reach h label reached) x l
    → (x ≢ h) × IsSettled reach x l
settled_then net task reach u h x last label l reached better settled =
    let apart : x ≢ h = λ e.
    let here : get_or (set reach.keys h (Some label.distance)) x None ≡ Some label.distance = ap (λ n. get_or (set reach.keys h (Some label.distance)) n None) e ∙ get_or-set_same reach.keys h (Some label.distance) None better.keys in
    absurd (let both = sym here ∙ settled.out in cc) in
    (apart, record { is = sym (label_kept reach h x label apart) ∙ settled.is; out = sym (key_kept reach h x label.distance apart) ∙ settled.out })

reached_still : (net : NetworkState) (task : Task) (reach : Reach) (u h x : ℕ) (last label l : Label) (left : ℕ → Bool → Type 0) → IsSearching net task left reach → IsLast task reach u last → IsBetter net task reach u last h label
    → x ≢ task.source → label_at reach.labels x ≡ Some l → IsReached net task.direction reach.labels x l → IsReached net task.direction (set reach.labels h (Some label)) x l
reached_still net task reach u h x last label l left so_far is_last better inner there is =
    let settled : IsSettled reach (arc_both_ways net.network l.number).tail is.before = record { is = is.from; out = so_far.settled x l inner there } in
    let apart = settled_apart net task reach u h (arc_both_ways net.network l.number).tail last label is.before is_last better settled in
    record {
      step = is.step;
      head = is.head;
      before = is.before;
      from = label_kept reach h (arc_both_ways net.network l.number).tail label apart ∙ is.from;
      hops = is.hops;
      distance = is.distance;
      some = is.some;
      residual = is.residual;
      no_more = is.no_more;
    }

reached_now : (net : NetworkState) (task : Task) (reach : Reach) (u h : ℕ) (last label : Label) → IsLast task reach u last → IsBetter net task reach u last h label → IsReached net task.direction (set reach.labels h (Some label)) h label
reached_now net task reach u h last label is_last better =
    let apart = settled_apart net task reach u h u last label last is_last better is_last.settled in
    record {
      step = better.step;
      head = better.head;
      before = last;
      from = ap (label_at (set reach.labels h (Some label))) better.tail ∙ label_kept reach h u label apart ∙ is_last.settled.is;
      hops = better.hops;
      distance = better.distance;
      some = better.some;
      residual = better.residual;
      no_more = better.no_more;
    }

source_apart : (net : NetworkState) (task : Task) (reach : Reach) (u h : ℕ) (last label : Label) (left : ℕ → Bool → Type 0) → IsSearching net task left reach → IsLast task reach u last → IsBetter net task reach u last h label → task.source ≢ h
source_apart net task reach u h last label left so_far is_last better =
    settled_apart net task reach u h task.source last label so_far.tree.source is_last better (record { is = so_far.tree.at_source; out = is_last.source })

tree_lowered : (net : NetworkState) (task : Task) (reach : Reach) (u h : ℕ) (last label : Label) (left : ℕ → Bool → Type 0) → IsSearching net task left reach → IsLast task reach u last → IsBetter net task reach u last h label
    → IsTree net task (set reach.labels h (Some label))
tree_lowered net task reach u h last label left so_far is_last better =
    let tree = so_far.tree in
    let new = set reach.labels h (Some label) in
    record {
      size = length-set reach.labels h (Some label) ∙ tree.size;
      source = tree.source;
      at_source = label_kept reach h task.source label (source_apart net task reach u h last label left so_far is_last better) ∙ tree.at_source;
      nearest = tree.nearest;
      no_hop = tree.no_hop;
      some = tree.some;
      room = tree.room;
      reached = λ x inner. ⊎_elim
          (λ (e : x ≡ h).
          let here : label_at new h ≡ Some label = get_or-set_same reach.labels h (Some label) None better.labels in
          let is : IfSome (label_at new h) (IsReached net task.direction new h) = subst (λ (option : Option Label). IfSome option (IsReached net task.direction new h)) (sym here) (reached_now net task reach u h last label is_last better) in
          subst (λ n. IfSome (label_at new n) (IsReached net task.direction new n)) (sym e) is)
          (λ (apart : x ≢ h).
          subst (λ (option : Option Label). IfSome option (IsReached net task.direction new x)) (sym (label_kept reach h x label apart))
          (if_some_more (IsReached net task.direction reach.labels x) (IsReached net task.direction new x) (label_at reach.labels x)
          (λ l there is. reached_still net task reach u h x last label l left so_far is_last better inner there is) (tree.reached x inner)))
          (cases_eq x h);
    }

-- a node that is near stays near: its distance only falls
near_still : (net : NetworkState) (task : Task) (reach : Reach) (u h y : ℕ) (last label from : Label) (long : ℤ) → IsBetter net task reach u last h label → IsNear from long (label_at reach.labels y) → IsNear from long (label_at (set reach.labels h (Some label)) y)
near_still net task reach u h y last label from long better near = ⊎_elim
    (λ (e : y ≡ h).
    let lower = better.better near.label (ap (label_at reach.labels) (sym e) ∙ near.is) in
    let bound = near.near in
    record {
      label = label;
      is = ap (label_at (set reach.labels h (Some label))) e ∙ get_or-set_same reach.labels h (Some label) None better.labels;
      near = omega (arith, ints, lower, bound);
    })
    (λ (apart : y ≢ h). record { label = near.label; is = label_kept reach h y label apart ∙ near.is; near = near.near })
    (cases_eq y h)

keyed_still : (reach : Reach) (h x : ℕ) (label : Label) → h < length reach.labels → h < length reach.keys → IfSome (key_at reach x) (HasDistance (label_at reach.labels x))
    → IfSome (get_or (set reach.keys h (Some label.distance)) x None) (HasDistance (label_at (set reach.labels h (Some label)) x))
keyed_still reach h x label labels keys before =
    let new = set reach.labels h (Some label) in
    ⊎_elim
    (λ (e : x ≡ h).
    let key : get_or (set reach.keys h (Some label.distance)) x None ≡ Some label.distance = ap (λ n. get_or (set reach.keys h (Some label.distance)) n None) e ∙ get_or-set_same reach.keys h (Some label.distance) None keys in
    let here : label_at new x ≡ Some label = ap (label_at new) e ∙ get_or-set_same reach.labels h (Some label) None labels in
    let agrees : HasDistance (label_at new x) label.distance = subst (λ (option : Option Label). HasDistance option label.distance) (sym here) refl in
    subst (λ (option : Option ℤ). IfSome option (HasDistance (label_at new x))) (sym key) agrees)
    (λ (apart : x ≢ h).
    let kept : IfSome (key_at reach x) (HasDistance (label_at new x)) =
    subst (λ (option : Option Label). IfSome (key_at reach x) (HasDistance option)) (sym (label_kept reach h x label apart)) before in
    subst (λ (option : Option ℤ). IfSome option (HasDistance (label_at new x))) (sym (key_kept reach h x label.distance apart)) kept)
    (cases_eq x h)

-- the search goes on with the new label
pub lowered_keeps : (net : NetworkState) (task : Task) (reach : Reach) (u h : ℕ) (last label : Label) (reached : List ℕ) (left : ℕ → Bool → Type 0)
    → IsSearching net task left reach → IsLast task reach u last → IsBetter net task reach u last h label → IsSearching net task left (with_label reach h label reached)
lowered_keeps net task reach u h last label reached left so_far is_last better = record {
  tree = tree_lowered net task reach u h last label left so_far is_last better;
  keyed = λ x. keyed_still reach h x label better.labels better.keys (so_far.keyed x);
  settled = λ x l inner there. ⊎_elim
      (λ (e : x ≡ h).
      let here : label_at (set reach.labels h (Some label)) x ≡ Some label = ap (label_at (set reach.labels h (Some label))) e ∙ get_or-set_same reach.labels h (Some label) None better.labels in
      let same : l ≡ label = let both = sym there ∙ here in cc in
      let tail : (arc_both_ways net.network l.number).tail ≡ u = ap (λ (x : Label). (arc_both_ways net.network x.number).tail) same ∙ better.tail in
      let apart = settled_apart net task reach u h u last label last is_last better is_last.settled in
      ap (λ n. get_or (set reach.keys h (Some label.distance)) n None) tail ∙ key_kept reach h u label.distance apart ∙ is_last.settled.out)
      (λ (apart : x ≢ h).
      let before : label_at reach.labels x ≡ Some l = sym (label_kept reach h x label apart) ∙ there in
      let is : IsReached net task.direction reach.labels x l = subst (λ (option : Option Label). IfSome option (IsReached net task.direction reach.labels x)) before (so_far.tree.reached x inner) in
      let out = so_far.settled x l inner before in
      let tail_apart = settled_apart net task reach u h (arc_both_ways net.network l.number).tail last label is.before is_last better (record { is = is.from; out = out }) in
      key_kept reach h (arc_both_ways net.network l.number).tail label.distance tail_apart ∙ out)
      (cases_eq x h);
  closed = λ arc back step from settled.
      let tail = (turned back (arc_numbered net.network arc)).tail in
      let head = (turned back (arc_numbered net.network arc)).head in
      let before = settled_then net task reach u h tail last label from reached better settled in
      ⊎_elim
      (λ still. inl still)
      (λ near. inr (near_still net task reach u h head last label from (step_length net task.direction arc back) better near))
      (so_far.closed arc back step from before.1);
  order = λ x l other key settled waits.
      let before = settled_then net task reach u h x last label l reached better settled in
      ⊎_elim
      (λ (e : other ≡ h).
      let here : get_or (set reach.keys h (Some label.distance)) other None ≡ Some label.distance = ap (λ n. get_or (set reach.keys h (Some label.distance)) n None) e ∙ get_or-set_same reach.keys h (Some label.distance) None better.keys in
      let same : key ≡ label.distance = let both = sym waits ∙ here in cc in
      let far = is_last.farthest x l before.1 in
      omega (arith, ints, same, far, better.distance, better.long))
      (λ (apart : other ≢ h). so_far.order x l other key before.1 (sym (key_kept reach h other label.distance apart) ∙ waits))
      (cases_eq other h);
  ends = λ x l settled is_end.
      let before = settled_then net task reach u h x last label l reached better settled in
      so_far.ends x l before.1 is_end;
  started = λ x l inner there. key_kept reach h task.source label.distance (source_apart net task reach u h last label left so_far is_last better) ∙ is_last.source;
}

-- and the node that was settled last stays it
pub last_stays : (net : NetworkState) (task : Task) (reach : Reach) (u h : ℕ) (last label : Label) (reached : List ℕ) (left : ℕ → Bool → Type 0)
    → IsSearching net task left reach → IsLast task reach u last → IsBetter net task reach u last h label → IsLast task (with_label reach h label reached) u last
last_stays net task reach u h last label reached left so_far is_last better =
    let apart = settled_apart net task reach u h u last label last is_last better is_last.settled in
    record {
      settled = record { is = label_kept reach h u label apart ∙ is_last.settled.is; out = key_kept reach h u label.distance apart ∙ is_last.settled.out };
      farthest = λ x l settled. is_last.farthest x l (settled_then net task reach u h x last label l reached better settled).1;
      source = key_kept reach h task.source label.distance (source_apart net task reach u h last label left so_far is_last better) ∙ is_last.source;
    }

-- A step that was gone over is not left any more.
pub passed : (net : NetworkState) (task : Task) (reach : Reach) (left more : ℕ → Bool → Type 0) → IsSearching net task left reach
    → ((arc : ℕ) (back : Bool) → HasRoom net task.direction arc back → (from : Label) → IsSettled reach (turned back (arc_numbered net.network arc)).tail from → left arc back
    → more arc back ⊎ IsNear from (step_length net task.direction arc back) (label_at reach.labels (turned back (arc_numbered net.network arc)).head))
    → IsSearching net task more reach
passed net task reach left more so_far each = record {
  tree = so_far.tree;
  keyed = so_far.keyed;
  settled = so_far.settled;
  closed = λ arc back step from settled. ⊎_elim (λ still. each arc back step from settled still) (λ near. inr near) (so_far.closed arc back step from settled);
  order = so_far.order;
  ends = so_far.ends;
  started = so_far.started;
}
