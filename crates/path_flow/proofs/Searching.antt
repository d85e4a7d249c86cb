-- A search finds an end, and nothing nearer is left out.
use Rattle.std.proofs.Common.{◌≡◌, ℕ, zero, suc, ◌<◌, ◌≤◌, Bool, true, false, ℤ, pos, ◌≤ℤ◌, List, Option, None, Some, IfSome, length, get_or, refl, sym, ap, ◌∙◌, subst, ⊎_elim, arith}
use Rattle.std.specs.Prelude.{All, IsNone}
use Rattle.std.proofs.lemmas.Int.{ints}
use Rattle.std.proofs.lemmas.Bool.{cases_lt}
use Rattle.std.proofs.lemmas.List.{get_or_past, get_or_append_left}
use Rattle.std.proofs.lemmas.List.Elements.{All-get_or}
use Rattle.bound_graph.specs.declared.arc.Arc.{Arc}
use Rattle.bound_graph.specs.Arcs.{no_arc}
use Rattle.bound_graph.specs.Reverses.{turned}
use Rattle.flow_core.specs.declared.limits.TheConstants.{MOST_VALUE}
use Rattle.flow_core.specs.Layout.{IsLayout, HasRange, HasUnpriced, arcs_of, arc_numbered, nodes_of, reading_arcs}
use Rattle.flow_core.specs.State.{NetworkState}
use Rattle.flow_core.proofs.Sizes.{length-arcs_of}
use Rattle.node_heap.specs.Keys.{HasLeast}
use Rattle.path_flow.specs.declared.search.Direction.{Direction}
use Rattle.path_flow.specs.declared.search.Direction.TheVariants.{Forwards, Backwards}
use Rattle.path_flow.specs.declared.search.Task.{Task}
use Rattle.path_flow.specs.declared.search.Label.{Label}
use Rattle.path_flow.specs.Search.{HasRoom, IsEnd, IsFound, label_at}
use Rattle.path_flow.specs.Reach.{HasDistance, Reach}
use Rattle.path_flow.specs.Searching.{AreFree, IsSearching, IsSettled, key_at, nothing_left}

-- ---- keys

pub least_at : (keys : List (Option ℤ)) (key other : ℤ) (node : ℕ) → All (λ option. IfSome option (λ z. key ≤ℤ z)) keys → get_or keys node None ≡ Some other → key ≤ℤ other
least_at keys key other node least is = ⊎_elim
    (λ (inside : node < length keys).
    subst (λ (option : Option ℤ). IfSome option (λ z. key ≤ℤ z)) is (All-get_or (λ option. IfSome option (λ z. key ≤ℤ z)) keys node None inside least))
    (λ (past : length keys ≤ node). absurd (let both = sym (get_or_past keys node None past) ∙ is in cc))
    (cases_lt node (length keys))

none_is : (option : Option ℤ) → IsNone option → option ≡ None
none_is None none = refl
none_is (Some key) none = absurd cc

none_at : (keys : List (Option ℤ)) (node : ℕ) → All IsNone keys → get_or keys node None ≡ None
none_at keys node none = ⊎_elim
    (λ (inside : node < length keys). none_is (get_or keys node None) (All-get_or IsNone keys node None inside none))
    (λ (past : length keys ≤ node). get_or_past keys node None past)
    (cases_lt node (length keys))

-- ---- an end comes out of the heap

near_or_waiting : {P : Type 0} (option : Option ℤ) → (option ≡ None → P) → ((key : ℤ) → option ≡ Some key → P) → P
near_or_waiting None none some = none refl
near_or_waiting (Some key) none some = some key refl

pub distance_of_key : (reach : Reach) (node : ℕ) (key : ℤ) (label : Label) → IfSome (key_at reach node) (HasDistance (label_at reach.labels node)) → key_at reach node ≡ Some key → label_at reach.labels node ≡ Some label → label.distance ≡ key
distance_of_key reach node key label keyed waits is =
    let inner : HasDistance (label_at reach.labels node) key = subst (λ (option : Option ℤ). IfSome option (HasDistance (label_at reach.labels node))) waits keyed in
    subst (λ (option : Option Label). HasDistance option key) is inner

pub found : (net : NetworkState) (task : Task) (reach : Reach) (node : ℕ) (key : ℤ) (label : Label) → IsSearching net task nothing_left reach → HasLeast reach.keys node key → label_at reach.labels node ≡ Some label → IsEnd net task node → IsFound net task reach.labels node
found net task reach node key label so_far least is ends =
    let distance = distance_of_key reach node key label (so_far.keyed node) least.has is in
    record {
      is_end = ends;
      tree = so_far.tree;
      label = label;
      is = is;
      searched = record {
        each = λ arc back step from at_tail nearer.
            let tail = (turned back (arc_numbered net.network arc)).tail in
            near_or_waiting (key_at reach tail)
            (λ out. ⊎_elim absurd (λ near. near) (so_far.closed arc back step from (record { is = at_tail; out = out })))
            (λ other waits.
            let low = least_at reach.keys key other tail least.least waits in
            let same = distance_of_key reach tail other from (so_far.keyed tail) waits at_tail in
            absurd (omega (arith, ints, low, same, nearer, distance)));
      };
    }

-- ---- while no end came out, some node waits

-- a step with room between a reading and node 0, out or in
record HasStep (net : NetworkState) (direction : Direction) (tail head : ℕ) : Type 0 where
  arc : ℕ
  back : Bool
  room : HasRoom net direction arc back
  at_tail : (turned back (arc_numbered net.network arc)).tail ≡ tail
  at_head : (turned back (arc_numbered net.network arc)).head ≡ head

free_arc : (net : NetworkState) (arc : Arc) (has : HasUnpriced net.network arc) → arc_numbered net.network has.0 ≡ arc
free_arc net arc has = get_or_append_left net.network.bounds (reading_arcs 1 net.network.values) no_arc has.0 has.1 ∙ has.2

free_below : (net : NetworkState) (arc : Arc) (has : HasUnpriced net.network arc) → has.0 < length (arcs_of net.network)
free_below net arc has = omega (arith, has.1, length-arcs_of net.network)

-- the step over a bound without a price in its own direction, and the one against it backwards
step_ahead : (net : NetworkState) (arc : Arc) → AreFree net → HasUnpriced net.network arc → HasStep net Forwards arc.tail arc.head
step_ahead net arc free has = record {
  arc = has.0;
  back = false;
  room = record { below = free_below net arc has; room = free has.0 has.3 };
  at_tail = ap (λ (a : Arc). a.tail) (free_arc net arc has);
  at_head = ap (λ (a : Arc). a.head) (free_arc net arc has);
}

step_against : (net : NetworkState) (arc : Arc) → AreFree net → HasUnpriced net.network arc → HasStep net Backwards arc.head arc.tail
step_against net arc free has = record {
  arc = has.0;
  back = true;
  room = record { below = free_below net arc has; room = free has.0 has.3 };
  at_tail = ap (λ (a : Arc). a.head) (free_arc net arc has);
  at_head = ap (λ (a : Arc). a.tail) (free_arc net arc has);
}

step_to_zero : (net : NetworkState) (direction : Direction) (node : ℕ) → AreFree net → HasRange net.network node → HasStep net direction node 0
step_to_zero net Forwards node free range = step_ahead net (record { tail = node; head = 0; cost = pos MOST_VALUE }) free range.down
step_to_zero net Backwards node free range = step_against net (record { tail = 0; head = node; cost = pos MOST_VALUE }) free range.up

step_from_zero : (net : NetworkState) (direction : Direction) (node : ℕ) → AreFree net → HasRange net.network node → HasStep net direction 0 node
step_from_zero net Forwards node free range = step_ahead net (record { tail = 0; head = node; cost = pos MOST_VALUE }) free range.up
step_from_zero net Backwards node free range = step_against net (record { tail = node; head = 0; cost = pos MOST_VALUE }) free range.down

-- a node that is labelled, where none waits
labelled_next : (net : NetworkState) (task : Task) (reach : Reach) (tail head : ℕ) (from : Label) → IsSearching net task nothing_left reach → ((node : ℕ) → key_at reach node ≡ None) → HasStep net task.direction tail head
    → label_at reach.labels tail ≡ Some from → (label : Label) × (label_at reach.labels head ≡ Some label)
labelled_next net task reach tail head from so_far none step is =
    let settled : IsSettled reach (turned step.back (arc_numbered net.network step.arc)).tail from = record { is = ap (label_at reach.labels) step.at_tail ∙ is; out = none (turned step.back (arc_numbered net.network step.arc)).tail } in
    let near = ⊎_elim absurd (λ there. there) (so_far.closed step.arc step.back step.room from settled) in
    (near.label, ap (label_at reach.labels) (sym step.at_head) ∙ near.is)

range_of : (net : NetworkState) (node : ℕ) → IsLayout net.network → 1 ≤ node → node < nodes_of net.network → HasRange net.network node
range_of net zero layout reading below = absurd (omega arith)
range_of net (suc reading) layout some below = layout.ranged reading (omega arith)

all_labelled : (net : NetworkState) (task : Task) (reach : Reach) (node : ℕ) → IsLayout net.network → AreFree net → 1 ≤ task.source → task.source < nodes_of net.network → node < nodes_of net.network
    → IsSearching net task nothing_left reach → ((k : ℕ) → key_at reach k ≡ None) → (label : Label) × (label_at reach.labels node ≡ Some label)
all_labelled net task reach zero layout free reading inside below so_far none =
    labelled_next net task reach task.source 0 so_far.tree.source so_far none (step_to_zero net task.direction task.source free (range_of net task.source layout reading inside)) so_far.tree.at_source
all_labelled net task reach (suc r) layout free reading inside below so_far none =
    let at_zero = labelled_next net task reach task.source 0 so_far.tree.source so_far none (step_to_zero net task.direction task.source free (range_of net task.source layout reading inside)) so_far.tree.at_source in
    labelled_next net task reach 0 (suc r) at_zero.0 so_far none (step_from_zero net task.direction (suc r) free (range_of net (suc r) layout (omega arith) below)) at_zero.1

-- so no end is left where none waits
pub some_waits : (net : NetworkState) (task : Task) (reach : Reach) (end : ℕ) → IsLayout net.network → AreFree net → 1 ≤ task.source → task.source < nodes_of net.network → end < nodes_of net.network
    → IsSearching net task nothing_left reach → IsEnd net task end → All IsNone reach.keys → ⊥
some_waits net task reach end layout free reading inside below so_far is_end none =
    let out : (node : ℕ) → key_at reach node ≡ None = λ node. none_at reach.keys node none in
    let labelled = all_labelled net task reach end layout free reading inside below so_far out in
    so_far.ends end labelled.0 (record { is = labelled.1; out = out end }) is_end
