-- A search begins at its source.
use Rattle.std.proofs.Common.{◌≡◌, ◌≢◌, ℕ, zero, suc, ◌<◌, ◌≤◌, ℤ, pos, negsuc, ◌≤ℤ◌, List, [], ◌∷◌, ◌++◌, Option, None, Some, IfSome, get_or, set, replicate, refl, sym, ap, ◌∙◌, subst, ⊎_elim, arith, get_or-set_same, get_or-set_other}
use Rattle.std.specs.Prelude.{unsigned_abs}
use Rattle.std.proofs.lemmas.Int.{ints}
use Rattle.std.proofs.lemmas.Bool.{cases_eq, cases_lt}
use Rattle.std.proofs.lemmas.List.{length-set, get_or-replicate, length-replicate, get_or_past}
use Rattle.bound_graph.specs.Values.{value_of}
use Rattle.bound_graph.specs.Reverses.{turned}
use Rattle.flow_core.specs.Layout.{arc_numbered, nodes_of}
use Rattle.flow_core.specs.State.{NetworkState}
use Rattle.path_flow.specs.declared.search.Task.{Task}
use Rattle.path_flow.specs.declared.search.Label.{Label}
use Rattle.path_flow.specs.Search.{IsReached, label_at}
use Rattle.path_flow.specs.Reach.{HasDistance, Reach, lowered, nothing_reached}
use Rattle.path_flow.specs.Searching.{IsSearching, nothing_left}
use Rattle.path_flow.proofs.Reaching.{lowered_first}

pub some_size : (z : ℤ) → z ≢ pos 0 → pos 1 ≤ℤ pos (unsigned_abs z)
some_size (pos zero) some = absurd (some refl)
some_size (pos (suc n)) some = omega (arith, ints)
some_size (negsuc n) some = omega (arith, ints)

pub none_in : {A : Type 0} (n x : ℕ) (none : A) → get_or (replicate n none) x none ≡ none
none_in n x none = ⊎_elim
    (λ (below : x < n). get_or-replicate n x none none below)
    (λ (past : n ≤ x). get_or_past (replicate n none) x none (omega (arith, past, length-replicate n none)))
    (cases_lt x n)

abbrev first_labels : ℕ → ℕ → Label → List (Option Label)
first_labels n source label = set (replicate n None) source (Some label)

abbrev first_keys : ℕ → ℕ → Label → List (Option ℤ)
first_keys n source label = set (replicate n None) source (Some label.distance)

label_there : (n source : ℕ) (label : Label) → source < n → label_at (first_labels n source label) source ≡ Some label
label_there n source label below = get_or-set_same (replicate n None) source (Some label) None (omega (arith, below, length-replicate {A = Option Label} n None))

label_not : (n source x : ℕ) (label : Label) → x ≢ source → label_at (first_labels n source label) x ≡ None
label_not n source x label apart = get_or-set_other (replicate n None) source x (Some label) None apart ∙ none_in n x None

only_source : (n source x : ℕ) (label l : Label) → label_at (first_labels n source label) x ≡ Some l → x ≡ source
only_source n source x label l is = ⊎_elim
    (λ (e : x ≡ source). e)
    (λ (apart : x ≢ source). absurd (let both = sym (label_not n source x label apart) ∙ is in cc))
    (cases_eq x source)

key_there : (n source : ℕ) (label : Label) → source < n → get_or (first_keys n source label) source None ≡ Some label.distance
key_there n source label below = get_or-set_same (replicate n None) source (Some label.distance) None (omega (arith, below, length-replicate {A = Option ℤ} n None))

key_not : (n source x : ℕ) (label : Label) → x ≢ source → get_or (first_keys n source label) x None ≡ None
key_not n source x label apart = get_or-set_other (replicate n None) source x (Some label.distance) None apart ∙ none_in n x None

-- a node that has a label waits
waits : (n source x : ℕ) (label l : Label) → source < n → label_at (first_labels n source label) x ≡ Some l → get_or (first_keys n source label) x None ≡ None → ⊥
waits n source x label l below is out =
    let there = ap (λ y. get_or (first_keys n source label) y None) (only_source n source x label l is) ∙ key_there n source label below in
    absurd (let both = sym there ∙ out in cc)

keyed_at : (n source x : ℕ) (label : Label) → source < n → IfSome (get_or (first_keys n source label) x None) (HasDistance (label_at (first_labels n source label) x))
keyed_at n source x label below = ⊎_elim
    (λ (e : x ≡ source).
    let key = ap (λ y. get_or (first_keys n source label) y None) e ∙ key_there n source label below in
    let is = ap (label_at (first_labels n source label)) e ∙ label_there n source label below in
    subst (λ (option : Option ℤ). IfSome option (HasDistance (label_at (first_labels n source label) x))) (sym key) (subst (λ (option : Option Label). HasDistance option label.distance) (sym is) refl))
    (λ (apart : x ≢ source). subst (λ (option : Option ℤ). IfSome option (HasDistance (label_at (first_labels n source label) x))) (sym (key_not n source x label apart)) tt)
    (cases_eq x source)

begun_at : (net : NetworkState) (task : Task) (n : ℕ) (label : Label) (reached : List ℕ) → n ≡ nodes_of net.network → task.source < n → label.distance ≡ pos 0 → label.hops ≡ 0
    → label.room ≡ pos (unsigned_abs (value_of net.excesses task.source)) → value_of net.excesses task.source ≢ pos 0
    → IsSearching net task nothing_left (record { labels = first_labels n task.source label; keys = first_keys n task.source label; reached = reached })
begun_at net task n label reached nodes below distance hops room some =
    let labels = first_labels n task.source label in
    record {
      tree = record {
        size = length-set (replicate n None) task.source (Some label) ∙ length-replicate n None ∙ nodes;
        source = label;
        at_source = label_there n task.source label below;
        nearest = distance;
        no_hop = hops;
        some = subst (λ (z : ℤ). pos 1 ≤ℤ z) (sym room) (some_size (value_of net.excesses task.source) some);
        room = room;
        reached = λ x inner. subst (λ (option : Option Label). IfSome option (IsReached net task.direction labels x)) (sym (label_not n task.source x label inner)) tt;
      };
      keyed = λ x. keyed_at n task.source x label below;
      settled = λ x l inner there. absurd (inner (only_source n task.source x label l there));
      closed = λ arc back step from settled. absurd (waits n task.source (turned back (arc_numbered net.network arc)).tail label from below settled.is settled.out);
      order = λ x l other key settled waiting. absurd (waits n task.source x label l below settled.is settled.out);
      ends = λ x l settled is_end. waits n task.source x label l below settled.is settled.out;
      started = λ x l inner there. absurd (inner (only_source n task.source x label l there));
    }

pub begun : (net : NetworkState) (task : Task) (old new : Reach) (label : Label) → old ≡ nothing_reached (nodes_of net.network) → new ≡ lowered old task.source label → task.source < nodes_of net.network
    → label.distance ≡ pos 0 → label.hops ≡ 0 → label.room ≡ pos (unsigned_abs (value_of net.excesses task.source)) → value_of net.excesses task.source ≢ pos 0
    → IsSearching net task nothing_left new
begun net task old new label fresh lower below distance hops room some =
    let n = nodes_of net.network in
    let is : new ≡ record { labels = first_labels n task.source label; keys = first_keys n task.source label; reached = [] ++ task.source ∷ [] } =
    lower ∙ ap (λ (r : Reach). lowered r task.source label) fresh ∙ lowered_first (nothing_reached n) task.source label (none_in n task.source None) in
    subst (IsSearching net task nothing_left) (sym is) (begun_at net task n label ([] ++ task.source ∷ []) refl below distance hops room some)
