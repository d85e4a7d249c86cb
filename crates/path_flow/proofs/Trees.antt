-- What the labels of a search say of the ways back to its source.
use Rattle.std.proofs.Common.{◌≡◌, ◌≢◌, ℕ, zero, suc, ◌*◌, ◌^◌, ◌/◌, ◌<◌, ◌≤◌, pos, ◌≤ℤ◌, List, Option, Some, IfSome, length, refl, sym, ap, ◌∙◌, subst, ⊎_elim, arith}
use Rattle.std.specs.Prelude.{unsigned_abs}
use Rattle.std.proofs.lemmas.Int.{ints}
use Rattle.std.proofs.lemmas.Bool.{cases_eq}
use Rattle.words.proofs.Products.{size_within, within_size}
use Rattle.bound_graph.specs.Values.{value_of}
use Rattle.bound_graph.specs.Reverses.{is_back}
use Rattle.flow_core.specs.Layout.{arcs_of, nodes_of}
use Rattle.flow_core.specs.State.{NetworkState, IsNetwork}
use Rattle.flow_core.specs.Views.{arc_both_ways}
use Rattle.path_flow.specs.declared.search.Task.{Task}
use Rattle.path_flow.specs.declared.search.Label.{Label}
use Rattle.path_flow.specs.Steps.{HasNoNegative}
use Rattle.path_flow.specs.Search.{IsReached, IsTree, label_at, step_length}
use Rattle.path_flow.proofs.Shifting.{lengths_not_negative}
use Rattle.path_flow.proofs.Lengths.{length_small}
use Rattle.path_flow.proofs.Pigeonhole.{IsBefore, few_hops}

pub same_label : (option : Option Label) (first second : Label) → option ≡ Some first → option ≡ Some second → first ≡ second
same_label option first second one two = let both = sym one ∙ two in cc

pub reached_at : (net : NetworkState) (task : Task) (labels : List (Option Label)) (node : ℕ) (label : Label) → IsTree net task labels → node ≢ task.source → label_at labels node ≡ Some label → IsReached net task.direction labels node label
reached_at net task labels node label tree inner is = subst (λ (option : Option Label). IfSome option (IsReached net task.direction labels node)) is (tree.reached node inner)

at_source : (net : NetworkState) (task : Task) (labels : List (Option Label)) (node : ℕ) (label : Label) (tree : IsTree net task labels) → node ≡ task.source → label_at labels node ≡ Some label → label ≡ tree.source
at_source net task labels node label tree same is = same_label (label_at labels task.source) label tree.source (ap (label_at labels) (sym same) ∙ is) tree.at_source

pub room_some : (net : NetworkState) (task : Task) (labels : List (Option Label)) (node : ℕ) (label : Label) → IsTree net task labels → label_at labels node ≡ Some label → pos 1 ≤ℤ label.room
room_some net task labels node label tree is = ⊎_elim
    (λ (same : node ≡ task.source). subst (λ (l : Label). pos 1 ≤ℤ l.room) (sym (at_source net task labels node label tree same is)) tree.some)
    (λ (inner : node ≢ task.source). (reached_at net task labels node label tree inner is).some)
    (cases_eq node task.source)

tree_before : (net : NetworkState) (task : Task) (labels : List (Option Label)) → IsTree net task labels → (node : ℕ) (label : Label) → label_at labels node ≡ Some label → 0 < label.hops → IsBefore labels label
tree_before net task labels tree node label is some = ⊎_elim
    (λ (same : node ≡ task.source). let none = ap (λ (l : Label). l.hops) (at_source net task labels node label tree same is) in absurd (omega (arith, none, some, tree.no_hop)))
    (λ (inner : node ≢ task.source).
    let reached = reached_at net task labels node label tree inner is in
    record { node = (arc_both_ways net.network label.number).tail; before = reached.before; from = reached.from; hops = reached.hops })
    (cases_eq node task.source)

pub hops_few : (net : NetworkState) (task : Task) (labels : List (Option Label)) (node : ℕ) (label : Label) → IsTree net task labels → label_at labels node ≡ Some label → label.hops < nodes_of net.network
hops_few net task labels node label tree is = omega (arith, few_hops labels (tree_before net task labels tree) node label is, tree.size)

-- distances are at least 0, and at most a greatest length for each hop
distance_in : (net : NetworkState) (task : Task) (labels : List (Option Label)) → IsNetwork net → ((k : ℕ) → k < length (arcs_of net.network) → HasNoNegative net k) → IsTree net task labels
    → (hops node : ℕ) (label : Label) → label_at labels node ≡ Some label → label.hops ≡ hops → (pos 0 ≤ℤ label.distance) × (label.distance ≤ℤ pos (hops * (6 * 10 ^ 15)))
distance_in net task labels network all tree zero node label is hops = ⊎_elim
    (λ (same : node ≡ task.source). let none = ap (λ (l : Label). l.distance) (at_source net task labels node label tree same is) in (omega (arith, ints, none, tree.nearest), omega (arith, ints, none, tree.nearest)))
    (λ (inner : node ≢ task.source). let reached = reached_at net task labels node label tree inner is in absurd (omega (arith, hops, reached.hops)))
    (cases_eq node task.source)
distance_in net task labels network all tree (suc n) node label is hops = ⊎_elim
    (λ (same : node ≡ task.source). let none = ap (λ (l : Label). l.hops) (at_source net task labels node label tree same is) in absurd (omega (arith, none, hops, tree.no_hop)))
    (λ (inner : node ≢ task.source).
    let reached = reached_at net task labels node label tree inner is in
    let before = distance_in net task labels network all tree n (arc_both_ways net.network label.number).tail reached.before reached.from (omega (arith, hops, reached.hops)) in
    let low = lengths_not_negative net task.direction (label.number / 2) (is_back label.number) all reached.step in
    let high = within_size (step_length net task.direction (label.number / 2) (is_back label.number)) (6 * 10 ^ 15) (length_small net task.direction (label.number / 2) (is_back label.number) network reached.step.below) in
    (omega (arith, ints, before.0, low, reached.distance), omega (arith, ints, before.1, high.1, reached.distance)))
    (cases_eq node task.source)

few_nodes : (net : NetworkState) → IsNetwork net → nodes_of net.network ≤ 400001
few_nodes net network = let few = network.layout.few_readings in omega (arith, few)

pub distance_small : (net : NetworkState) (task : Task) (labels : List (Option Label)) (node : ℕ) (label : Label) → IsNetwork net → ((k : ℕ) → k < length (arcs_of net.network) → HasNoNegative net k) → IsTree net task labels
    → label_at labels node ≡ Some label → unsigned_abs label.distance ≤ 10 ^ 30
distance_small net task labels node label network all tree is =
    let within = distance_in net task labels network all tree label.hops node label is refl in
    let few = hops_few net task labels node label tree is in
    let nodes = few_nodes net network in
    size_within label.distance (10 ^ 30) (omega (arith, ints, within.0)) (omega (arith, ints, within.1, few, nodes))

pub hops_small : (net : NetworkState) (task : Task) (labels : List (Option Label)) (node : ℕ) (label : Label) → IsNetwork net → IsTree net task labels → label_at labels node ≡ Some label → label.hops < 2 ^ 31
hops_small net task labels node label network tree is = omega (arith, hops_few net task labels node label tree is, few_nodes net network)

-- no node was reached with more room than the source has
room_in : (net : NetworkState) (task : Task) (labels : List (Option Label)) (tree : IsTree net task labels) → (hops node : ℕ) (label : Label) → label_at labels node ≡ Some label → label.hops ≡ hops → label.room ≤ℤ tree.source.room
room_in net task labels tree zero node label is hops = ⊎_elim
    (λ (same : node ≡ task.source). let all = ap (λ (l : Label). l.room) (at_source net task labels node label tree same is) in omega (arith, ints, all))
    (λ (inner : node ≢ task.source). let reached = reached_at net task labels node label tree inner is in absurd (omega (arith, hops, reached.hops)))
    (cases_eq node task.source)
room_in net task labels tree (suc n) node label is hops = ⊎_elim
    (λ (same : node ≡ task.source). let all = ap (λ (l : Label). l.room) (at_source net task labels node label tree same is) in omega (arith, ints, all))
    (λ (inner : node ≢ task.source).
    let reached = reached_at net task labels node label tree inner is in
    let before = room_in net task labels tree n (arc_both_ways net.network label.number).tail reached.before reached.from (omega (arith, hops, reached.hops)) in
    omega (arith, ints, before, reached.no_more))
    (cases_eq node task.source)

pub room_within : (net : NetworkState) (task : Task) (labels : List (Option Label)) (node : ℕ) (label : Label) → IsTree net task labels → label_at labels node ≡ Some label → label.room ≤ℤ pos (unsigned_abs (value_of net.excesses task.source))
room_within net task labels node label tree is = let within = room_in net task labels tree label.hops node label is refl in omega (arith, ints, within, tree.room)
