-- Distances that respect the bounds without a price, taken as potentials.
use Rattle.std.proofs.Common.{◌≡◌, ◌≢◌, ℕ, zero, suc, ◌+◌, ◌<◌, ◌≤◌, ℤ, pos, ◌-ℤ◌, List, length, get_or, set, refl, sym, ap, ◌∙◌, ⊎_elim, arith, get_or-set_same, get_or-set_other}
use Rattle.std.specs.Prelude.{unsigned_abs}
use Rattle.std.proofs.lemmas.Int.{ints}
use Rattle.std.proofs.lemmas.Bool.{cases_eq}
use Rattle.words.proofs.Products.{size_within}
use Rattle.bound_graph.specs.Values.{value_of, RespectsArcs}
use Rattle.bound_graph.specs.Arcs.{no_arc}
use Rattle.flow_core.specs.declared.limits.TheConstants.{MOST_VALUE}
use Rattle.flow_core.specs.Layout.{IsLayout, HasRange, nodes_of}
use Rattle.flow_core.specs.State.{NetworkState}
use Rattle.flow_core.specs.Views.{bare_arcs}
use Rattle.path_flow.specs.Steps.{ChangesPotentials}
use Rattle.path_flow.proofs.Views.{all_get, free_respects, unpriced_respects, all_free_respect}

ranged_within : (net : NetworkState) (values : List ℤ) (node : ℕ) → RespectsArcs values (bare_arcs net) → HasRange net.network node → unsigned_abs (value_of values node -ℤ value_of values 0) ≤ MOST_VALUE
ranged_within net values node all ranged =
    let up = unpriced_respects net values (record { tail = 0; head = node; cost = pos MOST_VALUE }) all ranged.up in
    let down = unpriced_respects net values (record { tail = node; head = 0; cost = pos MOST_VALUE }) all ranged.down in
    size_within (value_of values node -ℤ value_of values 0) MOST_VALUE (omega (arith, ints, down)) (omega (arith, ints, up))

-- the range keeps each node but node 0 within the greatest size of values, as seen from node 0
pub relative_within : (net : NetworkState) (values : List ℤ) (node : ℕ) → IsLayout net.network → RespectsArcs values (bare_arcs net) → 1 ≤ node → node < nodes_of net.network → unsigned_abs (value_of values node -ℤ value_of values 0) ≤ MOST_VALUE
relative_within net values zero layout all some below = absurd (omega arith)
relative_within net values (suc reading) layout all some below = ranged_within net values (suc reading) all (layout.ranged reading (omega arith))

-- potentials that are the distances, each less that of node 0
pub relative_respect : (net : NetworkState) (values potentials : List ℤ) → IsLayout net.network → RespectsArcs values (bare_arcs net) → ((node : ℕ) → node < nodes_of net.network → value_of potentials node ≡ value_of values node -ℤ value_of values 0) → RespectsArcs potentials (bare_arcs net)
relative_respect net values potentials layout all each =
    all_free_respect net potentials (λ k below free.
    let arc = get_or net.network.bounds k no_arc in
    let valid = all_get _ net.network.bounds k no_arc layout.arcs below in
    let kept = free_respects net values k all below free in
    let at_tail = each arc.tail valid.tail in
    let at_head = each arc.head valid.head in
    omega (arith, ints, kept, at_tail, at_head))

-- potentials alone do not change which bounds have no price
pub same_bare : (old new : NetworkState) → new.network ≡ old.network → bare_arcs new ≡ bare_arcs old
same_bare old new same = ap (λ network. bare_arcs (record old { network = network })) same

pub changes_none : (net : NetworkState) → ChangesPotentials net net
changes_none net = record { network = refl; flows = refl; excesses = refl; changes = refl }

pub set_changes : (old middle new : NetworkState) (potentials : List ℤ) → ChangesPotentials old middle → new ≡ record middle { potentials = potentials } → ChangesPotentials old new
set_changes old middle new potentials first set = record {
  network = ap (λ (net : NetworkState). net.network) set ∙ first.network;
  flows = ap (λ (net : NetworkState). net.flows) set ∙ first.flows;
  excesses = ap (λ (net : NetworkState). net.excesses) set ∙ first.excesses;
  changes = ap (λ (net : NetworkState). net.changes) set ∙ first.changes;
}

-- one potential more is the distance less that of node 0
pub one_more : (values potentials : List ℤ) (node : ℕ) (potential : ℤ) → node < length potentials → potential ≡ value_of values node -ℤ value_of values 0
    → ((k : ℕ) → k < node → value_of potentials k ≡ value_of values k -ℤ value_of values 0)
    → (k : ℕ) → k < node + 1 → value_of (set potentials node potential) k ≡ value_of values k -ℤ value_of values 0
one_more values potentials node potential below is so_far k before = ⊎_elim
    (λ (e : k ≡ node).
    ap (λ n. value_of (set potentials node potential) n) e ∙ get_or-set_same potentials node potential (pos 0) below ∙ is ∙ ap (λ n. value_of values n -ℤ value_of values 0) (sym e))
    (λ (ne : k ≢ node). get_or-set_other potentials node k potential (pos 0) ne ∙ so_far k (omega arith))
    (cases_eq k node)
