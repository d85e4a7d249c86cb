-- Distances that respect the tight arcs, taken as potentials.
use Rattle.std.proofs.Common.{◌≡◌, ◌≢◌, ℕ, zero, suc, ◌+◌, ◌*◌, ◌<◌, ◌≤◌, Bool, true, false, ◌||◌, ℤ, pos, ◌-ℤ◌, List, length, get_or, set, refl, sym, ap, ◌∙◌, subst, ⊎_elim, arith, get_or-set_same, get_or-set_other, zero-add}
use Rattle.std.specs.Prelude.{unsigned_abs}
use Rattle.std.proofs.lemmas.Int.{ints}
use Rattle.std.proofs.lemmas.Bool.{cases_eq, eq-eqb}
use Rattle.std.proofs.lemmas.List.{get_or_append_left}
use Rattle.words.proofs.Products.{size_within}
use Rattle.bound_graph.specs.declared.arc.Arc.{Arc}
use Rattle.bound_graph.specs.Values.{value_of, RespectsArc, RespectsArcs}
use Rattle.bound_graph.specs.Arcs.{no_arc}
use Rattle.bound_graph.specs.Reverses.{reversed}
use Rattle.flow_core.specs.declared.limits.TheConstants.{MOST_VALUE}
use Rattle.flow_core.specs.Layout.{IsLayout, HasRange, HasUnpriced, nodes_of, arcs_of, arc_numbered, reading_arcs}
use Rattle.flow_core.specs.State.{NetworkState}
use Rattle.flow_core.specs.Views.{is_bare, is_residual, bare_arcs, tight_arcs}
use Rattle.flow_core.proofs.Sizes.{length-arcs_of, arc_valid}
use Rattle.flow_core.proofs.BothWays.{there_by_arc, back_by_arc}
use Rattle.cancel_flow.specs.Cycles.{ChangesPotentials}
use Rattle.cancel_flow.proofs.Views.{there_each, there_respects}

abbrev is_tight : NetworkState → ℕ → Bool → Bool
is_tight net arc back = is_bare net arc back || is_residual net arc back

or_left : (a b : Bool) → a ≡ true → (a || b) ≡ true
or_left true b h = refl
or_left false b h = absurd cc

unpriced_respects : (net : NetworkState) (values : List ℤ) (arc : Arc) → RespectsArcs values (tight_arcs net) → HasUnpriced net.network arc → RespectsArc values arc
unpriced_respects net values arc all has =
    let k = has.0 in
    let free : is_bare net k false ≡ true = eq-eqb (get_or net.network.prices k 1) 0 has.3 in
    let below = has.1 in
    let at : arc_numbered net.network k ≡ arc = get_or_append_left net.network.bounds (reading_arcs 1 net.network.values) no_arc k below ∙ has.2 in
    subst (RespectsArc values) at (there_respects values (tight_arcs net) (2 * k) (arc_numbered net.network k) all
    (there_by_arc (is_tight net) (arcs_of net.network) k (omega (arith, below, length-arcs_of net.network)) (or_left (is_bare net k false) (is_residual net k false) free)))

ranged_within : (net : NetworkState) (values : List ℤ) (node : ℕ) → RespectsArcs values (tight_arcs net) → HasRange net.network node → unsigned_abs (value_of values node -ℤ value_of values 0) ≤ MOST_VALUE
ranged_within net values node all ranged =
    let up = unpriced_respects net values (record { tail = 0; head = node; cost = pos MOST_VALUE }) all ranged.up in
    let down = unpriced_respects net values (record { tail = node; head = 0; cost = pos MOST_VALUE }) all ranged.down in
    size_within (value_of values node -ℤ value_of values 0) MOST_VALUE (omega (arith, ints, down)) (omega (arith, ints, up))

-- the range keeps each node but node 0 within the greatest size of values, as seen from node 0
pub relative_within : (net : NetworkState) (values : List ℤ) (node : ℕ) → IsLayout net.network → RespectsArcs values (tight_arcs net) → 1 ≤ node → node < nodes_of net.network → unsigned_abs (value_of values node -ℤ value_of values 0) ≤ MOST_VALUE
relative_within net values zero layout all some below = absurd (omega arith)
relative_within net values (suc reading) layout all some below = ranged_within net values (suc reading) all (layout.ranged reading (omega arith))

-- the distances, each less that of node 0
abbrev pub AreRelative : List ℤ → List ℤ → ℕ → Type 0
AreRelative values potentials count = (node : ℕ) → node < count → value_of potentials node ≡ value_of values node -ℤ value_of values 0

pub relative_respect : (net : NetworkState) (values potentials : List ℤ) → IsLayout net.network → RespectsArcs values (tight_arcs net) → AreRelative values potentials (nodes_of net.network) → RespectsArcs potentials (tight_arcs net)
relative_respect net values potentials layout all each =
    let arcs = arcs_of net.network in
    there_each (RespectsArc potentials) 0 (is_tight net) arcs
    (λ k below there.
    let arc = arc_numbered net.network k in
    let valid = arc_valid net.network k layout below in
    let kept = there_respects values (tight_arcs net) (2 * k) arc all (there_by_arc (is_tight net) arcs k below (ap (λ n. is_tight net n false) (sym (zero-add k)) ∙ there)) in
    omega (arith, ints, kept, each arc.tail valid.tail, each arc.head valid.head))
    (λ k below there.
    let arc = arc_numbered net.network k in
    let valid = arc_valid net.network k layout below in
    let kept = there_respects values (tight_arcs net) (2 * k + 1) (reversed arc) all (back_by_arc (is_tight net) arcs k below (ap (λ n. is_tight net n true) (sym (zero-add k)) ∙ there)) in
    omega (arith, ints, kept, each arc.tail valid.tail, each arc.head valid.head))

-- which bounds have no price is of the network alone
pub same_bare : (old new : NetworkState) → new.network ≡ old.network → bare_arcs new ≡ bare_arcs old
same_bare old new same = λ i. bare_arcs (record old { network = same i })

-- potentials alone do not change which arcs are tight
pub same_tight : (old new : NetworkState) → ChangesPotentials old new → tight_arcs new ≡ tight_arcs old
same_tight old new same = λ i. tight_arcs (record old { network = same.network i; flows = same.flows i })

pub set_changes : (old middle new : NetworkState) (potentials : List ℤ) → ChangesPotentials old middle → new ≡ record middle { potentials = potentials } → ChangesPotentials old new
set_changes old middle new potentials first set = record {
  network = ap (λ (net : NetworkState). net.network) set ∙ first.network;
  flows = ap (λ (net : NetworkState). net.flows) set ∙ first.flows;
  excesses = ap (λ (net : NetworkState). net.excesses) set ∙ first.excesses;
  changes = ap (λ (net : NetworkState). net.changes) set ∙ first.changes;
}

-- one potential more is the distance less that of node 0
pub one_more : (values potentials : List ℤ) (node : ℕ) (potential : ℤ) → node < length potentials → potential ≡ value_of values node -ℤ value_of values 0
    → AreRelative values potentials node → AreRelative values (set potentials node potential) (node + 1)
one_more values potentials node potential below is so_far k before = ⊎_elim
    (λ (e : k ≡ node).
    ap (λ n. value_of (set potentials node potential) n) e ∙ get_or-set_same potentials node potential (pos 0) below ∙ is ∙ ap (λ n. value_of values n -ℤ value_of values 0) (sym e))
    (λ (ne : k ≢ node). get_or-set_other potentials node k potential (pos 0) ne ∙ so_far k (omega arith))
    (cases_eq k node)

-- the first potential is 0, as that of node 0 is
pub first_relative : (values potentials : List ℤ) → value_of potentials 0 ≡ pos 0 → AreRelative values potentials 1
first_relative values potentials none zero below = omega (arith, ints, none)
first_relative values potentials none (suc node) below = absurd (omega (arith, below))
