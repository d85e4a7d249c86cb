-- A network without excess and without residual arcs of negative reduced cost is solved.
use Rattle.std.proofs.Common.{◌≡◌, ℕ, zero, suc, ◌+◌, ◌*◌, ◌-ℤ◌, ◌<◌, Bool, true, false, ◌||◌, ℤ, pos, ◌≤ℤ◌, ◌≤◌, List, length, get_or, replicate, refl, sym, ap, ◌∙◌, subst, ⊎_elim, arith, zero-add}
use Rattle.std.proofs.lemmas.Int.{ints}
use Rattle.std.proofs.lemmas.Bool.{eqb-true, cases_lt}
use Rattle.std.proofs.lemmas.List.{get_or_append_left, get_or_past, get_or-replicate, length-replicate}
use Rattle.bound_graph.specs.Values.{RespectsArc, RespectsArcs}
use Rattle.flow_core.specs.Laws.{IsBalancedAtReadings}
use Rattle.flow_core.specs.Layout.{arcs_of, arc_numbered, nodes_of, reading_arcs}
use Rattle.flow_core.specs.Solving.{IsSolved}
use Rattle.flow_core.specs.State.{NetworkState, IsNetwork, IsNew, flow_on, residual_of}
use Rattle.flow_core.proofs.Sizes.{length-arcs_of}
use Rattle.flow_core.proofs.Totals.{everywhere}
use Rattle.std.specs.Prelude.{unsigned_abs}
use Rattle.words.specs.Lists.{total}
use Rattle.bound_graph.specs.Cycle.{IsNegativeCycle}
use Rattle.bound_graph.specs.Arcs.{no_arc}
use Rattle.bound_graph.proofs.Cycles.{forbids}
use Rattle.flow_core.specs.Views.{bare_arcs, is_bare, is_residual, tight_arcs}
use Rattle.path_flow.specs.Flow.{IsLeft, excess_units, most_units, units_left}
use Rattle.path_flow.specs.Steps.{HasNoNegative, HasNoNegatives}
use Rattle.path_flow.specs.Searching.{AreFree}
use Rattle.path_flow.proofs.Saturating.{above_zero}
use Rattle.path_flow.proofs.Sums.{all_but_first, sizes_are}
use Rattle.path_flow.proofs.Views.{all_free_respect, there_each}

ahead_respects : (net : NetworkState) (arc : ℕ) → HasNoNegative net arc → pos 1 ≤ℤ residual_of net arc false → RespectsArc net.potentials (arc_numbered net.network arc)
ahead_respects net arc done room = let cost = done.ahead room in omega (arith, ints, cost)

room_of : (net : NetworkState) (arc : ℕ) (bare residual : Bool) → AreFree net → (bare ≡ true → get_or net.network.prices arc 1 ≡ 0) → (residual ≡ true → pos 1 ≤ℤ residual_of net arc false) → (bare || residual) ≡ true → pos 1 ≤ℤ residual_of net arc false
room_of net arc true residual free price room test = free arc (price refl)
room_of net arc false residual free price room test = room test

tight_respect : (net : NetworkState) → HasNoNegatives net → AreFree net → RespectsArcs net.potentials (tight_arcs net)
tight_respect net all free =
    there_each (RespectsArc net.potentials) 0 (λ arc back. is_bare net arc back || is_residual net arc back) (arcs_of net.network)
    (λ k below there.
    let test : (is_bare net k false || is_residual net k false) ≡ true = ap (λ n. is_bare net n false || is_residual net n false) (sym (zero-add k)) ∙ there in
    ahead_respects net k (all k below)
    (room_of net k (is_bare net k false) (is_residual net k false) free (λ bare. eqb-true (get_or net.network.prices k 1) 0 bare) (λ residual. above_zero (residual_of net k false) residual) test))
    (λ k below there.
    let some = above_zero (flow_on net k) (ap (λ n. is_residual net n true) (sym (zero-add k)) ∙ there) in
    let cost = (all k below).back some in
    omega (arith, ints, cost))

pub is_solved : (net : NetworkState) → IsNetwork net → HasNoNegatives net → AreFree net → IsBalancedAtReadings net → IsSolved net
is_solved net is all free balanced = record { balanced = everywhere net is balanced; obeyed = tight_respect net all free }

-- so no cycle of bounds without a price has a negative sum
pub bare_respect : (net : NetworkState) → HasNoNegatives net → AreFree net → RespectsArcs net.potentials (bare_arcs net)
bare_respect net all free =
    all_free_respect net net.potentials (λ k below price.
    let inside : k < length (arcs_of net.network) = omega (arith, below, length-arcs_of net.network) in
    let arc = get_or_append_left net.network.bounds (reading_arcs 1 net.network.values) no_arc k below in
    subst (RespectsArc net.potentials) arc (ahead_respects net k (all k inside) (free k price)))

-- ---- a new network

zero_in : (n k : ℕ) → get_or (replicate n (pos 0)) k (pos 0) ≡ pos 0
zero_in n k = ⊎_elim
    (λ (below : k < n). get_or-replicate n k (pos 0) (pos 0) below)
    (λ (past : n ≤ k). get_or_past (replicate n (pos 0)) k (pos 0) (omega (arith, past, length-replicate n (pos 0))))
    (cases_lt k n)

zeroes : (n : ℕ) → total (replicate n (pos 0)) ≡ pos 0
zeroes zero = refl
zeroes (suc n) = let rest = zeroes n in omega (arith, ints, rest)

pub new_is_whole : (net : NetworkState) → IsNew net → total net.excesses ≡ pos 0
new_is_whole net new = ap (λ (state : NetworkState). total state.excesses) new ∙ zeroes (nodes_of net.network)

-- ---- before the first search

pub few_units : (net : NetworkState) → IsNetwork net → total net.excesses ≡ pos 0 → units_left net ≤ 2 * excess_units net
few_units net is whole =
    let sizes = sizes_are net.excesses in
    let rest = all_but_first unsigned_abs net.excesses (omega (arith, is.excess_each)) in
    omega (arith, ints, sizes, rest, whole)

pub first_left : (net : NetworkState) (spare : ℤ) → IsNetwork net → excess_units net ≤ most_units net.network → total net.excesses ≡ pos 0 → ((arc : ℕ) → get_or net.network.prices arc 1 ≡ 0 → flow_on net arc ≡ pos 0)
    → spare ≡ pos (most_units net.network) -ℤ pos (units_left net) → IsLeft net.network (net.changes + length net.network.values * most_units net.network) net spare 1
first_left net spare is units whole empty spare_is = record {
  same = refl;
  budget = most_units net.network;
  most = omega arith;
  spare_is = spare_is;
  excess = λ fewer. units;
  free = λ arc price. let none = empty arc price in omega (arith, ints, none);
  whole = whole;
  few = omega (arith, few_units net is whole, units);
  changes = omega arith;
  done = λ x some below. absurd (omega (arith, some, below));
}

pub forbidden : (net : NetworkState) (numbers : List ℕ) → HasNoNegatives net → AreFree net → IsNegativeCycle (bare_arcs net) numbers → ⊥
forbidden net numbers all free cycle = forbids (bare_arcs net) numbers net.potentials cycle (bare_respect net all free)
