-- The greatest values that respect the tight arcs of a solved network are the repair.
use Rattle.std.proofs.Common.{◌≡◌, ℕ, zero, suc, ◌<◌, ◌≤◌, true, ℤ, pos, ◌≤ℤ◌, List, [], ◌∷◌, length, get_or, drop, replicate, refl, sym, ap, ◌∙◌, subst, arith}
use Rattle.std.specs.Prelude.{unsigned_abs}
use Rattle.std.specs.List.{AllByRecursion}
use Rattle.std.proofs.lemmas.Int.{ints}
use Rattle.std.proofs.lemmas.Bool.{eq-eqb}
use Rattle.std.proofs.lemmas.List.{length-replicate, get_or-replicate, get_or_append_left}
use Rattle.words.proofs.Products.{within_size, size_within}
use Rattle.screen_model.specs.Cost.{Problem, IsSeries, cost}
use Rattle.screen_model.specs.Best.{IsBest}
use Rattle.screen_model.proofs.Duality.{least}
use Rattle.bound_graph.specs.declared.arc.Arc.{Arc}
use Rattle.bound_graph.specs.Arcs.{no_arc}
use Rattle.bound_graph.specs.Values.{value_of, RespectsArc, RespectsArcs}
use Rattle.neg_cycle.specs.Distances.{AreAtMost, IsGreatest}
use Rattle.flow_core.specs.Layout.{FlowNetwork, nodes_of, reading_arcs, arc_numbered, is_unpriced}
use Rattle.flow_core.specs.State.{NetworkState, IsNetwork, bound_flows, value}
use Rattle.flow_core.specs.Solving.{IsSolved}
use Rattle.flow_core.specs.Views.{tight_arcs}
use Rattle.flow_core.specs.Laws.{IsNetworkOf}
use Rattle.flow_core.specs.declared.limits.TheConstants.{MOST_VALUE}
use Rattle.flow_core.proofs.Sizes.{length-arcs_of}
use Rattle.flow_core.proofs.Optimality.{are_tight, tight_is_best}
use Rattle.flow_core.proofs.Least.{best_is_tight}
use Rattle.least_cost.specs.Repair.{IsRepair}
use Rattle.least_cost.proofs.Lists.{all_at_place, all_by_place}

-- the values from which the greatest are settled
abbrev pub starts : ℕ → List ℤ
starts count = pos 0 ∷ replicate count (pos MOST_VALUE)

start_at : (count k : ℕ) → k < count → value_of (starts count) (suc k) ≡ pos MOST_VALUE
start_at count k below = get_or-replicate count k (pos MOST_VALUE) (pos 0) below

length-starts : (count : ℕ) → length (starts count) ≡ suc count
length-starts count = ap suc (length-replicate count (pos MOST_VALUE))

-- ---- what is settled

below_start : (values : List ℤ) (count node : ℕ) → node < suc count → value_of values 0 ≡ pos 0 → ((k : ℕ) → k < count → value_of values (suc k) ≤ℤ pos MOST_VALUE) → value_of values node ≤ℤ value_of (starts count) node
below_start values count zero below first small = omega (arith, ints, first)
below_start values count (suc k) below first small = omega (arith, ints, small k (omega (arith, below)), start_at count k (omega (arith, below)))

-- values that are 0 at node 0 and not above the greatest value elsewhere are at most the starts
below_starts : (values : List ℤ) (count : ℕ) → length values ≡ suc count → value_of values 0 ≡ pos 0 → ((k : ℕ) → k < count → value_of values (suc k) ≤ℤ pos MOST_VALUE) → AreAtMost values (starts count)
below_starts values count long first small = record {
  nodes = long ∙ sym (length-starts count);
  each = λ node below. below_start values count node (omega (arith, below, length-starts count)) first small;
}

potential_within : (net : NetworkState) (node : ℕ) → IsNetwork net → node < nodes_of net.network → unsigned_abs (value_of net.potentials node) ≤ MOST_VALUE
potential_within net node is below = all_at_place (λ potential. unsigned_abs potential ≤ MOST_VALUE) (pos 0) net.potentials node is.potentials (omega (arith, below, is.potential_each))

potentials_below : (net : NetworkState) → IsNetwork net → AreAtMost net.potentials (starts (length net.network.values))
potentials_below net is =
    let long = is.potential_each in
    below_starts net.potentials (length net.network.values) (omega (arith, long)) is.potential_zero
    (λ k below. (within_size (value_of net.potentials (suc k)) MOST_VALUE (potential_within net (suc k) is (omega (arith, below)))).1)

-- what holds of the greatest values
pub record AreSettled (net : NetworkState) (distances : List ℤ) : Type 0 where
  pub long : length distances ≡ suc (length net.network.values)
  pub first : value_of distances 0 ≡ pos 0
  pub small : AllByRecursion (λ distance. unsigned_abs distance ≤ MOST_VALUE) distances

distance_within : (net : NetworkState) (distances : List ℤ) (node : ℕ) → IsNetwork net → AreAtMost net.potentials distances → AreAtMost distances (starts (length net.network.values)) → node < suc (length net.network.values)
    → unsigned_abs (value_of distances node) ≤ MOST_VALUE
distance_within net distances zero is low high below =
    size_within (value_of distances 0) MOST_VALUE
    (omega (arith, ints, low.each 0 (omega (arith, low.nodes, is.potential_each)), is.potential_zero))
    (omega (arith, ints, high.each 0 (omega (arith, length-starts (length net.network.values)))))
distance_within net distances (suc k) is low high below =
    let lowest = within_size (value_of net.potentials (suc k)) MOST_VALUE (potential_within net (suc k) is (omega (arith, below))) in
    size_within (value_of distances (suc k)) MOST_VALUE
    (omega (arith, ints, lowest.0, low.each (suc k) (omega (arith, below, low.nodes, is.potential_each))))
    (omega (arith, ints, high.each (suc k) (omega (arith, below, length-starts (length net.network.values))), start_at (length net.network.values) k (omega (arith, below))))

pub are_settled : (net : NetworkState) (distances : List ℤ) → IsNetwork net → IsSolved net → IsGreatest (tight_arcs net) (starts (length net.network.values)) distances → AreSettled net distances
are_settled net distances is solves greatest =
    let count = length net.network.values in
    let high = greatest.below in
    let low = greatest.greatest net.potentials (potentials_below net is) solves.obeyed in
    let long : length distances ≡ suc count = high.nodes ∙ length-starts count in
    record {
      long = long;
      first = omega (arith, ints, low.each 0 (omega (arith, long)), is.potential_zero, high.each 0 (omega (arith, length-starts count)));
      small = all_by_place (λ distance. unsigned_abs distance ≤ MOST_VALUE) (pos 0) distances (λ node below. distance_within net distances node is low high (omega (arith, below, long)));
    }

-- no cycle stands in the way
pub can_settle : (net : NetworkState) → IsSolved net → ((distances : List ℤ) → RespectsArcs distances (tight_arcs net) → ⊥) → ⊥
can_settle net solves none = none net.potentials solves.obeyed

-- ---- series that obey are at most the starts

at_most_by_range : (net : NetworkState) (series : List ℤ) (k : ℕ) → IsNetwork net → RespectsArcs (pos 0 ∷ series) (tight_arcs net) → k < length net.network.values → value_of series k ≤ℤ pos MOST_VALUE
at_most_by_range net series k is respects below =
    let network = net.network in
    let up = (is.layout.ranged k below).up in
    let tight = are_tight (record net { potentials = pos 0 ∷ series }) respects in
    let arc : arc_numbered network up.0 ≡ record { tail = 0; head = suc k; cost = pos MOST_VALUE } =
    get_or_append_left network.bounds (reading_arcs 1 network.values) no_arc up.0 up.1 ∙ up.2 in
    let free : is_unpriced network up.0 ≡ true = eq-eqb (get_or network.prices up.0 1) 0 up.3 in
    let here = subst (λ (a : Arc). RespectsArc (pos 0 ∷ series) a) arc (tight.free up.0 (omega (arith, length-arcs_of network, up.1)) free) in
    omega (arith, ints, here)

least_below : (net : NetworkState) (series : List ℤ) → IsNetwork net → length series ≡ length net.network.values → RespectsArcs (pos 0 ∷ series) (tight_arcs net) → AreAtMost (pos 0 ∷ series) (starts (length net.network.values))
least_below net series is long respects = below_starts (pos 0 ∷ series) (length net.network.values) (ap suc long) refl (λ k below. at_most_by_range net series k is respects below)

-- ---- the repair

split_first : (distances : List ℤ) (count : ℕ) → length distances ≡ suc count → value_of distances 0 ≡ pos 0 → distances ≡ pos 0 ∷ drop 1 distances
split_first [] count long first = absurd (omega arith)
split_first (d ∷ distances) count long first = λ i. first i ∷ distances

without_first : (xs ys : List ℤ) → AreAtMost (pos 0 ∷ xs) (pos 0 ∷ ys) → AreAtMost xs ys
without_first xs ys low = record {
  nodes = omega (arith, low.nodes);
  each = λ k below. low.each (suc k) (omega (arith, below));
}

pub record IsFound (problem : Problem) (net : NetworkState) (series : List ℤ) : Type 0 where
  pub repair : IsRepair problem series
  pub best : IsBest problem series (bound_flows net)
  pub valued : value net ≡ pos (cost problem series)

pub found : (problem : Problem) (net : NetworkState) (distances : List ℤ) → IsNetworkOf problem net → IsSolved net → IsGreatest (tight_arcs net) (starts (length net.network.values)) distances → IsFound problem net (drop 1 distances)
found problem net distances is solves greatest =
    let count = length net.network.values in
    let series = drop 1 distances in
    let settled = are_settled net distances is.network solves greatest in
    let split = split_first distances count settled.long settled.first in
    let sound = is.sound in
    let counted : count ≡ length problem.places = ap (λ (n : FlowNetwork). length n.values) is.same ∙ sound.valued in
    let whole : IsSeries problem series = omega (arith, settled.long, counted, ap (λ (ds : List ℤ). length ds) split) in
    let respects : RespectsArcs (pos 0 ∷ series) (tight_arcs net) = subst (λ (ds : List ℤ). RespectsArcs ds (tight_arcs net)) split greatest.respects in
    let shown = tight_is_best problem net series is solves whole respects in
    let best = shown.0 in
    record {
      repair = record {
        obeying = record { whole = whole; obeys = best.obeys };
        least = λ other obeying. least problem series other (bound_flows net) obeying.whole best obeying.obeys;
        greatest = λ other obeying same.
            let other_respects = best_is_tight problem net other is solves obeying.whole obeying.obeys (omega (arith, ints, shown.1, ap pos same)) in
            let low = greatest.greatest (pos 0 ∷ other) (least_below net other is.network (omega (arith, obeying.whole, counted)) other_respects) other_respects in
            without_first other series (subst (λ (ds : List ℤ). AreAtMost (pos 0 ∷ other) ds) split low);
      };
      best = best;
      valued = shown.1;
    }
