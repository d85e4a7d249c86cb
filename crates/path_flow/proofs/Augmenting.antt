-- A path is searched, made tight, and flow pushed along it.
use Rattle.std.proofs.Common.{◌≡◌, ◌≢◌, ◌⊎◌, ℕ, zero, suc, ◌<◌, ◌≤◌, ◌^◌, true, not, eqb, ℤ, pos, negsuc, ◌≤ℤ◌, List, Option, get_or, length, inl, inr, refl, sym, ap, ◌∙◌, subst, ⊎_elim, arith}
use Rattle.std.specs.Prelude.{unsigned_abs}
use Rattle.std.proofs.lemmas.Int.{ints}
use Rattle.words.proofs.Products.{size_within}
use Rattle.bound_graph.specs.Values.{value_of}
use Rattle.flow_core.specs.Layout.{FlowNetwork, arcs_of, nodes_of}
use Rattle.flow_core.specs.State.{NetworkState, IsNetwork}
use Rattle.path_flow.specs.declared.search.Task.{Task}
use Rattle.path_flow.specs.declared.search.Label.{Label}
use Rattle.path_flow.specs.Flow.{HasSign, IsAugmented, IsLeft, IsPushed, amount_if, most_units}
use Rattle.path_flow.specs.Search.{IsFound}
use Rattle.path_flow.specs.Steps.{ChangesPotentials, HasNoNegatives, reduced_cost}
use Rattle.path_flow.proofs.Discharging.{takes}
use Rattle.path_flow.proofs.Saturating.{cost_kept, no_negative_kept}
use Rattle.path_flow.proofs.Shifting.{tight_done}
use Rattle.path_flow.proofs.Trees.{hops_few, room_within}
use Rattle.path_flow.proofs.Weighing.{most_small}

none_or_some : (z : ℤ) → (z ≡ pos 0) ⊎ (z ≢ pos 0)
none_or_some (pos zero) = inl refl
none_or_some (pos (suc n)) = inr (λ e. absurd (omega (arith, ints, e)))
none_or_some (negsuc n) = inr (λ e. absurd (omega (arith, ints, e)))

-- pushes over tight arcs alone leave no residual arc of negative reduced cost
pub optimal_pushed : (task : Task) (labels : List (Option Label)) (end node : ℕ) (amount : ℤ) (old new : NetworkState) → HasNoNegatives old → IsPushed task labels end node amount old new → HasNoNegatives new
optimal_pushed task labels end node amount old new all pushed arc below = ⊎_elim
    (λ (tight : reduced_cost old arc ≡ pos 0). tight_done new arc (cost_kept old new arc pushed.network pushed.potentials ∙ tight))
    (λ (slack : reduced_cost old arc ≢ pos 0).
    let inside : arc < length (arcs_of old.network) = subst (λ (n : FlowNetwork). arc < length (arcs_of n)) pushed.network below in
    no_negative_kept old new arc pushed.network pushed.potentials (pushed.tight arc slack) (all arc inside))
    (none_or_some (reduced_cost old arc))

pub count_of : (amount : ℤ) → pos 1 ≤ℤ amount → pos (unsigned_abs amount) ≡ amount
count_of (pos n) some = refl
count_of (negsuc n) some = absurd (omega (arith, ints, some))

augmented_by : (old middle new : NetworkState) (task : Task) (labels : List (Option Label)) (end n : ℕ) (gain : ℤ) → (found : IsFound old task labels end) → end < nodes_of old.network → ChangesPotentials old middle
    → 1 ≤ n → pos n ≤ℤ found.label.room → (((end ≡ 0) × (task.ends_at_zero ≡ true) → ⊥) → pos n ≤ℤ pos (unsigned_abs (value_of middle.excesses end)))
    → IsPushed task labels end task.source (pos n) middle new → gain ≡ amount_if (not (eqb end 0)) (pos n) → IsAugmented task old new gain
augmented_by old middle new task labels end n gain found inside changes some room opposite pushed gain_is =
    let within = room_within old task labels end found.label found.tree found.is in
    let hops = hops_few old task labels end found.label found.tree found.is in
    let count = pushed.changes found.tree.source found.label found.tree.at_source found.is in
    record {
      network = pushed.network ∙ changes.network;
      amount = n;
      end = end;
      inside = inside;
      is_end = found.is_end;
      some = some;
      within = omega (arith, ints, room, within);
      opposite = λ not_end.
          let high = opposite not_end in
          let same = ap (λ (l : List ℤ). unsigned_abs (value_of l end)) changes.excesses in
          omega (arith, ints, high, same);
      excesses = λ x below.
          let change = pushed.excesses x (subst (λ (m : FlowNetwork). x < nodes_of m) (sym changes.network) below) in
          let same = ap (λ (l : List ℤ). value_of l x) changes.excesses in
          omega (arith, ints, change, same);
      flows = λ arc.
          let once = pushed.once arc in
          let same = ap (λ (l : List ℤ). get_or l arc (pos 0)) changes.flows in
          omega (arith, ints, once, same);
      changes = omega (arith, hops, count, changes.changes, found.tree.no_hop);
      gain_is = gain_is;
    }

pub augmented : (old middle new : NetworkState) (task : Task) (labels : List (Option Label)) (end : ℕ) (amount gain : ℤ) → (found : IsFound old task labels end) → end < nodes_of old.network → ChangesPotentials old middle
    → pos 1 ≤ℤ amount → amount ≤ℤ found.label.room → (((end ≡ 0) × (task.ends_at_zero ≡ true) → ⊥) → amount ≤ℤ pos (unsigned_abs (value_of middle.excesses end)))
    → IsPushed task labels end task.source amount middle new → gain ≡ amount_if (not (eqb end 0)) amount → IsAugmented task old new gain
augmented old middle new task labels end amount gain found inside changes some room opposite pushed gain_is =
    let n = unsigned_abs amount in
    let is = count_of amount some in
    augmented_by old middle new task labels end n gain found inside changes (omega (arith, ints, is, some)) (omega (arith, ints, is, room))
    (λ not_end. let high = opposite not_end in omega (arith, ints, is, high))
    (subst (λ (z : ℤ). IsPushed task labels end task.source z middle new) (sym is) pushed) (gain_is ∙ ap (amount_if (not (eqb end 0))) (sym is))

-- ---- the sizes of what is added up

pub spare_small : (network : FlowNetwork) (bound : ℕ) (net : NetworkState) (spare : ℤ) (node : ℕ) → IsNetwork net → IsLeft network bound net spare node → unsigned_abs spare ≤ 2 ^ 40
spare_small network bound net spare node is left =
    let most = ap most_units left.same in
    let small = most_small net.network is.layout in
    size_within spare (2 ^ 40) (omega (arith, ints, left.spare_is, left.few, most, small)) (omega (arith, ints, left.spare_is, left.most, most, small))

pub gain_small : (network : FlowNetwork) (bound : ℕ) (task : Task) (old new : NetworkState) (spare gain : ℤ) → IsNetwork old → IsNetwork new → 1 ≤ task.source → task.source < nodes_of old.network
    → HasSign task.direction (value_of old.excesses task.source) → IsAugmented task old new gain → IsLeft network bound old spare task.source → unsigned_abs gain ≤ 2 ^ 40
gain_small network bound task old new spare gain is_old is_new some below sign is left =
    let take = takes task old new gain is_old is_new some below sign is in
    let most = ap most_units left.same in
    let small = most_small old.network is_old.layout in
    let units = take.units in
    let low = take.low in
    size_within gain (2 ^ 40) (omega (arith, ints, low)) (omega (arith, ints, units, left.few, most, small))
