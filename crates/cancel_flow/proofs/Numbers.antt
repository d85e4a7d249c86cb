-- The arc or reverse of a number, where it is residual.
use Rattle.std.proofs.Common.{◌≡◌, ◌≢◌, ℕ, zero, suc, ◌+◌, ◌/◌, ◌<◌, ◌≤◌, Bool, true, false, cond, ℤ, pos, negsuc, ◌≤ℤ◌, List, length, get_or, Option, Some, None, refl, sym, ◌∙◌, subst, ⊎_elim, arith}
use Rattle.std.specs.Int.{int_min, is_positive}
use Rattle.std.proofs.lemmas.Int.{ints}
use Rattle.std.proofs.lemmas.Bool.{cases_eq, cases_lt}
use Rattle.bound_graph.specs.declared.arc.Arc.{Arc}
use Rattle.bound_graph.specs.Arcs.{arc_at}
use Rattle.bound_graph.specs.Reverses.{is_back}
use Rattle.bound_graph.proofs.Reverses.{both_ways, none_past, some_within}
use Rattle.flow_core.specs.Layout.{arcs_of}
use Rattle.flow_core.specs.State.{NetworkState}
use Rattle.flow_core.specs.Views.{arc_both_ways, is_residual, residual_arcs}
use Rattle.flow_core.proofs.BothWays.{residual_at}
use Rattle.cancel_flow.specs.Cycles.{room_of, HasRoom, HaveRoom}

pub above_zero : (z : ℤ) → is_positive z ≡ true → pos 1 ≤ℤ z
above_zero (pos zero) test = absurd cc
above_zero (pos (suc n)) test = omega (arith, ints)
above_zero (negsuc n) test = absurd cc

cond_there : (b : Bool) (found : Option Arc) (arc : Arc) → cond b found None ≡ Some arc → (b ≡ true) × (found ≡ Some arc)
cond_there true found arc e = (refl, e)
cond_there false found arc e = absurd cc

below_if_there : (arcs : List Arc) (number : ℕ) (arc : Arc) → both_ways arcs number ≡ Some arc → number / 2 < length arcs
below_if_there arcs number arc there = ⊎_elim
    (λ (below : number / 2 < length arcs). below)
    (λ (past : length arcs ≤ number / 2). let none = none_past arcs number past in absurd cc)
    (cases_lt (number / 2) (length arcs))

-- a residual arc by its number
pub record IsFound (net : NetworkState) (number : ℕ) (arc : Arc) : Type 0 where
  pub has : HasRoom net (pos 1) number
  pub is : arc_both_ways net.network number ≡ arc

pub found : (net : NetworkState) (number : ℕ) (arc : Arc) → arc_at (residual_arcs net) number ≡ Some arc → IsFound net number arc
found net number arc there =
    let arcs = arcs_of net.network in
    let parts = cond_there (is_residual net (number / 2) (is_back number)) (both_ways arcs number) arc (sym (residual_at net number) ∙ there) in
    let below = below_if_there arcs number arc parts.1 in
    let by = some_within arcs number below in
    record {
      has = record { below = below; room = above_zero (room_of net number) parts.0 };
      is = let same = parts.1 in cc;
    }

-- ---- the least room of several

pub some_min : (x y : ℤ) → pos 1 ≤ℤ x → pos 1 ≤ℤ y → pos 1 ≤ℤ int_min x y
some_min x y a b = grind (arith, ints)

pub least_more : (net : NetworkState) (numbers : List ℕ) (i : ℕ) (before new : ℤ) → HaveRoom net (pos 1) numbers → i < length numbers → new ≤ℤ before → new ≤ℤ room_of net (get_or numbers i 0)
    → ((j : ℕ) → j < i → HasRoom net before (get_or numbers j 0)) → (j : ℕ) → j < i + 1 → HasRoom net new (get_or numbers j 0)
least_more net numbers i before new have below less here so_far j within = ⊎_elim
    (λ (same : j ≡ i). subst (λ k. HasRoom net new (get_or numbers k 0)) (sym same) (let has = have i below in record { below = has.below; room = here }))
    (λ (ne : j ≢ i). let has = so_far j (omega (arith, within, ne)) in record { below = has.below; room = let room = has.room in omega (arith, ints, room, less) })
    (cases_eq j i)
