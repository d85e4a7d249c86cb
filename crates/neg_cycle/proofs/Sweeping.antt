-- One more arc in a sweep.
use Rattle.std.proofs.Common.{◌≡◌, ◌⊎◌, ℕ, Bool, true, false, ◌||◌, true≢false, ℤ, List, Option, refl, sym, ◌∙◌, subst, ⊎_elim, arith}
use Rattle.std.proofs.lemmas.Int.{ints}
use Rattle.bound_graph.specs.declared.arc.Arc.{Arc}
use Rattle.bound_graph.specs.Arcs.{arc_at}
use Rattle.bound_graph.specs.Values.{RespectsIfThere}
use Rattle.neg_cycle.specs.Labels.{Fell}

-- whether anything fell in the arcs so far, or by one more
pub fell_more : (before here : Bool) (old middle new : List ℤ) → Fell before old middle → Fell here middle new → Fell (before || here) old new
fell_more true true old middle new first second = omega (arith, ints)
fell_more true false old middle new first second = rw second first
fell_more false true old middle new first second = rw (← first) second
fell_more false false old middle new first second = second ∙ first

-- where nothing fell, the arcs that were kept before still are, and the one that was tried is
pub kept_more : (arcs : List (Option Arc)) (before here : Bool) (middle new : List ℤ) (i : ℕ) (seen more : ℕ → Type 0) → ((j : ℕ) → more j → seen j ⊎ (j ≡ i)) → Fell here middle new → (before ≡ false → (j : ℕ) → seen j → RespectsIfThere middle (arc_at arcs j)) → (here ≡ false → RespectsIfThere new (arc_at arcs i)) → before || here ≡ false → (j : ℕ) → more j → RespectsIfThere new (arc_at arcs j)
kept_more arcs true here middle new i seen more cases fell kept tried none j in_more = absurd (true≢false none)
kept_more arcs false true middle new i seen more cases fell kept tried none j in_more = absurd (true≢false none)
kept_more arcs false false middle new i seen more cases fell kept tried none j in_more =
    ⊎_elim
    (λ (old : seen j). subst (λ distances. RespectsIfThere distances (arc_at arcs j)) (sym fell) (kept refl j old))
    (λ (same : j ≡ i). subst (λ k. RespectsIfThere new (arc_at arcs k)) (sym same) (tried refl))
    (cases j in_more)
