use Rattle.std.proofs.Common.{◌≡◌, ℕ, zero, suc, ◌<◌, ◌/◌, ◌+◌, ◌++◌, List, [], ◌∷◌, Some, length, get_or, take, sym, ◌∙◌, arith}
use Rattle.std.specs.Prelude.{slice_get}
use Rattle.screen_model.specs.declared.bound.Bound.{Bound}
use Rattle.screen_model.specs.declared.bound.BoundName.{BoundName}
use Rattle.least_cost.specs.Cycle.{names_at, names_on}
use Rattle.least_cost.proofs.Cycles.{names_more}
use Rattle.least_cost.proofs.cycle.cycle_in.Goals as goal

read : (numbers : List ℕ) (k number d : ℕ) → slice_get numbers k ≡ Some number → get_or numbers k d ≡ number
read [] k number d there = absurd cc
read (n ∷ numbers) zero number d there = cc
read (n ∷ numbers) (suc k) number d there = read numbers k number d there

one_more : (bounds : List Bound) (numbers : List ℕ) (names new : List BoundName) (k number d : ℕ) → k < length numbers → names ≡ names_on bounds (take k numbers) → slice_get numbers k ≡ Some number → new ≡ names ++ names_at bounds (number / 2)
    → new ≡ names_on bounds (take (k + 1) numbers)
one_more bounds numbers names new k number d below so_far there added =
    added ∙ (λ i. so_far i ++ names_at bounds (sym (read numbers k number d there) i / 2)) ∙ sym (names_more bounds numbers k d below)

pub loop-place-preserved : goal.loop-place-preserved
loop-place-preserved c =
    let below : c.loop-place.place < length c.args.room.now.cycle = omega (arith, c.loop-place-test.true, c.cycle_len-place-end.ensures) in
    one_more c.args.bounds.now c.args.room.now.cycle c.loop-place.names c.push_name.new.names c.loop-place.place c.unwrap-number.result 0 below c.loop-place.invariant (sym c.cycle_arc.ensures ∙ c.unwrap-number.ensures) c.in_ok-push_name.ensures
