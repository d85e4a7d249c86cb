-- The result costs least.
use Rattle.std.proofs.Common.{◌≡◌, ℕ, ◌≤◌, Bool, true, false, cond, ℤ, ◌+ℤ◌, ◌-ℤ◌, ◌≤ℤ◌, ◌⊎◌, inl, inr, List, [], ◌∷◌, sym, subst, arith}
use Rattle.std.specs.Prelude.{IsTrue, Some}
use Rattle.std.proofs.lemmas.Bool.{cases_Bool}
use Rattle.std.proofs.lemmas.List.Elements.{All-from_recursion}
use Rattle.window_median.specs.declared.cost.Near.{Near}
use Rattle.window_median.specs.LocalCost.{HasSteps, IsConvex, IsLeastAt, candidates, clamped, cost_at}
use Rattle.window_median.specs.Median.{IsOdd}
use Rattle.window_median.proofs.Costs.{cost_convex, length-starts, median_least}
use Rattle.window_median.proofs.Least.{clamping_keeps}
use Rattle.order_window.specs.declared.key.Key.{Key}
use Rattle.online_values.specs.Results.{Speed, clamped_after, greatest_step, is_within, least_step, median, near, result, successors}
use Rattle.online_values.specs.Laws.{AreReadings, CostsLeast}
use Rattle.online_values.proofs.Middle.{median_middle}
use Rattle.online_values.proofs.Steps.{HaveTimes, later_reached, successors_have_steps}

pub odd : (own : ℤ) (near : List Near) → IsOdd (candidates own near)
odd own near = omega (arith, length-starts near)

-- a number within the steps after the last result
abbrev Within : Speed → Key → Key → ℤ → Type 0
Within speed last own v =
    IsTrue (is_within speed last own)
    → ((last.value +ℤ least_step speed (own.ticks -ℤ last.ticks)) ≤ℤ v) × (v ≤ℤ (last.value +ℤ greatest_step speed (own.ticks -ℤ last.ticks)))

clamped_least_by : (speed : Speed) (f : ℤ → ℕ) (last own : Key) (m v : ℤ) → IsConvex f → IsLeastAt f m → Within speed last own v → (is_within speed last own ≡ true) ⊎ (is_within speed last own ≡ false) → f (clamped_after speed (Some last) own m) ≤ f v
clamped_least_by speed f last own m v convex least within (inl inside) =
    let low = last.value +ℤ least_step speed (own.ticks -ℤ last.ticks) in
    let high = last.value +ℤ greatest_step speed (own.ticks -ℤ last.ticks) in
    let P : Bool → Type 0 = λ b. f (cond b (clamped low high m) m) ≤ f v in
    let bounds = within inside in
    subst P (sym inside) (clamping_keeps f m low high v convex least bounds.0 bounds.1)
clamped_least_by speed f last own m v convex least within (inr beyond) =
    let low = last.value +ℤ least_step speed (own.ticks -ℤ last.ticks) in
    let high = last.value +ℤ greatest_step speed (own.ticks -ℤ last.ticks) in
    let P : Bool → Type 0 = λ b. f (cond b (clamped low high m) m) ≤ f v in
    subst P (sym beyond) (least v)

pub costs_least : (speed : Speed) (earlier : List Key) (own : Key) (later : List Key) → AreReadings speed earlier own later → CostsLeast speed earlier own later
costs_least speed [] own later readings v allowed =
    let next = near speed own (successors speed own later) in
    let times : HaveTimes speed = record { min = readings.min_per; max = readings.max_per } in
    let steps = All-from_recursion HasSteps next (successors_have_steps speed own later (later_reached speed own later times readings.after)) in
    median_least own.value next (median (candidates own.value next)) steps (median_middle (candidates own.value next) (odd own.value next)) v
costs_least speed (last ∷ earlier) own later readings v allowed =
    let next = near speed own (successors speed own later) in
    let times : HaveTimes speed = record { min = readings.min_per; max = readings.max_per } in
    let steps = All-from_recursion HasSteps next (successors_have_steps speed own later (later_reached speed own later times readings.after)) in
    let m = median (candidates own.value next) in
    let before : Key = record { value = result speed earlier last (own ∷ later); ticks = last.ticks } in
    clamped_least_by speed (cost_at own.value next) before own m v (cost_convex own.value next steps)
    (median_least own.value next m steps (median_middle (candidates own.value next) (odd own.value next)))
    allowed (cases_Bool (is_within speed last own))
