use Rattle.std.proofs.Common.{◌≡◌, ◌*◌, ◌^◌, ◌≤◌, ◌<◌, ◌+◌, ℕ, ℤ, pos, ◌+ℤ◌, ◌-ℤ◌, List, length, get_or, take, ap, ◌∙◌, rules, arith, w64, to_z, of_z}
use Rattle.std.specs.Prelude.{unsigned_abs, FitsSigned}
use Rattle.std.proofs.lemmas.Int.{ints, to_z-of_z, fits_signed_from_abs}
use Rattle.screen_model.specs.Cost.{weighted_change}
use Rattle.least_cost.proofs.Change.{change_more}
use Rattle.least_cost.proofs.series.change.Goals as goal
use mir.Syntax.{w128}

record IsMore (weights : List ℕ) (values series : List ℤ) (k : ℕ) (new : ℤ) : Type 0 where
  change : new ≡ pos (weighted_change (take (k + 1) weights) (take (k + 1) values) (take (k + 1) series))
  size : unsigned_abs new ≤ (k + 1) * 2 ^ 96

one_more : (weights : List ℕ) (values series : List ℤ) (k : ℕ) (before cost value x : ℤ) → k < length weights → length values ≡ length weights → length series ≡ length weights → length weights ≤ 400000
    → before ≡ pos (weighted_change (take k weights) (take k values) (take k series)) → unsigned_abs before ≤ k * 2 ^ 96
    → cost ≡ pos (get_or weights k 0 * unsigned_abs (x -ℤ value)) → unsigned_abs cost ≤ 2 ^ 96 → value ≡ get_or values k (pos 0) → x ≡ get_or series k (pos 0)
    → IsMore weights values series k (to_z w128 (of_z w128 (before +ℤ to_z w128 (of_z w128 cost))))
one_more weights values series k before cost value x below valued whole few so_far small cost_is low value_is x_is =
    let more = change_more weights values series k below valued whole in
    let cost_here : cost ≡ pos (get_or weights k 0 * unsigned_abs (get_or series k (pos 0) -ℤ get_or values k (pos 0))) = cost_is ∙ (λ i. pos (get_or weights k 0 * unsigned_abs (x_is i -ℤ value_is i))) in
    let cost_read = to_z-of_z w128 cost (fits_signed_from_abs w128 cost (omega (arith, low))) in
    let sum = before +ℤ cost in
    let size : unsigned_abs sum ≤ (k + 1) * 2 ^ 96 = omega (arith, ints, small, low, so_far, cost_here) in
    let fits : FitsSigned w128 sum = fits_signed_from_abs w128 sum (omega (arith, size, below, few)) in
    let new : to_z w128 (of_z w128 (before +ℤ to_z w128 (of_z w128 cost))) ≡ sum = ap (λ z. to_z w128 (of_z w128 (before +ℤ z))) cost_read ∙ to_z-of_z w128 sum fits in
    record {
      change = new ∙ omega (arith, ints, so_far, cost_here, more);
      size = rw new size;
    }

pub loop-place-preserved : goal.loop-place-preserved
loop-place-preserved c =
    let k = c.loop-place.place in
    let value = get_or c.args.values.now k (pos 0) in
    let x = get_or c.args.series.now k (pos 0) in
    let value_fits : FitsSigned w64 value = search rules in
    let x_fits : FitsSigned w64 x = search rules in
    let all = one_more c.args.weights.now c.args.values.now c.args.series.now k (to_z w128 c.loop-place.change-bits) c.cost-change.result _ _ c.loop-place-test.true c.requires.valued c.requires.whole c.requires.few
    c.loop-place.invariant.change c.loop-place.invariant.size c.cost-change.ensures.value c.cost-change.ensures.size (to_z-of_z w64 value value_fits) (to_z-of_z w64 x x_fits) in
    record { change = all.change; size = all.size }
