-- How much a series of small values can cost.
use Rattle.std.proofs.Common.{◌≡◌, ℕ, ◌+◌, ◌*◌, ◌^◌, ◌<◌, ◌≤◌, Bool, true, false, cond, ℤ, pos, negsuc, ◌-ℤ◌, List, [], ◌∷◌, length, map, sum, ap, arith}
use Rattle.std.specs.Prelude.{unsigned_abs}
use Rattle.std.specs.List.{AllByRecursion}
use Rattle.std.proofs.lemmas.Int.{ints}
use Rattle.std.proofs.lemmas.Nat.{mul-le}
use Rattle.std.proofs.lemmas.List.Sums.{sum_by-cons}
use Rattle.words.proofs.Products.{within_size, size_within}
use Rattle.screen_model.specs.declared.place.Place.{Place}
use Rattle.screen_model.specs.declared.place.End.{End}
use Rattle.screen_model.specs.declared.place.End.TheVariants.{Zero, At}
use Rattle.screen_model.specs.declared.bound.Bound.{Bound}
use Rattle.screen_model.specs.Series.{is_same_place, reading_at, value_at}
use Rattle.screen_model.specs.Obeys.{Priced, rise, with_prices}
use Rattle.screen_model.specs.Cost.{Problem, weighted_change, above_zero, payment, cost}
use Rattle.flow_core.specs.declared.limits.TheConstants.{MOST_BOUNDS, MOST_PRICE, MOST_WEIGHT, MOST_VALUE}
use Rattle.screen_model.specs.declared.limits.TheConstants.{MOST_READINGS}

apart : (x y : ℤ) (m n : ℕ) → unsigned_abs x ≤ m → unsigned_abs y ≤ n → unsigned_abs (x -ℤ y) ≤ m + n
apart x y m n h k =
    let p = within_size x m h in
    let q = within_size y n k in
    size_within (x -ℤ y) (m + n) (omega (arith, ints, p.0, q.1)) (omega (arith, ints, p.1, q.0))

change_small : (weights : List ℕ) (values series : List ℤ) → AllByRecursion (λ weight. weight ≤ 1000) weights → AllByRecursion (λ value. unsigned_abs value ≤ 10 ^ 15) values → AllByRecursion (λ x. unsigned_abs x ≤ 10 ^ 15) series
    → weighted_change weights values series ≤ length weights * (2 * 10 ^ 18)
change_small [] values series few small low = omega arith
change_small (weight ∷ weights) [] series few small low = omega arith
change_small (weight ∷ weights) (value ∷ values) [] few small low = omega arith
change_small (weight ∷ weights) (value ∷ values) (x ∷ series) few small low =
    let here = mul-le weight (unsigned_abs (x -ℤ value)) 1000 (2 * 10 ^ 15) few.0 (omega (arith, apart x value (10 ^ 15) (10 ^ 15) low.0 small.0)) in
    omega (arith, here, change_small weights values series few.1 small.1 low.1)

either_small : (same : Bool) (x y : ℤ) → unsigned_abs x ≤ 10 ^ 15 → unsigned_abs y ≤ 10 ^ 15 → unsigned_abs (cond same x y) ≤ 10 ^ 15
either_small true x y h k = h
either_small false x y h k = k

reading_small : (places : List Place) (series : List ℤ) (p : Place) → AllByRecursion (λ x. unsigned_abs x ≤ 10 ^ 15) series → unsigned_abs (reading_at places series p) ≤ 10 ^ 15
reading_small [] series p low = omega arith
reading_small (q ∷ places) [] p low = omega arith
reading_small (q ∷ places) (x ∷ series) p low = either_small (is_same_place p q) x (reading_at places series p) low.0 (reading_small places series p low.1)

end_small : (places : List Place) (series : List ℤ) (end : End) → AllByRecursion (λ x. unsigned_abs x ≤ 10 ^ 15) series → unsigned_abs (value_at places series end) ≤ 10 ^ 15
end_small places series Zero low = omega arith
end_small places series (At p) low = reading_small places series p low

above_small : (z : ℤ) (n : ℕ) → unsigned_abs z ≤ n → above_zero z ≤ n
above_small (pos m) n h = h
above_small (negsuc m) n h = omega arith

payment_small : (places : List Place) (series : List ℤ) (bound : Bound) (price : ℕ) → AllByRecursion (λ x. unsigned_abs x ≤ 10 ^ 15) series → unsigned_abs bound.limit ≤ 4 * 10 ^ 15 → price ≤ 1000
    → payment places series (record { bound = bound; price = price }) ≤ 6 * 10 ^ 18
payment_small places series bound price low limit few =
    let first = end_small places series bound.first low in
    let second = end_small places series bound.second low in
    let risen = apart (value_at places series bound.second) (value_at places series bound.first) (10 ^ 15) (10 ^ 15) second first in
    let over = apart (rise places series bound) bound.limit (2 * 10 ^ 15) (4 * 10 ^ 15) (omega (arith, risen)) limit in
    let above = above_small (rise places series bound -ℤ bound.limit) (6 * 10 ^ 15) (omega (arith, over)) in
    omega (arith, mul-le price (above_zero (rise places series bound -ℤ bound.limit)) 1000 (6 * 10 ^ 15) few above)

payments_small : (places : List Place) (series : List ℤ) (bounds : List Bound) (prices : List ℕ) → AllByRecursion (λ x. unsigned_abs x ≤ 10 ^ 15) series → AllByRecursion (λ bound. unsigned_abs bound.limit ≤ 4 * 10 ^ 15) bounds → AllByRecursion (λ price. price ≤ 1000) prices
    → sum (map (payment places series) (with_prices bounds prices)) ≤ length bounds * (6 * 10 ^ 18)
payments_small places series [] prices low limits few = omega arith
payments_small places series (bound ∷ bounds) [] low limits few =
    let priced : Priced = record { bound = bound; price = 0 } in
    omega (arith, payment_small places series bound 0 low limits.0 (omega arith), payments_small places series bounds [] low limits.1 few, sum_by-cons (λ x. x) (payment places series priced) (map (payment places series) (with_prices bounds [])))
payments_small places series (bound ∷ bounds) (price ∷ prices) low limits few =
    let priced : Priced = record { bound = bound; price = price } in
    omega (arith, payment_small places series bound price low limits.0 few.0, payments_small places series bounds prices low limits.1 few.1, sum_by-cons (λ x. x) (payment places series priced) (map (payment places series) (with_prices bounds prices)))

pub cost_below : (problem : Problem) (series : List ℤ) (bounds : List Bound) (prices : List ℕ) → problem.bounds ≡ with_prices bounds prices → length problem.weights ≤ MOST_READINGS → length bounds ≤ MOST_BOUNDS
    → AllByRecursion (λ weight. weight ≤ MOST_WEIGHT) problem.weights → AllByRecursion (λ value. unsigned_abs value ≤ MOST_VALUE) problem.values → AllByRecursion (λ x. unsigned_abs x ≤ MOST_VALUE) series
    → AllByRecursion (λ bound. unsigned_abs bound.limit ≤ 4 * 10 ^ 15) bounds → AllByRecursion (λ price. price ≤ MOST_PRICE) prices → cost problem series < 10 ^ 27
cost_below problem series bounds prices same readings few weights values low limits dear =
    let change = change_small problem.weights problem.values series weights values low in
    let pays = payments_small problem.places series bounds prices low limits dear in
    let paid_same : sum (map (payment problem.places series) problem.bounds) ≡ sum (map (payment problem.places series) (with_prices bounds prices)) = ap (λ (bs : List Priced). sum (map (payment problem.places series) bs)) same in
    omega (arith, change, pays, paid_same, readings, few)
