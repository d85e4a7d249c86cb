-- Prices, weights and excesses summed up.
use Rattle.std.proofs.Common.{◌≡◌, ◌≢◌, ℕ, suc, ◌+◌, ◌<◌, ◌≤◌, ℤ, pos, List, [], ◌∷◌, length, sum, sum_by, take, drop, get_or, refl, ap, ◌∙◌, arith}
use Rattle.std.specs.Prelude.{unsigned_abs}
use Rattle.std.proofs.lemmas.List.Sums.{sum_by_more, sum_by-take-le}
use Rattle.bound_graph.specs.Values.{value_of}
use Rattle.flow_core.specs.Layout.{FlowNetwork, IsLayout, capacity_numbered, unpriced_capacity}
use Rattle.flow_core.proofs.Sizes.{capacity_of_bound, prices_small, weights_small}
use Rattle.path_flow.specs.Flow.{most_units, positive_size}
use Rattle.path_flow.proofs.Saturating.{priced_capacity}

-- the capacity of a bound with a price
pub price_is : (network : FlowNetwork) (k : ℕ) → IsLayout network → k < length network.bounds → get_or network.prices k 1 ≢ 0 → capacity_numbered network k ≡ get_or network.prices k 1
price_is network k layout below priced = capacity_of_bound network k (omega (arith, below, layout.priced)) ∙ priced_capacity (unpriced_capacity network) (get_or network.prices k 1) priced

-- ---- sums so far

pub sum_within : (xs : List ℕ) (i d bound : ℕ) → i < length xs → sum xs ≤ bound → sum (take i xs) + get_or xs i d ≤ bound
sum_within xs i d bound below few =
    let more = sum_by_more (λ (n : ℕ). n) xs i d below in
    let less = sum_by-take-le (λ (n : ℕ). n) xs (i + 1) in
    omega (arith, more, less, few)

rest_long : (xs : List ℤ) (i : ℕ) → i + 1 < length xs → i < length (drop 1 xs)
rest_long [] i below = absurd (omega (arith, below))
rest_long (x ∷ xs) i below = omega (arith, below)

rest_short : (xs : List ℤ) (i : ℕ) → length xs ≤ i + 1 → length (drop 1 xs) ≤ i
rest_short [] i all = omega arith
rest_short (x ∷ xs) i all = omega (arith, all)

later_at : (xs : List ℤ) (i : ℕ) → value_of (drop 1 xs) i ≡ value_of xs (i + 1)
later_at [] i = refl
later_at (x ∷ xs) i = ap (value_of (x ∷ xs)) (let e : suc i ≡ i + 1 = omega arith in e)

pub units_more : (xs : List ℤ) (i so_far x : ℕ) → i + 1 < length xs → so_far ≡ sum_by unsigned_abs (take i (drop 1 xs)) → x ≡ unsigned_abs (value_of xs (i + 1))
    → so_far + x ≡ sum_by unsigned_abs (take (i + 1) (drop 1 xs))
units_more xs i so_far x below is here =
    let inside : i < length (drop 1 xs) = rest_long xs i below in
    let more = sum_by_more unsigned_abs (drop 1 xs) i (pos 0) inside in
    let same = ap unsigned_abs (later_at xs i) in
    omega (arith, is, here, more, same)

pub units_within : (xs : List ℤ) (i bound : ℕ) → i + 1 < length xs → sum_by unsigned_abs (drop 1 xs) ≤ bound → sum_by unsigned_abs (take i (drop 1 xs)) + unsigned_abs (value_of xs (i + 1)) ≤ bound
units_within xs i bound below few =
    let inside : i < length (drop 1 xs) = rest_long xs i below in
    let more = sum_by_more unsigned_abs (drop 1 xs) i (pos 0) inside in
    let less = sum_by-take-le unsigned_abs (drop 1 xs) (i + 1) in
    let same = ap unsigned_abs (later_at xs i) in
    omega (arith, more, less, few, same)

pub excess_more : (xs : List ℤ) (i so_far x : ℕ) → i < length xs → so_far ≡ sum_by positive_size (take i xs) → x ≡ positive_size (value_of xs i) → so_far + x ≡ sum_by positive_size (take (i + 1) xs)
excess_more xs i so_far x below is here =
    let more = sum_by_more positive_size xs i (pos 0) below in
    omega (arith, is, here, more)

pub excess_within : (xs : List ℤ) (i bound : ℕ) → i < length xs → sum_by positive_size xs ≤ bound → sum_by positive_size (take i xs) + positive_size (value_of xs i) ≤ bound
excess_within xs i bound below few =
    let more = sum_by_more positive_size xs i (pos 0) below in
    let less = sum_by-take-le positive_size xs (i + 1) in
    omega (arith, more, less, few)

pub most_small : (network : FlowNetwork) → IsLayout network → most_units network ≤ 4400000000
most_small network layout = omega (arith, prices_small network layout, weights_small network layout)
