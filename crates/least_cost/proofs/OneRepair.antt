-- A problem has one repair only.
use Rattle.std.proofs.Common.{◌≡◌, ℕ, suc, ◌<◌, ℤ, ◌≤ℤ◌, List, [], ◌∷◌, length, refl, arith}
use Rattle.std.proofs.lemmas.Int.{ints}
use Rattle.bound_graph.specs.Values.{value_of}
use Rattle.neg_cycle.specs.Distances.{AreAtMost}
use Rattle.least_cost.specs.Repair.{RepairIsOne}

same_by_place : (xs ys : List ℤ) → length xs ≡ length ys → ((k : ℕ) → k < length ys → value_of xs k ≤ℤ value_of ys k) → ((k : ℕ) → k < length xs → value_of ys k ≤ℤ value_of xs k) → xs ≡ ys
same_by_place [] [] long low high = refl
same_by_place [] (y ∷ ys) long low high = absurd (omega arith)
same_by_place (x ∷ xs) [] long low high = absurd (omega arith)
same_by_place (x ∷ xs) (y ∷ ys) long low high =
    let here : x ≡ y = omega (arith, ints, low 0 (omega arith), high 0 (omega arith)) in
    let rest = same_by_place xs ys (omega arith) (λ k below. low (suc k) (omega (arith, below))) (λ k below. high (suc k) (omega (arith, below))) in
    λ i. here i ∷ rest i

pub same_by_order : (xs ys : List ℤ) → AreAtMost xs ys → AreAtMost ys xs → xs ≡ ys
same_by_order xs ys low high = same_by_place xs ys low.nodes low.each high.each

pub one : RepairIsOne
one problem series other is also =
    let least = is.least other also.obeying in
    let other_least = also.least series is.obeying in
    let high = is.greatest other also.obeying (omega arith) in
    let low = also.greatest series is.obeying (omega arith) in
    same_by_order series other low high
