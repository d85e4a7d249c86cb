-- How many elements of a list are below a number, and how many are above it.
use Rattle.std.proofs.Common.{◌≡◌, ℕ, suc, ◌+◌, ◌≤◌, Bool, true, false, cond, ℤ, ◌≤ℤ◌, ◌<ℤ◌, List, [], ◌∷◌, length, arith}
use Rattle.std.specs.Prelude.{int_lt}
use Rattle.std.specs.List.Sorted.{IsPermutation}
use Rattle.std.proofs.lemmas.Int.{ints, by_lt_z}
use Rattle.std.proofs.lemmas.List.Sums.{sum_by-cons, count_by-le-length}
use Rattle.std.proofs.lemmas.List.Sorted.{sum_by-IsPermutation}
use Rattle.window_median.specs.Median.{count_below, count_above}

-- 1 where the first number is less, else 0
abbrev pub less : ℤ → ℤ → ℕ
less a b = cond (int_lt a b) 1 0

pub less_yes : (a b : ℤ) → a <ℤ b → less a b ≡ 1
less_yes a b h = grind (arith, ints)

pub less_no : (a b : ℤ) → b ≤ℤ a → less a b ≡ 0
less_no a b h = grind (arith, ints)

-- ---- one more element

pub below-cons : (v x : ℤ) (xs : List ℤ) → count_below v (x ∷ xs) ≡ less x v + count_below v xs
below-cons v x xs = sum_by-cons (λ y. less y v) x xs

pub above-cons : (v x : ℤ) (xs : List ℤ) → count_above v (x ∷ xs) ≡ less v x + count_above v xs
above-cons v x xs = sum_by-cons (λ y. less v y) x xs

pub below_yes : (v x : ℤ) (xs : List ℤ) → x <ℤ v → count_below v (x ∷ xs) ≡ suc (count_below v xs)
below_yes v x xs h = omega (arith, below-cons v x xs, less_yes x v h)

pub below_no : (v x : ℤ) (xs : List ℤ) → v ≤ℤ x → count_below v (x ∷ xs) ≡ count_below v xs
below_no v x xs h = omega (arith, below-cons v x xs, less_no x v h)

pub above_yes : (v x : ℤ) (xs : List ℤ) → v <ℤ x → count_above v (x ∷ xs) ≡ suc (count_above v xs)
above_yes v x xs h = omega (arith, above-cons v x xs, less_yes v x h)

pub above_no : (v x : ℤ) (xs : List ℤ) → x ≤ℤ v → count_above v (x ∷ xs) ≡ count_above v xs
above_no v x xs h = omega (arith, above-cons v x xs, less_no v x h)

at_most_one : (b : Bool) → cond b 1 0 ≤ 1
at_most_one true = omega arith
at_most_one false = omega arith

pub less_small : (a b : ℤ) → less a b ≤ 1
less_small a b = at_most_one (int_lt a b)

pub below_more : (v x : ℤ) (xs : List ℤ) → (count_below v xs ≤ count_below v (x ∷ xs)) × (count_below v (x ∷ xs) ≤ suc (count_below v xs))
below_more v x xs = (omega (arith, below-cons v x xs), omega (arith, below-cons v x xs, less_small x v))

pub above_more : (v x : ℤ) (xs : List ℤ) → (count_above v xs ≤ count_above v (x ∷ xs)) × (count_above v (x ∷ xs) ≤ suc (count_above v xs))
above_more v x xs = (omega (arith, above-cons v x xs), omega (arith, above-cons v x xs, less_small v x))

pub below_few : (v : ℤ) (xs : List ℤ) → count_below v xs ≤ length xs
below_few v xs = count_by-le-length (λ x. int_lt x v) xs

pub above_few : (v : ℤ) (xs : List ℤ) → count_above v xs ≤ length xs
above_few v xs = count_by-le-length (λ x. int_lt v x) xs

-- ---- a greater number has more below it and fewer above it

pub below_rises : (a b : ℤ) (xs : List ℤ) → a ≤ℤ b → count_below a xs ≤ count_below b xs
below_rises a b [] h = omega arith
below_rises a b (x ∷ xs) h =
    by_lt_z x a
    (λ less. omega (arith, below_yes a x xs less, below_yes b x xs (omega (arith, ints)), below_rises a b xs h))
    (λ more. omega (arith, below_no a x xs more, (below_more b x xs).0, below_rises a b xs h))

pub above_falls : (a b : ℤ) (xs : List ℤ) → a ≤ℤ b → count_above b xs ≤ count_above a xs
above_falls a b [] h = omega arith
above_falls a b (x ∷ xs) h =
    by_lt_z b x
    (λ more. omega (arith, above_yes b x xs more, above_yes a x xs (omega (arith, ints)), above_falls a b xs h))
    (λ less. omega (arith, above_no b x xs less, (above_more a x xs).0, above_falls a b xs h))

-- of two numbers each element is below the greater one or above the less
pub cover : (a b : ℤ) (xs : List ℤ) → a <ℤ b → length xs ≤ count_below b xs + count_above a xs
cover a b [] h = omega arith
cover a b (x ∷ xs) h =
    by_lt_z x b
    (λ less. omega (arith, below_yes b x xs less, (above_more a x xs).0, cover a b xs h))
    (λ more. omega (arith, above_yes a x xs (omega (arith, ints)), (below_more b x xs).0, cover a b xs h))

-- ---- the order of the elements does not count

pub below-permutation : (v : ℤ) (xs ys : List ℤ) → IsPermutation xs ys → count_below v ys ≡ count_below v xs
below-permutation v xs ys same = sum_by-IsPermutation (λ x. less x v) xs ys same

pub above-permutation : (v : ℤ) (xs ys : List ℤ) → IsPermutation xs ys → count_above v ys ≡ count_above v xs
above-permutation v xs ys same = sum_by-IsPermutation (λ x. less v x) xs ys same
