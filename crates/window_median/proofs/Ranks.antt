-- The element of a rank, and the median as such an element.
use Rattle.std.proofs.Common.{◌≡◌, ℕ, zero, suc, ◌+◌, ◌/◌, ◌<◌, ◌≤◌, false, ℤ, pos, ◌≤ℤ◌, ◌<ℤ◌, ◌⊎◌, inl, inr, List, [], ◌∷◌, length, get_or, refl, sym, ◌∙◌, subst, arith}
use Rattle.std.specs.Prelude.{Contains}
use Rattle.std.proofs.lemmas.Bool.{cases_lt}
use Rattle.std.proofs.lemmas.Cmp.{int_cmp_total}
use Rattle.std.specs.List.Sorted.{IsPermutation, IsSorted}
use Rattle.std.specs.Ordering.{int_cmp, is_lt}
use Rattle.std.proofs.lemmas.Int.{ints, by_lt_z}
use Rattle.std.proofs.lemmas.List.{get_or_default}
use Rattle.std.proofs.lemmas.List.Elements.{Contains-get_or}
use Rattle.std.proofs.lemmas.List.Sorted.{IsPermutation-sym, Contains-permutation, length_permutation, ranks_by, sorted_far}
use Rattle.words.proofs.Lists.{contains_first, contains_later}
use Rattle.window_median.specs.Median.{IsOdd, count_below, count_above, IsMedian}
use Rattle.window_median.proofs.Counts.{below_no, above_no, below_more, above_more, below_few, above_few, below_rises, above_falls, cover, below-permutation, above-permutation}

-- An element that has at most `rank` elements below it, and fewer above it than there are from that place on.
pub record IsOfRank (xs : List ℤ) (rank : ℕ) (v : ℤ) : Type 0 where
  pub element : Contains xs v
  pub below : count_below v xs ≤ rank
  pub above : count_above v xs + rank < length xs

pub median_of_rank : (xs : List ℤ) (v : ℤ) → IsOdd xs → IsOfRank xs (length xs / 2) v → IsMedian xs v
median_of_rank xs v odd ranked = record {
  element = ranked.element;
  below = ranked.below;
  above = omega (arith, ranked.above, odd);
}

-- ---- there is one

-- an element of the others, which is not below the first one
rank_kept : (x v : ℤ) (xs : List ℤ) (rank : ℕ) → v ≤ℤ x → IsOfRank xs rank v → IsOfRank (x ∷ xs) rank v
rank_kept x v xs rank h ranked = record {
  element = contains_later x xs v ranked.element;
  below = omega (arith, below_no v x xs h, ranked.below);
  above = omega (arith, (above_more v x xs).1, ranked.above);
}

-- and one which is not above it
rank_moved : (x v : ℤ) (xs : List ℤ) (rank : ℕ) → x ≤ℤ v → IsOfRank xs rank v → IsOfRank (x ∷ xs) (suc rank) v
rank_moved x v xs rank h ranked = record {
  element = contains_later x xs v ranked.element;
  below = omega (arith, (below_more v x xs).1, ranked.below);
  above = omega (arith, above_no v x xs h, ranked.above);
}

-- the first element
rank_first : (x : ℤ) (xs : List ℤ) (rank : ℕ) → x ≤ℤ x → count_below x xs ≤ rank → count_above x xs + rank ≤ length xs → IsOfRank (x ∷ xs) rank x
rank_first x xs rank same below above = record {
  element = contains_first x xs;
  below = omega (arith, below_no x x xs same, below);
  above = omega (arith, above_no x x xs same, above);
}

abbrev HasRanks : List ℤ → Type 0
HasRanks xs = (rank : ℕ) → rank < length xs → (v : ℤ) × IsOfRank xs rank v

-- where the first element has few enough below it, it or one of the others is of the rank
from_below : (x : ℤ) (xs : List ℤ) → HasRanks xs → (rank : ℕ) → rank ≤ length xs → count_below x xs ≤ rank → (v : ℤ) × IsOfRank (x ∷ xs) rank v
from_below x xs others zero h below = (x, rank_first x xs 0 (omega (arith, ints)) below (omega (arith, above_few x xs)))
from_below x xs others (suc rank) h below =
    let lower = others rank (omega arith) in
    by_lt_z lower.0 x
    (λ less. (x, rank_first x xs (suc rank) (omega (arith, ints)) below (omega (arith, above_falls lower.0 x xs (omega (arith, ints)), lower.1.above))))
    (λ more. (lower.0, rank_moved x lower.0 xs rank more lower.1))

from_either : (x : ℤ) (xs : List ℤ) → HasRanks xs → (rank : ℕ) → rank < length xs → (v : ℤ) × IsOfRank (x ∷ xs) rank v
from_either x xs others rank h =
    let upper = others rank h in
    by_lt_z x upper.0
    (λ less. from_below x xs others rank (omega arith) (omega (arith, below_rises x upper.0 xs (omega (arith, ints)), upper.1.below)))
    (λ more. (upper.0, rank_kept x upper.0 xs rank more upper.1))

has_rank : (x : ℤ) (xs : List ℤ) → HasRanks xs → (rank : ℕ) → rank < suc (length xs) → (rank < length xs) ⊎ (length xs ≤ rank) → (v : ℤ) × IsOfRank (x ∷ xs) rank v
has_rank x xs others rank h (inl less) = from_either x xs others rank less
has_rank x xs others rank h (inr more) = from_below x xs others rank (omega arith) (omega (arith, below_few x xs))

pub has_ranks : (xs : List ℤ) → HasRanks xs
has_ranks [] rank h = absurd (omega arith)
has_ranks (x ∷ xs) rank h = has_rank x xs (has_ranks xs) rank (omega arith) (cases_lt rank (length xs))

pub has_median : (xs : List ℤ) → IsOdd xs → (median : ℤ) × IsMedian xs median
has_median xs odd =
    let middle = has_ranks xs (length xs / 2) (omega (arith, odd)) in
    (middle.0, median_of_rank xs middle.0 odd middle.1)

-- ---- there is one only

not_below : (xs : List ℤ) (one other : ℤ) → IsOdd xs → IsMedian xs one → IsMedian xs other → one <ℤ other → ⊥
not_below xs one other odd a b h = omega (arith, cover one other xs h, a.above, b.below, odd)

pub only_median : (xs : List ℤ) (one other : ℤ) → IsOdd xs → IsMedian xs one → IsMedian xs other → one ≡ other
only_median xs one other odd a b =
    by_lt_z one other
    (λ less. absurd (not_below xs one other odd a b less))
    (λ more. by_lt_z other one
    (λ less. absurd (not_below xs other one odd b a less))
    (λ same. omega (arith, ints)))

-- ---- it stands in the middle of the elements in order

-- no element is less than one before it
abbrev pub IsRising : List ℤ → Type 0
IsRising xs = (i j : ℕ) → i ≤ j → j < length xs → get_or xs i (pos 0) ≤ℤ get_or xs j (pos 0)

rising_rest : (x : ℤ) (xs : List ℤ) → IsRising (x ∷ xs) → IsRising xs
rising_rest x xs rising i j h k = rising (suc i) (suc j) (omega arith) (omega arith)

pub none_below : (v : ℤ) (xs : List ℤ) → ((k : ℕ) → k < length xs → v ≤ℤ get_or xs k (pos 0)) → count_below v xs ≡ 0
none_below v [] all = refl
none_below v (x ∷ xs) all =
    let first : v ≤ℤ x = all 0 (omega arith) in
    omega (arith, below_no v x xs first, none_below v xs (λ k h. all (suc k) (omega arith)))

below_place : (xs : List ℤ) (i : ℕ) → IsRising xs → i < length xs → count_below (get_or xs i (pos 0)) xs ≤ i
below_place [] i rising h = absurd (omega arith)
below_place (x ∷ xs) zero rising h = omega (arith, none_below x (x ∷ xs) (λ k g. rising 0 k (omega arith) g))
below_place (x ∷ xs) (suc i) rising h =
    let v = get_or xs i (pos 0) in
    omega (arith, (below_more v x xs).1, below_place xs i (rising_rest x xs rising) (omega arith))

above_place : (xs : List ℤ) (i : ℕ) → IsRising xs → i < length xs → count_above (get_or xs i (pos 0)) xs + i < length xs
above_place [] i rising h = absurd (omega arith)
above_place (x ∷ xs) zero rising h =
    let same : x ≤ℤ x = omega (arith, ints) in
    omega (arith, above_no x x xs same, above_few x xs)
above_place (x ∷ xs) (suc i) rising h =
    let v = get_or xs i (pos 0) in
    let first : x ≤ℤ v = rising 0 (suc i) (omega arith) h in
    omega (arith, above_no v x xs first, above_place xs i (rising_rest x xs rising) (omega arith))

not_less : (a b : ℤ) → is_lt (int_cmp b a) ≡ false → a ≤ℤ b
not_less a b h = by_lt_z b a (λ less. grind (arith, ints)) (λ more. more)

rising_sorted : (xs : List ℤ) → IsSorted int_cmp xs → IsRising xs
rising_sorted xs sorted i j h k =
    not_less (get_or xs i (pos 0)) (get_or xs j (pos 0)) (sorted_far (λ x y. is_lt (int_cmp x y)) (ranks_by int_cmp_total (λ x. x)) xs sorted i j (pos 0) h k)

ranked_sorted : (xs ys : List ℤ) (i : ℕ) → IsPermutation xs ys → IsSorted int_cmp ys → i < length xs → IsOfRank xs i (get_or ys i (pos 0))
ranked_sorted xs ys i same sorted h =
    let long = length_permutation xs ys same in
    let v = get_or ys i (pos 0) in
    record {
      element = Contains-permutation ys xs v (IsPermutation-sym xs ys same) (Contains-get_or ys i (pos 0) (omega (arith, long)));
      below = omega (arith, below-permutation v xs ys same, below_place ys i (rising_sorted ys sorted) (omega (arith, long)));
      above = omega (arith, above-permutation v xs ys same, long, above_place ys i (rising_sorted ys sorted) (omega (arith, long)));
    }

-- the element in the middle of the list in order
pub middle_is_median : (xs ys : List ℤ) (i : ℕ) (v : ℤ) → IsOdd xs → IsPermutation xs ys → IsSorted int_cmp ys → i ≡ length xs / 2 → v ≡ get_or ys i v → IsMedian xs v
middle_is_median xs ys i v odd same sorted middle read =
    let long = length_permutation xs ys same in
    let within : i < length xs = omega (arith, middle, odd) in
    let is : get_or ys i (pos 0) ≡ v = get_or_default ys i (pos 0) v (omega (arith, long)) ∙ sym read in
    let P : ℤ → Type 0 = λ m. IsOfRank xs i m in
    let R : ℕ → Type 0 = λ rank. IsOfRank xs rank v in
    median_of_rank xs v odd (subst R middle (subst P is (ranked_sorted xs ys i same sorted within)))
