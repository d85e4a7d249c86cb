-- To be believed: the median of a list of whole numbers.
use Rattle.std.specs.Prelude.{◌≡◌, ℕ, ◌/◌, ◌%◌, ◌≤◌, ℤ, int_lt, List, length, count_by, Contains}

-- there is an odd number of elements
abbrev pub IsOdd : List ℤ → Type 0
IsOdd xs = length xs % 2 ≡ 1

-- how many elements are below a number, and how many are above it
abbrev pub count_below : ℤ → List ℤ → ℕ
count_below v xs = count_by (λ x. int_lt x v) xs

abbrev pub count_above : ℤ → List ℤ → ℕ
count_above v xs = count_by (λ x. int_lt v x) xs

-- an element with at most half of the elements below it, and at most half above it, rounded down
pub record IsMedian (xs : List ℤ) (median : ℤ) : Type 0 where
  pub element : Contains xs median
  pub below : count_below median xs ≤ length xs / 2
  pub above : count_above median xs ≤ length xs / 2
