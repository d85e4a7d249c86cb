-- To be believed: the local cost of a value, and what it means to be least and convex.
use Rattle.std.specs.Prelude.{ℕ, ◌+◌, ◌*◌, ◌≤◌, ℤ, pos, ◌+ℤ◌, ◌-ℤ◌, ◌≤ℤ◌, List, [], ◌∷◌, sum_by, unsigned_abs}
use Rattle.std.specs.Int.{int_max, int_min}
use Rattle.window_median.specs.declared.cost.Near.{Near}

-- of the numbers from least to most the one that is nearest to x
abbrev pub clamped : ℤ → ℤ → ℤ → ℤ
clamped least most x = int_max least (int_min x most)

-- how far x lies from the interval from least to most: 0 where it lies within
abbrev pub distance : ℤ → ℤ → ℤ → ℕ
distance least most x = unsigned_abs (x -ℤ clamped least most x)

-- the least step to a successor is at most the greatest
abbrev pub HasSteps : Near → Type 0
HasSteps near = near.least ≤ℤ near.most

-- how far the value of a successor lies from what the steps allow after the value v
abbrev pub excess : ℤ → Near → ℕ
excess v near = distance (v +ℤ near.least) (v +ℤ near.most) near.value

-- the local cost of a value v beside a reading of its own and the successors
abbrev pub cost_at : ℤ → List Near → ℤ → ℕ
cost_at own near v = unsigned_abs (v -ℤ own) + sum_by (excess v) near

-- the numbers from which the greatest step, or the least one, leads to the value of a successor
abbrev pub starts : List Near → List ℤ
starts [] = []
starts (first ∷ near) = (first.value -ℤ first.most) ∷ (first.value -ℤ first.least) ∷ starts near

-- the candidates: the reading of its own, and these
abbrev pub candidates : ℤ → List Near → List ℤ
candidates own near = own ∷ starts near

-- nowhere is the function less than at v
abbrev pub IsLeastAt : (ℤ → ℕ) → ℤ → Type 0
IsLeastAt f v = (other : ℤ) → f v ≤ f other

-- nowhere does the function lie above the middle of its values on both sides
abbrev pub IsConvex : (ℤ → ℕ) → Type 0
IsConvex f = (v : ℤ) → 2 * f v ≤ f (v -ℤ pos 1) + f (v +ℤ pos 1)
