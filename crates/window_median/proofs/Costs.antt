-- How the local cost changes from one value to the next.
use Rattle.std.proofs.Common.{◌≡◌, ℕ, suc, ◌+◌, ◌*◌, ◌/◌, ◌≤◌, ℤ, pos, ◌+ℤ◌, ◌-ℤ◌, ◌≤ℤ◌, ◌<ℤ◌, List, [], ◌∷◌, length, refl, ap, ◌∙◌, arith}
use Rattle.std.specs.Prelude.{All, sum_by, unsigned_abs}
use Rattle.std.specs.List.{AllByRecursion}
use Rattle.std.proofs.lemmas.Int.{ints, clamps, by_lt_z}
use Rattle.std.proofs.lemmas.List.Elements.{recursion_from_All}
use Rattle.std.proofs.lemmas.List.Sums.{sum_by-cons}
use Rattle.window_median.specs.declared.cost.Near.{Near}
use Rattle.window_median.specs.LocalCost.{HasSteps, IsConvex, IsLeastAt, candidates, clamped, cost_at, distance, excess, starts}
use Rattle.window_median.specs.Median.{IsMedian, count_above}
use Rattle.window_median.proofs.Counts.{less, less_yes, less_no, less_small, above-cons, above_falls, cover}
use Rattle.window_median.proofs.Least.{size_low, size_high, least_between}

-- ---- the distance from an interval

pub clamped_below : (least most x : ℤ) → least ≤ℤ most → x ≤ℤ least → clamped least most x ≡ least
clamped_below least most x order h = omega (arith, ints, clamps)

pub clamped_within : (least most x : ℤ) → least ≤ℤ x → x ≤ℤ most → clamped least most x ≡ x
clamped_within least most x low high = omega (arith, ints, clamps)

pub clamped_above : (least most x : ℤ) → least ≤ℤ most → most ≤ℤ x → clamped least most x ≡ most
clamped_above least most x order h = omega (arith, ints, clamps)

pub distance_below : (least most x : ℤ) → least ≤ℤ most → x ≤ℤ least → pos (distance least most x) ≡ least -ℤ x
distance_below least most x order h =
    let low : (x -ℤ least) ≤ℤ pos 0 = omega (arith, ints) in
    ap (λ m. pos (unsigned_abs (x -ℤ m))) (clamped_below least most x order h) ∙ omega (arith, ints, size_low (x -ℤ least) low)

pub distance_within : (least most x : ℤ) → least ≤ℤ x → x ≤ℤ most → pos (distance least most x) ≡ pos 0
distance_within least most x low high =
    let none : pos 0 ≤ℤ (x -ℤ x) = omega (arith, ints) in
    ap (λ m. pos (unsigned_abs (x -ℤ m))) (clamped_within least most x low high) ∙ omega (arith, ints, size_high (x -ℤ x) none)

pub distance_above : (least most x : ℤ) → least ≤ℤ most → most ≤ℤ x → pos (distance least most x) ≡ x -ℤ most
distance_above least most x order h =
    let high : pos 0 ≤ℤ (x -ℤ most) = omega (arith, ints) in
    ap (λ m. pos (unsigned_abs (x -ℤ m))) (clamped_above least most x order h) ∙ omega (arith, ints, size_high (x -ℤ most) high)

-- ---- one successor: a value from which the greatest step falls short of it, one from which its steps lead to it, and one
-- from which the least step leads beyond it

pub excess_short : (v : ℤ) (near : Near) → HasSteps near → v ≤ℤ (near.value -ℤ near.most) → pos (excess v near) ≡ (near.value -ℤ near.most) -ℤ v
excess_short v near steps h =
    let order : (v +ℤ near.least) ≤ℤ (v +ℤ near.most) = omega (arith, ints, steps) in
    let high : (v +ℤ near.most) ≤ℤ near.value = omega (arith, ints, h) in
    omega (arith, ints, distance_above (v +ℤ near.least) (v +ℤ near.most) near.value order high)

pub excess_none : (v : ℤ) (near : Near) → (near.value -ℤ near.most) ≤ℤ v → v ≤ℤ (near.value -ℤ near.least) → pos (excess v near) ≡ pos 0
excess_none v near g h =
    let low : (v +ℤ near.least) ≤ℤ near.value = omega (arith, ints, h) in
    let high : near.value ≤ℤ (v +ℤ near.most) = omega (arith, ints, g) in
    distance_within (v +ℤ near.least) (v +ℤ near.most) near.value low high

pub excess_beyond : (v : ℤ) (near : Near) → HasSteps near → (near.value -ℤ near.least) ≤ℤ v → pos (excess v near) ≡ v -ℤ (near.value -ℤ near.least)
excess_beyond v near steps h =
    let order : (v +ℤ near.least) ≤ℤ (v +ℤ near.most) = omega (arith, ints, steps) in
    let low : near.value ≤ℤ (v +ℤ near.least) = omega (arith, ints, h) in
    omega (arith, ints, distance_below (v +ℤ near.least) (v +ℤ near.most) near.value order low)

-- ---- from one value to the next

by_one : (p q m n : ℕ) (a v w : ℤ) → w ≡ v +ℤ pos 1 → pos p ≡ a -ℤ w → pos q ≡ a -ℤ v → m ≡ 1 → n ≡ 1 → p + (m + n) ≡ q + 1
by_one p q m n a v w next e f g h = omega (arith, ints, next, e, f, g, h)

by_none : (p q m n : ℕ) → pos p ≡ pos 0 → pos q ≡ pos 0 → m ≡ 0 → n ≡ 1 → p + (m + n) ≡ q + 1
by_none p q m n e f g h = omega (arith, ints, e, f, g, h)

by_one_more : (p q m n : ℕ) (b v w : ℤ) → w ≡ v +ℤ pos 1 → pos p ≡ w -ℤ b → pos q ≡ v -ℤ b → m ≡ 0 → n ≡ 0 → p + (m + n) ≡ q + 1
by_one_more p q m n b v w next e f g h = omega (arith, ints, next, e, f, g, h)

excess_next : (v w : ℤ) (near : Near) → HasSteps near → w ≡ v +ℤ pos 1
    → excess w near + (less v (near.value -ℤ near.most) + less v (near.value -ℤ near.least)) ≡ excess v near + 1
excess_next v w near steps next =
    let a = near.value -ℤ near.most in
    let b = near.value -ℤ near.least in
    let order : a ≤ℤ b = omega (arith, ints, steps) in
    by_lt_z v a
    (λ short. by_one (excess w near) (excess v near) (less v a) (less v b) a v w next
    (excess_short w near steps (omega (arith, ints)))
    (excess_short v near steps (omega (arith, ints)))
    (less_yes v a short)
    (less_yes v b (omega (arith, ints))))
    (λ far. by_lt_z v b
    (λ within. by_none (excess w near) (excess v near) (less v a) (less v b)
    (excess_none w near (omega (arith, ints)) (omega (arith, ints)))
    (excess_none v near far (omega (arith, ints)))
    (less_no v a far)
    (less_yes v b within))
    (λ beyond. by_one_more (excess w near) (excess v near) (less v a) (less v b) b v w next
    (excess_beyond w near steps (omega (arith, ints)))
    (excess_beyond v near steps beyond)
    (less_no v a far)
    (less_no v b beyond)))

own_next : (v w own : ℤ) → w ≡ v +ℤ pos 1 → unsigned_abs (w -ℤ own) + (less v own + less v own) ≡ unsigned_abs (v -ℤ own) + 1
own_next v w own next =
    by_lt_z v own
    (λ below. by_one (unsigned_abs (w -ℤ own)) (unsigned_abs (v -ℤ own)) (less v own) (less v own) own v w next
    (omega (arith, ints, size_low (w -ℤ own) (omega (arith, ints))))
    (omega (arith, ints, size_low (v -ℤ own) (omega (arith, ints))))
    (less_yes v own below)
    (less_yes v own below))
    (λ above. by_one_more (unsigned_abs (w -ℤ own)) (unsigned_abs (v -ℤ own)) (less v own) (less v own) own v w next
    (omega (arith, ints, size_high (w -ℤ own) (omega (arith, ints))))
    (omega (arith, ints, size_high (v -ℤ own) (omega (arith, ints))))
    (less_no v own above)
    (less_no v own above))

pub length-starts : (near : List Near) → length (starts near) ≡ 2 * length near
length-starts [] = refl
length-starts (first ∷ near) = omega (arith, length-starts near)

excesses_next : (v w : ℤ) (near : List Near) → AllByRecursion HasSteps near → w ≡ v +ℤ pos 1
    → sum_by (excess w) near + count_above v (starts near) ≡ sum_by (excess v) near + length near
excesses_next v w [] steps next = refl
excesses_next v w (first ∷ near) steps next =
    let a = first.value -ℤ first.most in
    let b = first.value -ℤ first.least in
    omega (
      arith,
      sum_by-cons (excess w) first near,
      sum_by-cons (excess v) first near,
      above-cons v a (b ∷ starts near),
      above-cons v b (starts near),
      excess_next v w first steps.0 next,
      excesses_next v w near steps.1 next,
    )

-- to the next value the cost rises by 1 and by 1 for each successor, less the candidates above, of which that of its own
-- counts twice
pub cost_next : (own : ℤ) (near : List Near) (v w : ℤ) → All HasSteps near → w ≡ v +ℤ pos 1
    → cost_at own near w + (less v own + count_above v (candidates own near)) ≡ cost_at own near v + (1 + length near)
cost_next own near v w steps next =
    omega (
      arith,
      above-cons v own (starts near),
      own_next v w own next,
      excesses_next v w near (recursion_from_All HasSteps near steps) next,
    )

-- ---- convex, and least at the median

less_falls : (a b x : ℤ) → a ≤ℤ b → less b x ≤ less a x
less_falls a b x h = by_lt_z b x (λ more. omega (arith, less_yes b x more, less_yes a x (omega (arith, ints)))) (λ less. omega (arith, less_no b x less))

pub cost_convex : (own : ℤ) (near : List Near) → All HasSteps near → IsConvex (cost_at own near)
cost_convex own near steps v =
    let before = v -ℤ pos 1 in
    let below : before ≤ℤ v = omega (arith, ints) in
    omega (
      arith,
      cost_next own near before v steps (omega (arith, ints)),
      cost_next own near v (v +ℤ pos 1) steps refl,
      less_falls before v own below,
      above_falls before v (candidates own near) below,
    )

-- half of the candidates, rounded down, is the number of successors
half : (n l h : ℕ) → l ≡ suc (2 * n) → h ≡ l / 2 → h ≡ n
half n l h e f = omega (arith, e, f)

pub half_of_candidates : (own : ℤ) (near : List Near) → length (candidates own near) / 2 ≡ length near
half_of_candidates own near = half (length near) (length (candidates own near)) (length (candidates own near) / 2) (omega (arith, length-starts near)) refl

cost_rises : (own : ℤ) (near : List Near) (median z : ℤ) → All HasSteps near → IsMedian (candidates own near) median → median ≤ℤ z → cost_at own near z ≤ cost_at own near (z +ℤ pos 1)
cost_rises own near median z steps middle h =
    omega (
      arith,
      cost_next own near z (z +ℤ pos 1) steps refl,
      above_falls median z (candidates own near) h,
      middle.above,
      half_of_candidates own near,
      less_small z own,
    )

cost_falls : (own : ℤ) (near : List Near) (median z : ℤ) → All HasSteps near → IsMedian (candidates own near) median → z <ℤ median → cost_at own near (z +ℤ pos 1) ≤ cost_at own near z
cost_falls own near median z steps middle h =
    omega (
      arith,
      cost_next own near z (z +ℤ pos 1) steps refl,
      cover z median (candidates own near) h,
      middle.below,
      half_of_candidates own near,
      length-starts near,
    )

pub median_least : (own : ℤ) (near : List Near) (median : ℤ) → All HasSteps near → IsMedian (candidates own near) median → IsLeastAt (cost_at own near) median
median_least own near median steps middle =
    least_between (cost_at own near) median
    (λ z h. cost_rises own near median z steps middle h)
    (λ z h. cost_falls own near median z steps middle h)
