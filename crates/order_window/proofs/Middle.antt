-- The median of the candidates, from two orders in which they rise.
use Rattle.std.proofs.Common.{◌≡◌, ℕ, zero, suc, ◌+◌, ◌-◌, ◌<◌, ◌≤◌, Bool, true, false, cond, ◌⊎◌, inl, inr, ℤ, ◌≤ℤ◌, List, [], ◌∷◌, length, get_or, sym, ap, ◌∙◌, subst, arith}
use Rattle.std.specs.Prelude.{int_lt, count_by, Contains}
use Rattle.std.specs.Int.{int_max, int_min}
use Rattle.std.specs.List.{AllZip}
use Rattle.std.proofs.lemmas.Bool.{cases_lt}
use Rattle.std.proofs.lemmas.Int.{ints, clamps, by_lt_z}
use Rattle.std.proofs.lemmas.List.Elements.{Contains-get_or}
use Rattle.std.proofs.lemmas.List.Sums.{count_by-le-length}
use Rattle.words.proofs.Lists.{contains_first, contains_later}
use Rattle.fix_point.specs.RateLimits.{RateLimits}
use Rattle.window_median.specs.LocalCost.{candidates, starts}
use Rattle.window_median.specs.Median.{IsMedian}
use Rattle.window_median.proofs.Costs.{half_of_candidates}
use Rattle.window_median.proofs.Counts.{less, less_no, less_small, below-cons, above-cons}
use Rattle.order_window.specs.declared.key.Key.{Key}
use Rattle.order_window.specs.Lines.{HaveSameKeys, IsBefore, IsOrdered, line_of}
use Rattle.order_window.specs.Orders.{AreSorted}
use Rattle.order_window.specs.Selection.{IsSplit, IsSplitBetween, IsLowerEnd, IsUpperEnd}
use Rattle.order_window.specs.Window.{IsMedianOf, IsSuccessor, Window}
use Rattle.order_window.proofs.Candidates.{all_successors, above-starts, below-starts, ceil_rises, floor_rises, length-near_all, max_is_start, min_is_start, near_all, of_max, of_min}
use Rattle.order_window.proofs.Counts.{contained_back, count-cons, one_if, same_length}
use Rattle.order_window.proofs.Places.{pairs_at}

-- ---- two rising sequences

-- no number is less than one before it
abbrev pub Rises : (ℕ → ℤ) → ℕ → Type 0
Rises x n = (i j : ℕ) → i ≤ j → j < n → x i ≤ℤ x j

ordered_as : (low high p q : ℤ) → low ≡ p → high ≡ q → p ≤ℤ q → low ≤ℤ high
ordered_as low high p q e f h = omega (arith, ints, e, f, h)

ends_by : (x y : ℕ → ℤ) (n s : ℕ) (low high : ℤ) → Rises x n → Rises y n → IsSplit x y n s
    → ((0 < s) × (low ≡ x (s - 1))) ⊎ ((s < n) × (low ≡ y ((n - 1) - s)))
    → ((s < n) × (high ≡ x s)) ⊎ ((0 < s) × (high ≡ y (n - s)))
    → low ≤ℤ high
ends_by x y n s low high rx ry split (inl a) (inl b) = ordered_as low high (x (s - 1)) (x s) a.1 b.1 (rx (s - 1) s (omega arith) b.0)
ends_by x y n s low high rx ry split (inl a) (inr b) = ordered_as low high (x (s - 1)) (y (n - s)) a.1 b.1 (split.low_first a.0)
ends_by x y n s low high rx ry split (inr a) (inl b) = ordered_as low high (y ((n - 1) - s)) (x s) a.1 b.1 (split.low_second a.0)
ends_by x y n s low high rx ry split (inr a) (inr b) = ordered_as low high (y ((n - 1) - s)) (y (n - s)) a.1 b.1 (ry ((n - 1) - s) (n - s) (omega arith) (omega (arith, a.0, b.0)))

ends_ordered : (x y : ℕ → ℤ) (n s : ℕ) (low high : ℤ) → Rises x n → Rises y n → IsSplit x y n s → IsLowerEnd x y n s low → IsUpperEnd x y n s high → low ≤ℤ high
ends_ordered x y n s low high rx ry split lower upper = ends_by x y n s low high rx ry split lower.one upper.one

-- the number is between the lower and the upper half
record IsBetween (x y : ℕ → ℤ) (n s : ℕ) (v : ℤ) : Type 0 where
  upper_x : (j : ℕ) → s ≤ j → j < n → v ≤ℤ x j
  upper_y : (j : ℕ) → n - s ≤ j → j < n → v ≤ℤ y j
  lower_x : (j : ℕ) → j < s → x j ≤ℤ v
  lower_y : (j : ℕ) → j < n - s → y j ≤ℤ v

chain_up : (v end p q : ℤ) → v ≤ℤ end → end ≤ℤ p → p ≤ℤ q → v ≤ℤ q
chain_up v end p q f g h = omega (arith, ints, f, g, h)

between : (x y : ℕ → ℤ) (n s : ℕ) (low high v : ℤ) → Rises x n → Rises y n → s ≤ n → IsLowerEnd x y n s low → IsUpperEnd x y n s high → low ≤ℤ v → v ≤ℤ high → IsBetween x y n s v
between x y n s low high v rx ry within lower upper g h = record {
  upper_x = λ j from inside. chain_up v high (x s) (x j) h (upper.below_first (omega (arith, from, inside))) (rx s j from inside);
  upper_y = λ j from inside. chain_up v high (y (n - s)) (y j) h (upper.below_second (omega (arith, from, inside))) (ry (n - s) j from inside);
  lower_x = λ j before. chain_up (x j) (x (s - 1)) low v (rx j (s - 1) (omega (arith, before)) (omega (arith, before, within))) (lower.above_first (omega (arith, before))) g;
  lower_y = λ j before. chain_up (y j) (y ((n - 1) - s)) low v (ry j ((n - 1) - s) (omega (arith, before)) (omega (arith, before))) (lower.above_second (omega (arith, before))) g;
}

-- ---- how many keys pass a test that only those of a part pass

at_most_one : (passes : Bool) → cond passes 1 0 ≤ 1
at_most_one true = omega arith
at_most_one false = omega arith

count_front : (test : Key → Bool) (keys : List Key) (own : Key) (i : ℕ) → ((j : ℕ) → i ≤ j → j < length keys → test (get_or keys j own) ≡ false) → count_by test keys ≤ i
count_front test [] own i none = omega arith
count_front test (key ∷ keys) own zero none =
    let here : test key ≡ false = none 0 (omega arith) (omega arith) in
    let not_counted : one_if (test key) ≡ 0 = ap one_if here in
    omega (arith, count-cons test key keys, not_counted, count_front test keys own zero (λ j g h. none (suc j) (omega arith) (omega (arith, h))))
count_front test (key ∷ keys) own (suc i) none =
    omega (arith, count-cons test key keys, at_most_one (test key), count_front test keys own i (λ j g h. none (suc j) (omega (arith, g)) (omega (arith, h))))

count_back : (test : Key → Bool) (keys : List Key) (own : Key) (i : ℕ) → i ≤ length keys → ((j : ℕ) → j < i → test (get_or keys j own) ≡ false) → count_by test keys + i ≤ length keys
count_back test keys own zero within none = omega (arith, count_by-le-length test keys)
count_back test [] own (suc i) within none = absurd (omega (arith, within))
count_back test (key ∷ keys) own (suc i) within none =
    let here : test key ≡ false = none 0 (omega arith) in
    let not_counted : one_if (test key) ≡ 0 = ap one_if here in
    omega (arith, count-cons test key keys, not_counted, count_back test keys own i (omega (arith, within)) (λ j h. none (suc j) (omega (arith, h))))

not_lt : (a b : ℤ) → b ≤ℤ a → int_lt a b ≡ false
not_lt a b h = grind (arith, ints)

-- ---- the counts of the candidates below and above a number

record Halves (first second : List Key) (a b : Key → ℤ) (n s : ℕ) (v : ℤ) : Type 0 where
  below_first : count_by (λ key. int_lt (a key) v) first ≤ s
  below_second : count_by (λ key. int_lt (b key) v) second ≤ n - s
  above_first : count_by (λ key. int_lt v (a key)) first + s ≤ n
  above_second : count_by (λ key. int_lt v (b key)) second + (n - s) ≤ n

halves : (first second : List Key) (a b : Key → ℤ) (own : Key) (n s : ℕ) (v : ℤ) → length first ≡ n → length second ≡ n → s ≤ n
    → IsBetween (λ j. a (get_or first j own)) (λ j. b (get_or second j own)) n s v → Halves first second a b n s v
halves first second a b own n s v e f within is = record {
  below_first = count_front (λ key. int_lt (a key) v) first own s (λ j g h. not_lt (a (get_or first j own)) v (is.upper_x j g (omega (arith, e, h))));
  below_second = count_front (λ key. int_lt (b key) v) second own (n - s) (λ j g h. not_lt (b (get_or second j own)) v (is.upper_y j g (omega (arith, f, h))));
  above_first = omega (arith, e, count_back (λ key. int_lt v (a key)) first own s (omega (arith, e, within)) (λ j g. not_lt v (a (get_or first j own)) (is.lower_x j g)));
  above_second = omega (arith, f, count_back (λ key. int_lt v (b key)) second own (n - s) (omega (arith, f)) (λ j g. not_lt v (b (get_or second j own)) (is.lower_y j g)));
}

-- at most half of the candidates are below, and at most half are above
record IsMiddle (first second : List Key) (a b : Key → ℤ) (o v : ℤ) (n : ℕ) : Type 0 where
  below : less o v + (count_by (λ key. int_lt (a key) v) first + count_by (λ key. int_lt (b key) v) second) ≤ n
  above : less v o + (count_by (λ key. int_lt v (a key)) first + count_by (λ key. int_lt v (b key)) second) ≤ n

-- a number that is in the lower half itself has fewer of it below
same_at : (x : ℕ → ℤ) (v : ℤ) (i j : ℕ) → v ≡ x i → i ≡ j → v ≤ℤ x j
same_at x v i j e f =
    let P : ℕ → Type 0 = λ k. v ≤ℤ x k in
    let here : v ≤ℤ x i = omega (arith, ints, e) in
    subst P f here

same_at_back : (x : ℕ → ℤ) (v : ℤ) (i j : ℕ) → v ≡ x i → i ≡ j → x j ≤ℤ v
same_at_back x v i j e f =
    let P : ℕ → Type 0 = λ k. x k ≤ℤ v in
    let here : x i ≤ℤ v = omega (arith, ints, e) in
    subst P f here

upper_from : (x : ℕ → ℤ) (v : ℤ) (n s j : ℕ) → ((i : ℕ) → s ≤ i → i < n → v ≤ℤ x i) → 0 < s → v ≡ x (s - 1) → s - 1 ≤ j → j < n → (j < s) ⊎ (s ≤ j) → v ≤ℤ x j
upper_from x v n s j upper some e from inside (inl before) = same_at x v (s - 1) j e (omega (arith, from, before))
upper_from x v n s j upper some e from inside (inr behind) = upper j behind inside

lower_to : (x : ℕ → ℤ) (v : ℤ) (s j : ℕ) → ((i : ℕ) → i < s → x i ≤ℤ v) → v ≡ x s → j < suc s → (j < s) ⊎ (s ≤ j) → x j ≤ℤ v
lower_to x v s j lower e inside (inl before) = lower j before
lower_to x v s j lower e inside (inr behind) = same_at_back x v s j e (omega (arith, inside, behind))

fewer_below : (keys : List Key) (a : Key → ℤ) (own : Key) (n s : ℕ) (v : ℤ) → length keys ≡ n → ((i : ℕ) → s ≤ i → i < n → v ≤ℤ a (get_or keys i own)) → 0 < s → v ≡ a (get_or keys (s - 1) own)
    → count_by (λ key. int_lt (a key) v) keys ≤ s - 1
fewer_below keys a own n s v long upper some e =
    count_front (λ key. int_lt (a key) v) keys own (s - 1)
    (λ j g h. not_lt (a (get_or keys j own)) v (upper_from (λ i. a (get_or keys i own)) v n s j upper some e g (omega (arith, long, h)) (cases_lt j s)))

fewer_above : (keys : List Key) (a : Key → ℤ) (own : Key) (n s : ℕ) (v : ℤ) → length keys ≡ n → ((i : ℕ) → i < s → a (get_or keys i own) ≤ℤ v) → s < n → v ≡ a (get_or keys s own)
    → count_by (λ key. int_lt v (a key)) keys + suc s ≤ n
fewer_above keys a own n s v long lower some e =
    omega (
      arith,
      long,
      count_back (λ key. int_lt v (a key)) keys own (suc s) (omega (arith, long, some))
          (λ j g. not_lt v (a (get_or keys j own)) (lower_to (λ i. a (get_or keys i own)) v s j lower e g (cases_lt j s))),
    )

at_lower_by : (first second : List Key) (a b : Key → ℤ) (own : Key) (n s : ℕ) (o v : ℤ) → length first ≡ n → length second ≡ n → s ≤ n
    → IsBetween (λ j. a (get_or first j own)) (λ j. b (get_or second j own)) n s v → o ≤ℤ v
    → ((0 < s) × (v ≡ a (get_or first (s - 1) own))) ⊎ ((s < n) × (v ≡ b (get_or second ((n - 1) - s) own)))
    → IsMiddle first second a b o v n
at_lower_by first second a b own n s o v e f within is h (inl one) =
    let counts = halves first second a b own n s v e f within is in
    let fewer = fewer_below first a own n s v e is.upper_x one.0 one.1 in
    record {
      below = omega (arith, less_small o v, fewer, counts.below_second, one.0, within);
      above = omega (arith, less_no v o h, counts.above_first, counts.above_second, within);
    }
at_lower_by first second a b own n s o v e f within is h (inr one) =
    let counts = halves first second a b own n s v e f within is in
    let last : ((n - 1) - s) ≡ ((n - s) - 1) = omega arith in
    let value : v ≡ b (get_or second ((n - s) - 1) own) = one.1 ∙ ap (λ i. b (get_or second i own)) last in
    let fewer = fewer_below second b own n (n - s) v f is.upper_y (omega (arith, one.0)) value in
    record {
      below = omega (arith, less_small o v, fewer, counts.below_first, one.0, within);
      above = omega (arith, less_no v o h, counts.above_first, counts.above_second, within);
    }

at_upper_by : (first second : List Key) (a b : Key → ℤ) (own : Key) (n s : ℕ) (o v : ℤ) → length first ≡ n → length second ≡ n → s ≤ n
    → IsBetween (λ j. a (get_or first j own)) (λ j. b (get_or second j own)) n s v → v ≤ℤ o
    → ((s < n) × (v ≡ a (get_or first s own))) ⊎ ((0 < s) × (v ≡ b (get_or second (n - s) own)))
    → IsMiddle first second a b o v n
at_upper_by first second a b own n s o v e f within is h (inl one) =
    let counts = halves first second a b own n s v e f within is in
    let fewer = fewer_above first a own n s v e is.lower_x one.0 one.1 in
    record {
      below = omega (arith, less_no o v h, counts.below_first, counts.below_second, within);
      above = omega (arith, less_small v o, fewer, counts.above_second, one.0, within);
    }
at_upper_by first second a b own n s o v e f within is h (inr one) =
    let counts = halves first second a b own n s v e f within is in
    let fewer = fewer_above second b own n (n - s) v f is.lower_y (omega (arith, one.0, within)) one.1 in
    record {
      below = omega (arith, less_no o v h, counts.below_first, counts.below_second, within);
      above = omega (arith, less_small v o, fewer, counts.above_first, one.0, within);
    }

at_own : (first second : List Key) (a b : Key → ℤ) (own : Key) (n s : ℕ) (o v : ℤ) → length first ≡ n → length second ≡ n → s ≤ n
    → IsBetween (λ j. a (get_or first j own)) (λ j. b (get_or second j own)) n s v → o ≤ℤ v → v ≤ℤ o → IsMiddle first second a b o v n
at_own first second a b own n s o v e f within is g h =
    let counts = halves first second a b own n s v e f within is in
    record {
      below = omega (arith, less_no o v h, counts.below_first, counts.below_second, within);
      above = omega (arith, less_no v o g, counts.above_first, counts.above_second, within);
    }

-- ---- the number that the code gives

-- it is one of the three
data Chosen (o low high v : ℤ) : Type 0 where
  own_value : v ≡ o → Chosen o low high v
  lower_end : v ≡ low → o ≤ℤ v → Chosen o low high v
  upper_end : v ≡ high → v ≤ℤ o → Chosen o low high v

record IsChosen (o low high v : ℤ) : Type 0 where
  from : low ≤ℤ v
  to : v ≤ℤ high
  one : Chosen o low high v

chosen : (o low high v : ℤ) → low ≤ℤ high → v ≡ int_min (int_max o low) high → IsChosen o low high v
chosen o low high v order e = record {
  from = omega (arith, ints, clamps, order, e);
  to = omega (arith, ints, clamps, order, e);
  one = by_lt_z o low
      (λ less. lower_end (omega (arith, ints, clamps, order, e)) (omega (arith, ints, clamps, order, e)))
      (λ more. by_lt_z high o
      (λ beyond. upper_end (omega (arith, ints, clamps, order, e)) (omega (arith, ints, clamps, order, e)))
      (λ inside. own_value (omega (arith, ints, clamps, order, e))));
}

-- what a search and the ends have found of two orders
pub record AreEnds (first second : List Key) (a b : Key → ℤ) (own : Key) (n s : ℕ) (low high : ℤ) : Type 0 where
  pub first_long : length first ≡ n
  pub second_long : length second ≡ n
  pub first_rises : Rises (λ j. a (get_or first j own)) n
  pub second_rises : Rises (λ j. b (get_or second j own)) n
  pub split : IsSplit (λ j. a (get_or first j own)) (λ j. b (get_or second j own)) n s
  pub lower : IsLowerEnd (λ j. a (get_or first j own)) (λ j. b (get_or second j own)) n s low
  pub upper : IsUpperEnd (λ j. a (get_or first j own)) (λ j. b (get_or second j own)) n s high

lower_one : (x y : ℕ → ℤ) (n s : ℕ) (low v : ℤ) → v ≡ low → ((0 < s) × (low ≡ x (s - 1))) ⊎ ((s < n) × (low ≡ y ((n - 1) - s))) → ((0 < s) × (v ≡ x (s - 1))) ⊎ ((s < n) × (v ≡ y ((n - 1) - s)))
lower_one x y n s low v e (inl one) = inl (one.0, e ∙ one.1)
lower_one x y n s low v e (inr one) = inr (one.0, e ∙ one.1)

upper_one : (x y : ℕ → ℤ) (n s : ℕ) (high v : ℤ) → v ≡ high → ((s < n) × (high ≡ x s)) ⊎ ((0 < s) × (high ≡ y (n - s))) → ((s < n) × (v ≡ x s)) ⊎ ((0 < s) × (v ≡ y (n - s)))
upper_one x y n s high v e (inl one) = inl (one.0, e ∙ one.1)
upper_one x y n s high v e (inr one) = inr (one.0, e ∙ one.1)

middle_by : (first second : List Key) (a b : Key → ℤ) (own : Key) (n s : ℕ) (low high o v : ℤ) → AreEnds first second a b own n s low high → low ≤ℤ v → v ≤ℤ high → Chosen o low high v → IsMiddle first second a b o v n
middle_by first second a b own n s low high o v ends from to (own_value e) =
    let is = between (λ j. a (get_or first j own)) (λ j. b (get_or second j own)) n s low high v ends.first_rises ends.second_rises ends.split.within ends.lower ends.upper from to in
    at_own first second a b own n s o v ends.first_long ends.second_long ends.split.within is (omega (arith, ints, e)) (omega (arith, ints, e))
middle_by first second a b own n s low high o v ends from to (lower_end e h) =
    let is = between (λ j. a (get_or first j own)) (λ j. b (get_or second j own)) n s low high v ends.first_rises ends.second_rises ends.split.within ends.lower ends.upper from to in
    at_lower_by first second a b own n s o v ends.first_long ends.second_long ends.split.within is h (lower_one (λ j. a (get_or first j own)) (λ j. b (get_or second j own)) n s low v e ends.lower.one)
middle_by first second a b own n s low high o v ends from to (upper_end e h) =
    let is = between (λ j. a (get_or first j own)) (λ j. b (get_or second j own)) n s low high v ends.first_rises ends.second_rises ends.split.within ends.lower ends.upper from to in
    at_upper_by first second a b own n s o v ends.first_long ends.second_long ends.split.within is h (upper_one (λ j. a (get_or first j own)) (λ j. b (get_or second j own)) n s high v e ends.upper.one)

-- ---- it is a candidate

among : (keys order : List Key) (own : Key) (i : ℕ) → HaveSameKeys keys order → i < length order → Contains keys (get_or order i own)
among keys order own i same h = contained_back keys order same (get_or order i own) (Contains-get_or order i own h)

max_among : (rates : RateLimits) (own : Key) (keys order : List Key) (i : ℕ) (v : ℤ) → HaveSameKeys keys order → i < length order → v ≡ of_max rates own (get_or order i own) → Contains (starts (near_all rates own keys)) v
max_among rates own keys order i v same h e =
    let P : ℤ → Type 0 = λ z. Contains (starts (near_all rates own keys)) z in
    subst P (sym e) (max_is_start rates own (get_or order i own) keys (among keys order own i same h))

min_among : (rates : RateLimits) (own : Key) (keys order : List Key) (i : ℕ) (v : ℤ) → HaveSameKeys keys order → i < length order → v ≡ of_min rates own (get_or order i own) → Contains (starts (near_all rates own keys)) v
min_among rates own keys order i v same h e =
    let P : ℤ → Type 0 = λ z. Contains (starts (near_all rates own keys)) z in
    subst P (sym e) (min_is_start rates own (get_or order i own) keys (among keys order own i same h))

lower_among : (rates : RateLimits) (own : Key) (keys first second : List Key) (n s : ℕ) (v : ℤ) → HaveSameKeys keys first → HaveSameKeys keys second → length first ≡ n → length second ≡ n → s ≤ n
    → ((0 < s) × (v ≡ of_max rates own (get_or first (s - 1) own))) ⊎ ((s < n) × (v ≡ of_min rates own (get_or second ((n - 1) - s) own)))
    → Contains (starts (near_all rates own keys)) v
lower_among rates own keys first second n s v f g e h within (inl one) = max_among rates own keys first (s - 1) v f (omega (arith, e, within, one.0)) one.1
lower_among rates own keys first second n s v f g e h within (inr one) = min_among rates own keys second ((n - 1) - s) v g (omega (arith, h, one.0)) one.1

upper_among : (rates : RateLimits) (own : Key) (keys first second : List Key) (n s : ℕ) (v : ℤ) → HaveSameKeys keys first → HaveSameKeys keys second → length first ≡ n → length second ≡ n → s ≤ n
    → ((s < n) × (v ≡ of_max rates own (get_or first s own))) ⊎ ((0 < s) × (v ≡ of_min rates own (get_or second (n - s) own)))
    → Contains (starts (near_all rates own keys)) v
upper_among rates own keys first second n s v f g e h within (inl one) = max_among rates own keys first s v f (omega (arith, e, one.0)) one.1
upper_among rates own keys first second n s v f g e h within (inr one) = min_among rates own keys second (n - s) v g (omega (arith, h, within, one.0)) one.1

candidate_by : (rates : RateLimits) (own : Key) (keys first second : List Key) (n s : ℕ) (low high v : ℤ) → HaveSameKeys keys first → HaveSameKeys keys second
    → AreEnds first second (of_max rates own) (of_min rates own) own n s low high → Chosen own.value low high v → Contains (candidates own.value (near_all rates own keys)) v
candidate_by rates own keys first second n s low high v f g ends (own_value e) =
    let P : ℤ → Type 0 = λ z. Contains (candidates own.value (near_all rates own keys)) z in
    subst P (sym e) (contains_first own.value (starts (near_all rates own keys)))
candidate_by rates own keys first second n s low high v f g ends (lower_end e h) =
    contains_later own.value (starts (near_all rates own keys)) v
    (lower_among rates own keys first second n s v f g ends.first_long ends.second_long ends.split.within
    (lower_one (λ j. of_max rates own (get_or first j own)) (λ j. of_min rates own (get_or second j own)) n s low v e ends.lower.one))
candidate_by rates own keys first second n s low high v f g ends (upper_end e h) =
    contains_later own.value (starts (near_all rates own keys)) v
    (upper_among rates own keys first second n s v f g ends.first_long ends.second_long ends.split.within
    (upper_one (λ j. of_max rates own (get_or first j own)) (λ j. of_min rates own (get_or second j own)) n s high v e ends.upper.one))

-- ---- the orders of a window

equal_low : (a : Key → ℤ) (keys : List Key) (own : Key) (i j : ℕ) → i ≡ j → a (get_or keys i own) ≤ℤ a (get_or keys j own)
equal_low a keys own i j e =
    let P : ℕ → Type 0 = λ k. a (get_or keys i own) ≤ℤ a (get_or keys k own) in
    let same : a (get_or keys i own) ≤ℤ a (get_or keys i own) = omega (arith, ints) in
    subst P e same

max_rises_by : (rates : RateLimits) (own : Key) (order : List Key) → 1 ≤ rates.max.per → IsOrdered (line_of rates.max rates.decimals) order → (i j : ℕ) → i ≤ j → j < length order → (i < j) ⊎ (j ≤ i) → of_max rates own (get_or order i own) ≤ℤ of_max rates own (get_or order j own)
max_rises_by rates own order some ordered i j g h (inl less) =
    floor_rises rates.max rates.decimals own (get_or order i own) (get_or order j own) some (pairs_at (IsBefore (line_of rates.max rates.decimals)) order ordered i j own less h).low
max_rises_by rates own order some ordered i j g h (inr more) = equal_low (of_max rates own) order own i j (omega (arith, g, more))

min_rises_by : (rates : RateLimits) (own : Key) (order : List Key) → 1 ≤ rates.min.per → IsOrdered (line_of rates.min rates.decimals) order → (i j : ℕ) → i ≤ j → j < length order → (i < j) ⊎ (j ≤ i) → of_min rates own (get_or order i own) ≤ℤ of_min rates own (get_or order j own)
min_rises_by rates own order some ordered i j g h (inl less) =
    ceil_rises rates.min rates.decimals own (get_or order i own) (get_or order j own) some (pairs_at (IsBefore (line_of rates.min rates.decimals)) order ordered i j own less h).low
min_rises_by rates own order some ordered i j g h (inr more) = equal_low (of_min rates own) order own i j (omega (arith, g, more))

pub max_rises : (by_time by_max by_min : List Key) (rates : RateLimits) (span : ℤ) (own : Key) → AreSorted by_time by_max by_min rates span → Rises (λ j. of_max rates own (get_or by_max j own)) (length by_time)
max_rises by_time by_max by_min rates span own sorted i j g h =
    max_rises_by rates own by_max sorted.reach.max.limited.per_least sorted.max.ordered i j g (omega (arith, h, same_length by_time by_max sorted.max.same)) (cases_lt i j)

pub min_rises : (by_time by_max by_min : List Key) (rates : RateLimits) (span : ℤ) (own : Key) → AreSorted by_time by_max by_min rates span → Rises (λ j. of_min rates own (get_or by_min j own)) (length by_time)
min_rises by_time by_max by_min rates span own sorted i j g h =
    min_rises_by rates own by_min sorted.reach.min.limited.per_least sorted.min.ordered i j g (omega (arith, h, same_length by_time by_min sorted.min.same)) (cases_lt i j)

pub ends_of : (by_time by_max by_min : List Key) (rates : RateLimits) (span : ℤ) (own : Key) (s : ℕ) (low high : ℤ) → AreSorted by_time by_max by_min rates span
    → IsSplit (λ j. of_max rates own (get_or by_max j own)) (λ j. of_min rates own (get_or by_min j own)) (length by_time) s
    → IsLowerEnd (λ j. of_max rates own (get_or by_max j own)) (λ j. of_min rates own (get_or by_min j own)) (length by_time) s low
    → IsUpperEnd (λ j. of_max rates own (get_or by_max j own)) (λ j. of_min rates own (get_or by_min j own)) (length by_time) s high
    → AreEnds by_max by_min (of_max rates own) (of_min rates own) own (length by_time) s low high
ends_of by_time by_max by_min rates span own s low high sorted split lower upper = record {
  first_long = same_length by_time by_max sorted.max.same;
  second_long = same_length by_time by_min sorted.min.same;
  first_rises = max_rises by_time by_max by_min rates span own sorted;
  second_rises = min_rises by_time by_max by_min rates span own sorted;
  split = split;
  lower = lower;
  upper = upper;
}

-- ---- the median

counted : (o v : ℤ) (rates : RateLimits) (own : Key) (keys first second : List Key) → HaveSameKeys keys first → HaveSameKeys keys second → IsMiddle first second (of_max rates own) (of_min rates own) o v (length keys)
    → Contains (candidates o (near_all rates own keys)) v → IsMedian (candidates o (near_all rates own keys)) v
counted o v rates own keys first second f g middle there =
    let near = near_all rates own keys in
    let half = half_of_candidates o near in
    let long = length-near_all rates own keys in
    record {
      element = there;
      below = omega (
        arith,
        half,
        long,
        below-cons v o (starts near),
        below-starts rates own v keys,
        f.counts (λ key. int_lt (of_max rates own key) v),
        g.counts (λ key. int_lt (of_min rates own key) v),
        middle.below,
      );
      above = omega (
        arith,
        half,
        long,
        above-cons v o (starts near),
        above-starts rates own v keys,
        f.counts (λ key. int_lt v (of_max rates own key)),
        g.counts (λ key. int_lt v (of_min rates own key)),
        middle.above,
      );
    }

pub median_found : (by_time by_max by_min : List Key) (room : ℕ) (rates : RateLimits) (span : ℤ) (own : Key) (s : ℕ) (low high v : ℤ) → AreSorted by_time by_max by_min rates span
    → AreEnds by_max by_min (of_max rates own) (of_min rates own) own (length by_time) s low high → v ≡ int_min (int_max own.value low) high
    → IsMedianOf (record { keys = by_time; room = room; rates = rates; span = span }) own v
median_found by_time by_max by_min room rates span own s low high v sorted ends e =
    let order = ends_ordered (λ j. of_max rates own (get_or by_max j own)) (λ j. of_min rates own (get_or by_min j own)) (length by_time) s low high ends.first_rises ends.second_rises ends.split ends.lower ends.upper in
    let choice = chosen own.value low high v order e in
    let middle = middle_by by_max by_min (of_max rates own) (of_min rates own) own (length by_time) s low high own.value v ends choice.from choice.to choice.one in
    let there = candidate_by rates own by_time by_max by_min (length by_time) s low high v sorted.max.same sorted.min.same ends choice.one in
    record {
      near = near_all rates own by_time;
      successors = all_successors rates own by_time sorted.reach.min.limited.per_least sorted.reach.max.limited.per_least;
      middle = counted own.value v rates own by_time by_max by_min sorted.max.same sorted.min.same middle there;
    }

-- where there are no keys
pub median_alone : (window : Window) (own : Key) (v : ℤ) → window.keys ≡ [] → v ≡ own.value → IsMedianOf window own v
median_alone window own v none e =
    let same : own.value ≤ℤ own.value = omega (arith, ints) in
    let M : ℤ → Type 0 = λ z. IsMedian (candidates own.value []) z in
    let S : List Key → Type 0 = λ keys. AllZip (IsSuccessor window.rates own) keys [] in
    record {
      near = [];
      successors = subst S (sym none) tt;
      middle = subst M (sym e) (record {
        element = contains_first own.value [];
        below = omega (arith, below-cons own.value own.value [], less_no own.value own.value same);
        above = omega (arith, above-cons own.value own.value [], less_no own.value own.value same);
      });
    }

-- ---- the search for the split

pub split_begun : (x y : ℕ → ℤ) (n low high : ℕ) → low ≡ 0 → high ≡ n → IsSplitBetween x y n low high
split_begun x y n low high e f = record {
  order = omega (arith, e);
  within = omega (arith, f);
  low_first = λ h. absurd (omega (arith, e, h));
  low_second = λ h. absurd (omega (arith, f, h));
}

behind_first : (x y : ℕ → ℤ) (n middle : ℕ) (p q : ℤ) → middle < n → p ≡ x middle → q ≡ y ((n - 1) - middle) → p ≤ℤ q → x ((middle + 1) - 1) ≤ℤ y (n - (middle + 1))
behind_first x y n middle p q h e f less =
    let one : x ((middle + 1) - 1) ≡ p = ap x (omega arith) ∙ sym e in
    let two : y (n - (middle + 1)) ≡ q = ap y (omega (arith, h)) ∙ sym f in
    omega (arith, ints, one, two, less)

pub split_behind : (x y : ℕ → ℤ) (n low high middle : ℕ) (p q : ℤ) → IsSplitBetween x y n low high → middle < high → p ≡ x middle → q ≡ y ((n - 1) - middle) → p ≤ℤ q → IsSplitBetween x y n (middle + 1) high
split_behind x y n low high middle p q between h e f less = record {
  order = omega (arith, h);
  within = between.within;
  low_first = λ some. behind_first x y n middle p q (omega (arith, h, between.within)) e f less;
  low_second = between.low_second;
}

pub split_ahead : (x y : ℕ → ℤ) (n low high middle : ℕ) (p q : ℤ) → IsSplitBetween x y n low high → low ≤ middle → middle < high → p ≡ x middle → q ≡ y ((n - 1) - middle) → q ≤ℤ p → IsSplitBetween x y n low middle
split_ahead x y n low high middle p q between g h e f more = record {
  order = g;
  within = omega (arith, h, between.within);
  low_first = between.low_first;
  low_second = λ inside. omega (arith, ints, e, f, more);
}

pub split_found : (x y : ℕ → ℤ) (n low high : ℕ) → IsSplitBetween x y n low high → high ≤ low → IsSplit x y n low
split_found x y n low high between met =
    let same : high ≡ low = omega (arith, between.order, met) in
    let P : ℕ → Type 0 = λ k. k < n → y ((n - 1) - k) ≤ℤ x k in
    record {
      within = omega (arith, between.order, between.within);
      low_first = between.low_first;
      low_second = subst P same between.low_second;
    }
