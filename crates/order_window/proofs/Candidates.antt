-- The candidates of a reading: they rise with the heights of the keys, and those of all keys are counted in any order.
use Rattle.std.proofs.Common.{◌≡◌, ℕ, ◌+◌, ◌*◌, ◌^◌, ◌<◌, ◌≤◌, ℤ, pos, ◌+ℤ◌, ◌-ℤ◌, ◌*ℤ◌, ◌≤ℤ◌, ◌⊎◌, inl, inr, List, [], ◌∷◌, length, get_or, FitsSigned, to_z, of_z, refl, sym, ap, ◌∙◌, subst, arith}
use Rattle.std.specs.Prelude.{int_lt, count_by, Contains, unsigned_abs}
use Rattle.std.specs.Int.{w64}
use Rattle.std.specs.List.{AllByRecursion, AllZip}
use Rattle.std.proofs.Math.IntN.{*ℤ_comm}
use Rattle.std.proofs.lemmas.Int.{ints, to_z-of_z}
use Rattle.std.proofs.lemmas.List.Elements.{All-from_recursion}
use Rattle.words.proofs.Lists.{contains_first, contains_later, contains_cases, contains_none}
use Rattle.words.proofs.Products.{sum_mul, minus_mul, mul_minus, within_size}
use Rattle.fix_point.specs.declared.rate.Rate.{Rate}
use Rattle.fix_point.specs.Rates.{IsFloor, IsCeil, IsWithinReach, ceil_step, floor_step, opposite}
use Rattle.fix_point.specs.RateLimits.{RateLimits}
use Rattle.fix_point.proofs.Rates.{floor_of, ceil_of_floor, one_floor, one_ceil, reach_of_fewer, step_fits}
use Rattle.rule_file.specs.Limits.{IsUnits}
use Rattle.window_median.specs.declared.cost.Near.{Near}
use Rattle.window_median.specs.LocalCost.{starts}
use Rattle.window_median.specs.Median.{count_below, count_above}
use Rattle.window_median.proofs.Counts.{below-cons, above-cons}
use Rattle.order_window.specs.declared.key.Key.{Key}
use Rattle.order_window.specs.Lines.{HaveSameKeys, height, line_of}
use Rattle.order_window.specs.Orders.{AreSorted}
use Rattle.order_window.specs.Selection.{before_ceil, before_floor}
use Rattle.order_window.specs.Window.{IsAfter, IsSuccessor}
use Rattle.order_window.proofs.Counts.{all_same, count-cons, same_length}

-- ---- the steps

pub floor_step_is : (rate : Rate) (d : ℕ) (dt : ℤ) → 1 ≤ rate.per → IsFloor rate d dt (floor_step rate d dt)
floor_step_is rate d dt some = floor_of rate d dt ((rate.millionths *ℤ pos (10 ^ d)) *ℤ dt) (floor_step rate d dt) some refl refl

pub ceil_step_is : (rate : Rate) (d : ℕ) (dt : ℤ) → 1 ≤ rate.per → IsCeil rate d dt (ceil_step rate d dt)
ceil_step_is rate d dt some = ceil_of_floor rate d dt (floor_step (opposite rate) d dt) (floor_step_is (opposite rate) d dt some)

-- ---- a higher key has no lesser candidate

floor_at_most : (pv qv pt qt ot run rise step : ℤ) → (step *ℤ run) ≤ℤ (rise *ℤ (qt -ℤ ot)) → ((pv *ℤ run) -ℤ (pt *ℤ rise)) ≤ℤ ((qv *ℤ run) -ℤ (qt *ℤ rise)) → ((step +ℤ (pv -ℤ qv)) *ℤ run) ≤ℤ (rise *ℤ (pt -ℤ ot))
floor_at_most pv qv pt qt ot run rise step within low =
    omega (
      arith,
      ints,
      within,
      low,
      sum_mul step (pv -ℤ qv) run,
      minus_mul pv qv run,
      mul_minus rise qt ot,
      mul_minus rise pt ot,
      *ℤ_comm rise qt,
      *ℤ_comm rise pt,
    )

ceil_at_least : (pv qv pt qt ot run rise step : ℤ) → (rise *ℤ (pt -ℤ ot)) ≤ℤ (step *ℤ run) → ((pv *ℤ run) -ℤ (pt *ℤ rise)) ≤ℤ ((qv *ℤ run) -ℤ (qt *ℤ rise)) → (rise *ℤ (qt -ℤ ot)) ≤ℤ ((step +ℤ (qv -ℤ pv)) *ℤ run)
ceil_at_least pv qv pt qt ot run rise step within low =
    omega (
      arith,
      ints,
      within,
      low,
      sum_mul step (qv -ℤ pv) run,
      minus_mul qv pv run,
      mul_minus rise qt ot,
      mul_minus rise pt ot,
      *ℤ_comm rise qt,
      *ℤ_comm rise pt,
    )

less_from : (pv qv p q : ℤ) → (q +ℤ (pv -ℤ qv)) ≤ℤ p → (pv -ℤ p) ≤ℤ (qv -ℤ q)
less_from pv qv p q h = omega (arith, ints, h)

less_to : (pv qv p q : ℤ) → q ≤ℤ (p +ℤ (qv -ℤ pv)) → (pv -ℤ p) ≤ℤ (qv -ℤ q)
less_to pv qv p q h = omega (arith, ints, h)

pub floor_rises : (rate : Rate) (d : ℕ) (own p q : Key) → 1 ≤ rate.per → height (line_of rate d) p ≤ℤ height (line_of rate d) q → before_floor rate d own p ≤ℤ before_floor rate d own q
unfolding before_floor
floor_rises rate d own p q some low =
    let of_p = floor_step_is rate d (p.ticks -ℤ own.ticks) some in
    let of_q = floor_step_is rate d (q.ticks -ℤ own.ticks) some in
    let step = floor_step rate d (q.ticks -ℤ own.ticks) in
    less_from p.value q.value (floor_step rate d (p.ticks -ℤ own.ticks)) step
    (of_p.greatest (step +ℤ (p.value -ℤ q.value))
    (floor_at_most p.value q.value p.ticks q.ticks own.ticks (pos (rate.per * 10 ^ 15)) (rate.millionths *ℤ pos (10 ^ d)) step of_q.within low))

pub ceil_rises : (rate : Rate) (d : ℕ) (own p q : Key) → 1 ≤ rate.per → height (line_of rate d) p ≤ℤ height (line_of rate d) q → before_ceil rate d own p ≤ℤ before_ceil rate d own q
unfolding before_ceil
ceil_rises rate d own p q some low =
    let of_p = ceil_step_is rate d (p.ticks -ℤ own.ticks) some in
    let of_q = ceil_step_is rate d (q.ticks -ℤ own.ticks) some in
    let step = ceil_step rate d (p.ticks -ℤ own.ticks) in
    less_to p.value q.value step (ceil_step rate d (q.ticks -ℤ own.ticks))
    (of_q.least (step +ℤ (q.value -ℤ p.value))
    (ceil_at_least p.value q.value p.ticks q.ticks own.ticks (pos (rate.per * 10 ^ 15)) (rate.millionths *ℤ pos (10 ^ d)) step of_p.within low))

-- ---- the successors

abbrev pub near_of : RateLimits → Key → Key → Near
near_of rates own key = record {
  value = key.value;
  least = ceil_step rates.min rates.decimals (key.ticks -ℤ own.ticks);
  most = floor_step rates.max rates.decimals (key.ticks -ℤ own.ticks);
}

abbrev pub near_all : RateLimits → Key → List Key → List Near
near_all rates own [] = []
near_all rates own (key ∷ keys) = near_of rates own key ∷ near_all rates own keys

pub length-near_all : (rates : RateLimits) (own : Key) (keys : List Key) → length (near_all rates own keys) ≡ length keys
length-near_all rates own [] = refl
length-near_all rates own (key ∷ keys) = omega (arith, length-near_all rates own keys)

pub all_successors : (rates : RateLimits) (own : Key) (keys : List Key) → 1 ≤ rates.min.per → 1 ≤ rates.max.per → AllZip (IsSuccessor rates own) keys (near_all rates own keys)
all_successors rates own [] min max = tt
all_successors rates own (key ∷ keys) min max = (
  record {
    value = refl;
    steps = record {
      ceil = ceil_step_is rates.min rates.decimals (key.ticks -ℤ own.ticks) min;
      floor = floor_step_is rates.max rates.decimals (key.ticks -ℤ own.ticks) max;
    };
  },
  all_successors rates own keys min max,
)

-- the candidates of the greatest rate and those of the least one
abbrev pub of_max : RateLimits → Key → Key → ℤ
of_max rates own key = before_floor rates.max rates.decimals own key

abbrev pub of_min : RateLimits → Key → Key → ℤ
of_min rates own key = before_ceil rates.min rates.decimals own key

pub below-starts : (rates : RateLimits) (own : Key) (v : ℤ) (keys : List Key)
    → count_below v (starts (near_all rates own keys)) ≡ count_by (λ key. int_lt (of_max rates own key) v) keys + count_by (λ key. int_lt (of_min rates own key) v) keys
unfolding before_floor before_ceil
below-starts rates own v [] = refl
below-starts rates own v (key ∷ keys) =
    let near = near_of rates own key in
    omega (
      arith,
      below-cons v (near.value -ℤ near.most) ((near.value -ℤ near.least) ∷ starts (near_all rates own keys)),
      below-cons v (near.value -ℤ near.least) (starts (near_all rates own keys)),
      count-cons (λ k. int_lt (of_max rates own k) v) key keys,
      count-cons (λ k. int_lt (of_min rates own k) v) key keys,
      below-starts rates own v keys,
    )

pub above-starts : (rates : RateLimits) (own : Key) (v : ℤ) (keys : List Key)
    → count_above v (starts (near_all rates own keys)) ≡ count_by (λ key. int_lt v (of_max rates own key)) keys + count_by (λ key. int_lt v (of_min rates own key)) keys
unfolding before_floor before_ceil
above-starts rates own v [] = refl
above-starts rates own v (key ∷ keys) =
    let near = near_of rates own key in
    omega (
      arith,
      above-cons v (near.value -ℤ near.most) ((near.value -ℤ near.least) ∷ starts (near_all rates own keys)),
      above-cons v (near.value -ℤ near.least) (starts (near_all rates own keys)),
      count-cons (λ k. int_lt v (of_max rates own k)) key keys,
      count-cons (λ k. int_lt v (of_min rates own k)) key keys,
      above-starts rates own v keys,
    )

max_first : (rates : RateLimits) (own key first : Key) (keys : List Key) → (Contains keys key → Contains (starts (near_all rates own keys)) (of_max rates own key)) → (first ≡ key) ⊎ Contains keys key → Contains (starts (near_all rates own (first ∷ keys))) (of_max rates own key)
unfolding before_floor
max_first rates own key first keys rest (inl e) =
    let near = near_of rates own first in
    let C : Key → Type 0 = λ k. Contains (starts (near_all rates own (first ∷ keys))) (of_max rates own k) in
    subst C e (contains_first (near.value -ℤ near.most) ((near.value -ℤ near.least) ∷ starts (near_all rates own keys)))
max_first rates own key first keys rest (inr later) =
    let near = near_of rates own first in
    contains_later (near.value -ℤ near.most) ((near.value -ℤ near.least) ∷ starts (near_all rates own keys)) (of_max rates own key)
    (contains_later (near.value -ℤ near.least) (starts (near_all rates own keys)) (of_max rates own key) (rest later))

pub max_is_start : (rates : RateLimits) (own key : Key) (keys : List Key) → Contains keys key → Contains (starts (near_all rates own keys)) (of_max rates own key)
max_is_start rates own key [] h = absurd (contains_none key h)
max_is_start rates own key (first ∷ keys) h = max_first rates own key first keys (max_is_start rates own key keys) (contains_cases first keys key h)

min_first : (rates : RateLimits) (own key first : Key) (keys : List Key) → (Contains keys key → Contains (starts (near_all rates own keys)) (of_min rates own key)) → (first ≡ key) ⊎ Contains keys key → Contains (starts (near_all rates own (first ∷ keys))) (of_min rates own key)
unfolding before_ceil
min_first rates own key first keys rest (inl e) =
    let near = near_of rates own first in
    let C : Key → Type 0 = λ k. Contains (starts (near_all rates own (first ∷ keys))) (of_min rates own k) in
    subst C e
    (contains_later (near.value -ℤ near.most) ((near.value -ℤ near.least) ∷ starts (near_all rates own keys)) (near.value -ℤ near.least)
    (contains_first (near.value -ℤ near.least) (starts (near_all rates own keys))))
min_first rates own key first keys rest (inr later) =
    let near = near_of rates own first in
    contains_later (near.value -ℤ near.most) ((near.value -ℤ near.least) ∷ starts (near_all rates own keys)) (of_min rates own key)
    (contains_later (near.value -ℤ near.least) (starts (near_all rates own keys)) (of_min rates own key) (rest later))

pub min_is_start : (rates : RateLimits) (own key : Key) (keys : List Key) → Contains keys key → Contains (starts (near_all rates own keys)) (of_min rates own key)
min_is_start rates own key [] h = absurd (contains_none key h)
min_is_start rates own key (first ∷ keys) h = min_first rates own key first keys (min_is_start rates own key keys) (contains_cases first keys key h)

-- ---- the candidates as the code has them

pub floor_candidate : (rate : Rate) (d : ℕ) (own key : Key) (dt step v : ℤ) → 1 ≤ rate.per → dt ≡ key.ticks -ℤ own.ticks → IsFloor rate d dt step → v ≡ key.value -ℤ step → v ≡ before_floor rate d own key
unfolding before_floor
floor_candidate rate d own key dt step v some e floor is =
    let P : ℤ → Type 0 = λ t. IsFloor rate d t step in
    let same = one_floor rate d (key.ticks -ℤ own.ticks) step (floor_step rate d (key.ticks -ℤ own.ticks)) (subst P e floor) (floor_step_is rate d (key.ticks -ℤ own.ticks) some) in
    is ∙ ap (λ t. key.value -ℤ t) same

pub ceil_candidate : (rate : Rate) (d : ℕ) (own key : Key) (dt step v : ℤ) → 1 ≤ rate.per → dt ≡ key.ticks -ℤ own.ticks → IsCeil rate d dt step → v ≡ key.value -ℤ step → v ≡ before_ceil rate d own key
unfolding before_ceil
ceil_candidate rate d own key dt step v some e ceil is =
    let P : ℤ → Type 0 = λ t. IsCeil rate d t step in
    let same = one_ceil rate d (key.ticks -ℤ own.ticks) step (ceil_step rate d (key.ticks -ℤ own.ticks)) (subst P e ceil) (ceil_step_is rate d (key.ticks -ℤ own.ticks) some) in
    is ∙ ap (λ t. key.value -ℤ t) same

step_back_fits : (value step : ℤ) → IsUnits value → unsigned_abs step ≤ 4 * 10 ^ 15 → FitsSigned w64 (value -ℤ step)
step_back_fits value step units small =
    let size = within_size step (4 * 10 ^ 15) small in
    omega (arith, ints, units, size)

ticks_fit : (rate : Rate) (d : ℕ) (dt : ℤ) → IsWithinReach rate d dt → FitsSigned w64 dt
ticks_fit rate d dt reach = omega (arith, ints, reach.ticks_least, reach.ticks_most)

-- one number less another one, as the code has it
pub record IsDifference (a b : ℤ) : Type 0 where
  pub fits : FitsSigned w64 (to_z w64 (of_z w64 a) -ℤ to_z w64 (of_z w64 b))
  pub same : to_z w64 (of_z w64 (to_z w64 (of_z w64 a) -ℤ to_z w64 (of_z w64 b))) ≡ a -ℤ b

pub difference_of : (a b : ℤ) → FitsSigned w64 a → FitsSigned w64 b → FitsSigned w64 (a -ℤ b) → IsDifference a b
difference_of a b f g fits =
    let P : ℤ → Type 0 = λ x. FitsSigned w64 (x -ℤ to_z w64 (of_z w64 b)) in
    let Q : ℤ → Type 0 = λ y. FitsSigned w64 (a -ℤ y) in
    record {
      fits = subst P (sym (to_z-of_z w64 a f)) (subst Q (sym (to_z-of_z w64 b g)) fits);
      same = ap (λ x. to_z w64 (of_z w64 (x -ℤ to_z w64 (of_z w64 b)))) (to_z-of_z w64 a f) ∙ ap (λ y. to_z w64 (of_z w64 (a -ℤ y))) (to_z-of_z w64 b g) ∙ to_z-of_z w64 (a -ℤ b) fits;
    }

pub ticks_between : (rate : Rate) (d : ℕ) (own key : Key) → FitsSigned w64 own.ticks → FitsSigned w64 key.ticks → IsWithinReach rate d (key.ticks -ℤ own.ticks) → IsDifference key.ticks own.ticks
ticks_between rate d own key f g reach = difference_of key.ticks own.ticks g f (ticks_fit rate d (key.ticks -ℤ own.ticks) reach)

pub value_before : (value step : ℤ) → FitsSigned w64 value → IsUnits value → unsigned_abs step ≤ 4 * 10 ^ 15 → IsDifference value step
value_before value step f units small = difference_of value step f (step_fits step small) (step_back_fits value step units small)

-- ---- the key at a place of an order

-- the reading comes before the key, and the rate reaches no further than it may in the time between them
pub record IsReady (rate : Rate) (d : ℕ) (own key : Key) : Type 0 where
  pub reach : IsWithinReach rate d (key.ticks -ℤ own.ticks)
  pub units : IsUnits key.value

ready : (rate : Rate) (d : ℕ) (span : ℤ) (own key : Key) → IsWithinReach rate d span → IsUnits key.value → IsAfter span own key → IsReady rate d own key
ready rate d span own key reach units after = record { reach = reach_of_fewer rate d span (key.ticks -ℤ own.ticks) reach after.least after.most; units = units }

at_place : (P : Key → Type 0) (by_time order : List Key) (place : ℕ) (d : Key) → HaveSameKeys by_time order → AllByRecursion P by_time → place < length by_time → P (get_or order place d)
at_place P by_time order place d same all h = All-from_recursion P order (all_same P by_time order same all) place d (omega (arith, h, same_length by_time order same))

pub max_ready : (by_time by_max by_min : List Key) (rates : RateLimits) (span : ℤ) (own : Key) (place : ℕ) (d : Key) → AreSorted by_time by_max by_min rates span → AllByRecursion (IsAfter span own) by_time → place < length by_time
    → IsReady rates.max rates.decimals own (get_or by_max place d)
max_ready by_time by_max by_min rates span own place d sorted after h =
    ready rates.max rates.decimals span own (get_or by_max place d) sorted.reach.max
    (at_place (λ key. IsUnits key.value) by_time by_max place d sorted.max.same sorted.keys.units h)
    (at_place (IsAfter span own) by_time by_max place d sorted.max.same after h)

pub min_ready : (by_time by_max by_min : List Key) (rates : RateLimits) (span : ℤ) (own : Key) (place : ℕ) (d : Key) → AreSorted by_time by_max by_min rates span → AllByRecursion (IsAfter span own) by_time → place < length by_time
    → IsReady rates.min rates.decimals own (get_or by_min place d)
min_ready by_time by_max by_min rates span own place d sorted after h =
    ready rates.min rates.decimals span own (get_or by_min place d) sorted.reach.min
    (at_place (λ key. IsUnits key.value) by_time by_min place d sorted.min.same sorted.keys.units h)
    (at_place (IsAfter span own) by_time by_min place d sorted.min.same after h)
