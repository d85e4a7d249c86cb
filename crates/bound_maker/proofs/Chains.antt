-- What holds of neighbouring readings holds of any two: steps add up.
use Rattle.std.proofs.Common.{◌≡◌, ℕ, ◌≤◌, ℤ, pos, neg_ℤ, ◌+ℤ◌, ◌-ℤ◌, ◌≤ℤ◌, ◌<ℤ◌, true, List, [], ◌∷◌, map, refl, subst, arith}
use Rattle.std.specs.Prelude.{int_le}
use Rattle.std.specs.List.{AllByRecursion}
use Rattle.std.proofs.lemmas.Bool.{and_from, and_parts}
use Rattle.std.proofs.lemmas.Int.{ints}
use Rattle.words.proofs.Lists.{all_append, all_map}
use Rattle.fix_point.specs.declared.rate.Rate.{Rate}
use Rattle.fix_point.specs.Rates.{ceil_step, floor_step, opposite}
use Rattle.fix_point.proofs.Rates.{ceil_of_floor, ceils_add_up, floor_of, floors_add_up}
use Rattle.pair_bounds.specs.Pairs.{elapsed, is_within}
use Rattle.bound_maker.specs.declared.reading.Reading.{Reading}
use Rattle.bound_maker.specs.Readings.{all_pairs, neighbours}
use Rattle.bound_maker.specs.Windows.{StampsRise}
use Rattle.bound_maker.proofs.Payments.{keeps_from, test_from}

-- ---- tests of ticks

pub record LieWithin (least most ticks : ℤ) : Type 0 where
  pub low : least ≤ℤ ticks
  pub high : ticks ≤ℤ most

pub lie_within : (least most ticks : ℤ) → is_within least most ticks ≡ true → LieWithin least most ticks
lie_within least most ticks h =
    let parts = and_parts (int_le least ticks) (int_le ticks most) h in
    record { low = keeps_from least ticks parts.0; high = keeps_from ticks most parts.1 }

pub within_from : (least most ticks : ℤ) → least ≤ℤ ticks → ticks ≤ℤ most → is_within least most ticks ≡ true
within_from least most ticks low high = and_from (int_le least ticks) (int_le ticks most) (test_from least ticks low) (test_from ticks most high)

-- ---- steps that add up

-- two steps are together at most the step for both times
pub record AddUp (step : ℤ → ℤ) : Type 0 where
  pub sum : (p q : ℤ) → (step p +ℤ step q) ≤ℤ step (p +ℤ q)

pub floors : (rate : Rate) (d : ℕ) → 1 ≤ rate.per → AddUp (λ ticks. floor_step rate d ticks)
floors rate d some = record {
  sum = λ p q. floors_add_up rate d p q (floor_step rate d p) (floor_step rate d q) (floor_step rate d (p +ℤ q))
      (floor_of rate d p _ _ some refl refl) (floor_of rate d q _ _ some refl refl) (floor_of rate d (p +ℤ q) _ _ some refl refl);
}

turned : (a b c : ℤ) → c ≤ℤ (a +ℤ b) → (neg_ℤ a +ℤ neg_ℤ b) ≤ℤ neg_ℤ c
turned a b c h = omega (arith, ints, h)

pub falls : (rate : Rate) (d : ℕ) → 1 ≤ rate.per → AddUp (λ ticks. neg_ℤ (ceil_step rate d ticks))
falls rate d some = record {
  sum = λ p q.
      let ceils = ceils_add_up rate d p q (ceil_step rate d p) (ceil_step rate d q) (ceil_step rate d (p +ℤ q))
      (ceil_of_floor rate d p _ (floor_of (opposite rate) d p _ _ some refl refl))
      (ceil_of_floor rate d q _ (floor_of (opposite rate) d q _ _ some refl refl))
      (ceil_of_floor rate d (p +ℤ q) _ (floor_of (opposite rate) d (p +ℤ q) _ _ some refl refl)) in
      turned (ceil_step rate d p) (ceil_step rate d q) (ceil_step rate d (p +ℤ q)) ceils;
}

-- ---- readings

-- where the second reading lies within the window of the first, it is above it and below it by no more than the steps
abbrev pub KeepsSteps : ℤ → (Reading → ℤ) → (ℤ → ℤ) → (ℤ → ℤ) → Reading → Reading → Type 0
KeepsSteps window value up down x y =
    is_within (pos 1) window (elapsed x.stamp y.stamp) ≡ true
    → ((value y -ℤ value x) ≤ℤ up (elapsed x.stamp y.stamp)) × ((value x -ℤ value y) ≤ℤ down (elapsed x.stamp y.stamp))

-- a sum of two rises
added : (a b c s t r : ℤ) → (b -ℤ a) ≤ℤ s → (c -ℤ b) ≤ℤ t → (s +ℤ t) ≤ℤ r → (c -ℤ a) ≤ℤ r
added a b c s t r first second both = omega (arith, ints, first, second, both)

turned_sum : (s t r : ℤ) → (s +ℤ t) ≤ℤ r → (t +ℤ s) ≤ℤ r
turned_sum s t r h = omega (arith, ints, h)

through : (window : ℤ) (value : Reading → ℤ) (up down : ℤ → ℤ) → AddUp up → AddUp down → (x y z : Reading) → x.stamp.ticks <ℤ y.stamp.ticks → y.stamp.ticks <ℤ z.stamp.ticks
    → KeepsSteps window value up down x y → KeepsSteps window value up down y z → KeepsSteps window value up down x z
through window value up down ups downs x y z before after first second = λ test.
    let within = lie_within (pos 1) window (elapsed x.stamp z.stamp) test in
    let p = elapsed x.stamp y.stamp in
    let q = elapsed y.stamp z.stamp in
    let a = first (within_from (pos 1) window p (omega (arith, ints, before)) (omega (arith, ints, after, within.high))) in
    let b = second (within_from (pos 1) window q (omega (arith, ints, after)) (omega (arith, ints, before, within.high))) in
    let whole : (p +ℤ q) ≡ elapsed x.stamp z.stamp = omega (arith, ints) in
    let rise : (up p +ℤ up q) ≤ℤ up (elapsed x.stamp z.stamp) = subst (λ (t : ℤ). (up p +ℤ up q) ≤ℤ up t) whole (ups.sum p q) in
    let fall : (down p +ℤ down q) ≤ℤ down (elapsed x.stamp z.stamp) = subst (λ (t : ℤ). (down p +ℤ down q) ≤ℤ down t) whole (downs.sum p q) in (
      added (value x) (value y) (value z) (up p) (up q) (up (elapsed x.stamp z.stamp)) a.0 b.0 rise,
      added (value z) (value y) (value x) (down q) (down p) (down (elapsed x.stamp z.stamp)) b.1 a.1 (turned_sum (down p) (down q) (down (elapsed x.stamp z.stamp)) fall),
    )

-- what follows from two facts on each element
pub joined : {A : Type 0} (P Q R : A → Type 0) → ((x : A) → P x → Q x → R x) → (xs : List A) → AllByRecursion P xs → AllByRecursion Q xs → AllByRecursion R xs
joined P Q R both [] ps qs = tt
joined P Q R both (x ∷ xs) ps qs = (both x ps.0 qs.0, joined P Q R both xs ps.1 qs.1)

-- neighbours that keep the steps, as pairs
abbrev pub PairKeeps : ℤ → (Reading → ℤ) → (ℤ → ℤ) → (ℤ → ℤ) → Reading × Reading → Type 0
PairKeeps window value up down pair = KeepsSteps window value up down pair.0 pair.1

-- the first reading keeps the steps with all that follow
chain : (window : ℤ) (value : Reading → ℤ) (up down : ℤ → ℤ) → AddUp up → AddUp down → (x : Reading) (ys : List Reading) → StampsRise (x ∷ ys)
    → AllByRecursion (PairKeeps window value up down) (neighbours (x ∷ ys)) → AllByRecursion (KeepsSteps window value up down x) ys
chain window value up down ups downs x [] rise near = tt
chain window value up down ups downs x (y ∷ ys) rise near = (
  near.0,
  joined (KeepsSteps window value up down y) (λ (z : Reading). y.stamp.ticks <ℤ z.stamp.ticks) (KeepsSteps window value up down x)
      (λ z keeps after. through window value up down ups downs x y z rise.0.0 after near.0 keeps) ys
      (chain window value up down ups downs y ys rise.1 near.1) rise.1.0,
)

-- each two readings keep the steps
pub all_keep : (window : ℤ) (value : Reading → ℤ) (up down : ℤ → ℤ) → AddUp up → AddUp down → (xs : List Reading) → StampsRise xs
    → AllByRecursion (PairKeeps window value up down) (neighbours xs) → AllByRecursion (PairKeeps window value up down) (all_pairs xs)
all_keep window value up down ups downs [] rise near = tt
all_keep window value up down ups downs (x ∷ []) rise near = tt
all_keep window value up down ups downs (x ∷ y ∷ ys) rise near =
    all_append (PairKeeps window value up down) (map (λ (z : Reading). (x, z)) (y ∷ ys)) (all_pairs (y ∷ ys))
    (all_map (PairKeeps window value up down) (λ (z : Reading). (x, z)) (y ∷ ys) (chain window value up down ups downs x (y ∷ ys) rise near))
    (all_keep window value up down ups downs (y ∷ ys) rise.1 near.1)
