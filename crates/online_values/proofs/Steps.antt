-- Whole steps between readings that follow each other.
use Rattle.std.proofs.Common.{◌≡◌, ℕ, ◌^◌, ◌≤◌, Bool, true, false, ℤ, pos, ◌+ℤ◌, ◌-ℤ◌, ◌*ℤ◌, ◌≤ℤ◌, ◌<ℤ◌, ◌⊎◌, inl, inr, List, [], ◌∷◌, cond, refl, sym, subst, arith}
use Rattle.std.specs.Prelude.{int_le, int_lt, IsTrue}
use Rattle.std.specs.List.{AllByRecursion}
use Rattle.std.proofs.lemmas.Bool.{cases_Bool}
use Rattle.std.proofs.lemmas.Int.{ints, by_lt_z}
use Rattle.fix_point.specs.declared.rate.Rate.{Rate}
use Rattle.fix_point.specs.Rates.{IsCeil, IsFloor, ceil_step, floor_step, opposite}
use Rattle.fix_point.proofs.Rates.{floor_of, ceil_of_floor, floors_add_up, ceils_add_up}
use Rattle.window_median.specs.LocalCost.{HasSteps}
use Rattle.order_window.specs.declared.key.Key.{Key}
use Rattle.online_values.specs.Results.{Speed, greatest_step, is_within, least_step, near, successors}
use Rattle.online_values.specs.Laws.{Follows, IsSeries}

-- both rates are for some time
pub record HaveTimes (speed : Speed) : Type 0 where
  pub min : 1 ≤ speed.rates.min.per
  pub max : 1 ≤ speed.rates.max.per

pub floor_is : (rate : Rate) (d : ℕ) (dt : ℤ) → 1 ≤ rate.per → IsFloor rate d dt (floor_step rate d dt)
floor_is rate d dt some = floor_of rate d dt ((rate.millionths *ℤ pos (10 ^ d)) *ℤ dt) (floor_step rate d dt) some refl refl

pub ceil_is : (rate : Rate) (d : ℕ) (dt : ℤ) → 1 ≤ rate.per → IsCeil rate d dt (ceil_step rate d dt)
ceil_is rate d dt some = ceil_of_floor rate d dt (floor_step (opposite rate) d dt) (floor_is (opposite rate) d dt some)

-- a change in so many ticks that the rates allow
pub record IsStep (speed : Speed) (dt change : ℤ) : Type 0 where
  pub least : least_step speed dt ≤ℤ change
  pub most : change ≤ℤ greatest_step speed dt

low_both : (a b c p q : ℤ) → c ≤ℤ (a +ℤ b) → a ≤ℤ p → b ≤ℤ q → c ≤ℤ (p +ℤ q)
low_both a b c p q h e f = omega (arith, ints)

high_both : (a b c p q : ℤ) → (a +ℤ b) ≤ℤ c → p ≤ℤ a → q ≤ℤ b → (p +ℤ q) ≤ℤ c
high_both a b c p q h e f = omega (arith, ints)

-- two changes one after the other
pub step_both : (speed : Speed) (s t p q : ℤ) → HaveTimes speed → IsStep speed s p → IsStep speed t q → IsStep speed (s +ℤ t) (p +ℤ q)
step_both speed s t p q times one other =
    let d = speed.rates.decimals in
    record {
      least = low_both (least_step speed s) (least_step speed t) (least_step speed (s +ℤ t)) p q
          (ceils_add_up speed.rates.min d s t (least_step speed s) (least_step speed t) (least_step speed (s +ℤ t)) (ceil_is speed.rates.min d s times.min) (ceil_is speed.rates.min d t times.min) (ceil_is speed.rates.min d (s +ℤ t) times.min))
          one.least other.least;
      most = high_both (greatest_step speed s) (greatest_step speed t) (greatest_step speed (s +ℤ t)) p q
          (floors_add_up speed.rates.max d s t (greatest_step speed s) (greatest_step speed t) (greatest_step speed (s +ℤ t)) (floor_is speed.rates.max d s times.max) (floor_is speed.rates.max d t times.max) (floor_is speed.rates.max d (s +ℤ t) times.max))
          one.most other.most;
    }

times_join : (a b c : ℤ) → (b -ℤ a) +ℤ (c -ℤ b) ≡ c -ℤ a
times_join a b c = omega (arith, ints)

pub step_over : (speed : Speed) (a b c p q : ℤ) → HaveTimes speed → IsStep speed (b -ℤ a) p → IsStep speed (c -ℤ b) q → IsStep speed (c -ℤ a) (p +ℤ q)
step_over speed a b c p q times one other =
    let S : ℤ → Type 0 = λ t. IsStep speed t (p +ℤ q) in
    subst S (times_join a b c) (step_both speed (b -ℤ a) (c -ℤ b) p q times one other)

-- ---- within the window

pub le_true : (a b : ℤ) → a ≤ℤ b → int_le a b ≡ true
le_true a b h = grind (arith, ints)

pub true_less : (a b : ℤ) → int_lt a b ≡ true → a <ℤ b
true_less a b h = by_lt_z a b (λ less. less) (λ more. grind (arith, ints))

pub true_le : (a b : ℤ) → int_le a b ≡ true → a ≤ℤ b
true_le a b h = by_lt_z b a (λ less. grind (arith, ints)) (λ more. more)

shorter : (a b c span : ℤ) → a <ℤ b → b <ℤ c → (c -ℤ a) ≤ℤ span → ((c -ℤ b) ≤ℤ span) × ((b -ℤ a) ≤ℤ span)
shorter a b c span g h k = (omega (arith, ints), omega (arith, ints))

-- what lies between two readings lies within the window of the first, and the second within its own
pub within_first : (speed : Speed) (first key own : Key) → first.ticks <ℤ key.ticks → key.ticks <ℤ own.ticks → IsTrue (is_within speed first own) → IsTrue (is_within speed first key)
within_first speed first key own g h within =
    le_true (key.ticks -ℤ first.ticks) speed.span (shorter first.ticks key.ticks own.ticks speed.span g h (true_le (own.ticks -ℤ first.ticks) speed.span within)).1

pub within_last : (speed : Speed) (first key own : Key) → first.ticks <ℤ key.ticks → key.ticks <ℤ own.ticks → IsTrue (is_within speed first own) → IsTrue (is_within speed key own)
within_last speed first key own g h within =
    le_true (own.ticks -ℤ key.ticks) speed.span (shorter first.ticks key.ticks own.ticks speed.span g h (true_le (own.ticks -ℤ first.ticks) speed.span within)).0

less_chain : (a b c : ℤ) → a <ℤ b → b <ℤ c → a <ℤ c
less_chain a b c g h = omega (arith, ints)

-- ---- the successors have whole steps

-- a reading after another one, to which there is a whole step where it lies within the window
pub record IsReached (speed : Speed) (own key : Key) : Type 0 where
  pub later : own.ticks <ℤ key.ticks
  pub change : IsTrue (is_within speed own key) → (change : ℤ) × IsStep speed (key.ticks -ℤ own.ticks) change

low_step : (least most : ℤ) → least ≤ℤ most → least ≤ℤ least
low_step least most h = omega (arith, ints)

pub reached_next : (speed : Speed) (own key : Key) → Follows speed own key → IsReached speed own key
reached_next speed own key follows = record {
  later = follows.later;
  change = λ within.
      let order = follows.step within in
      (least_step speed (key.ticks -ℤ own.ticks), record { least = low_step (least_step speed (key.ticks -ℤ own.ticks)) (greatest_step speed (key.ticks -ℤ own.ticks)) order; most = order });
}

reached_after : (speed : Speed) (own last key : Key) → HaveTimes speed → IsReached speed own last → Follows speed last key → IsReached speed own key
reached_after speed own last key times reached follows = record {
  later = less_chain own.ticks last.ticks key.ticks reached.later follows.later;
  change = λ within.
      let one = reached.change (within_first speed own last key reached.later follows.later within) in
      let other = (reached_next speed last key follows).change (within_last speed own last key reached.later follows.later within) in
      (one.0 +ℤ other.0, step_over speed own.ticks last.ticks key.ticks one.0 other.0 times one.1 other.1);
}

all_reached : (speed : Speed) (own last : Key) (keys : List Key) → HaveTimes speed → IsReached speed own last → IsSeries speed (last ∷ keys) → AllByRecursion (IsReached speed own) keys
all_reached speed own last [] times reached series = tt
all_reached speed own last (key ∷ keys) times reached series =
    let here = reached_after speed own last key times reached series.0 in
    (here, all_reached speed own key keys times here series.1)

pub later_reached : (speed : Speed) (own : Key) (later : List Key) → HaveTimes speed → IsSeries speed (own ∷ later) → AllByRecursion (IsReached speed own) later
later_reached speed own [] times series = tt
later_reached speed own (key ∷ keys) times series =
    let here = reached_next speed own key series.0 in
    (here, all_reached speed own key keys times here series.1)

chain : (a b c : ℤ) → a ≤ℤ b → b ≤ℤ c → a ≤ℤ c
chain a b c g h = omega (arith, ints)

step_order : (speed : Speed) (dt change : ℤ) → IsStep speed dt change → least_step speed dt ≤ℤ greatest_step speed dt
step_order speed dt change step = chain (least_step speed dt) change (greatest_step speed dt) step.least step.most

steps_by : (speed : Speed) (own key : Key) (keys : List Key) → IsReached speed own key → AllByRecursion HasSteps (near speed own (successors speed own keys)) → (is_within speed own key ≡ true) ⊎ (is_within speed own key ≡ false) → AllByRecursion HasSteps (near speed own (successors speed own (key ∷ keys)))
steps_by speed own key keys reached rest (inl within) =
    let A : Bool → Type 0 = λ b. AllByRecursion HasSteps (near speed own (cond b (key ∷ successors speed own keys) (successors speed own keys))) in
    let change = reached.change within in
    subst A (sym within) (step_order speed (key.ticks -ℤ own.ticks) change.0 change.1, rest)
steps_by speed own key keys reached rest (inr beyond) =
    let A : Bool → Type 0 = λ b. AllByRecursion HasSteps (near speed own (cond b (key ∷ successors speed own keys) (successors speed own keys))) in
    subst A (sym beyond) rest

pub successors_have_steps : (speed : Speed) (own : Key) (later : List Key) → AllByRecursion (IsReached speed own) later → AllByRecursion HasSteps (near speed own (successors speed own later))
successors_have_steps speed own [] reached = tt
successors_have_steps speed own (key ∷ keys) reached =
    steps_by speed own key keys reached.0 (successors_have_steps speed own keys reached.1) (cases_Bool (is_within speed own key))
