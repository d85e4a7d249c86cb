-- Windows over readings: what is passed over makes no bound.
use Rattle.std.proofs.Common.{◌≡◌, ℕ, zero, suc, ◌+◌, ◌-◌, ◌≤◌, ℤ, pos, ◌+ℤ◌, ◌-ℤ◌, ◌≤ℤ◌, ◌<ℤ◌, Bool, true, false, cond, List, [], ◌∷◌, ◌++◌, length, take, drop, refl, sym, ap, ◌∙◌, subst, zero-add, arith}
use Rattle.std.specs.List.{AllByRecursion, flat_map}
use Rattle.std.proofs.lemmas.Bool.{false≢true}
use Rattle.std.specs.Prelude.{int_lt}
use Rattle.std.proofs.lemmas.Int.{ints}
use Rattle.words.proofs.Lists.{all_weaker}
use Rattle.bound_maker.specs.declared.reading.Reading.{Reading}
use Rattle.bound_maker.specs.Windows.{StampsRise, count_before, is_before, lead}

-- ---- the first elements that pass a test

bound_step : (b : Bool) (n m : ℕ) → n ≤ m → cond b (suc n) 0 ≤ suc m
bound_step true n m h = omega (arith, h)
bound_step false n m h = omega arith

pub lead_bound : {A : Type 0} (test : A → Bool) (xs : List A) → lead test xs ≤ length xs
lead_bound test [] = omega arith
lead_bound test (x ∷ xs) = bound_step (test x) (lead test xs) (length xs) (lead_bound test xs)

from_step : {A : Type 0} (test : A → Bool) (xs : List A) (i : ℕ) (b : Bool) → (i ≤ lead test xs → i + lead test (drop i xs) ≡ lead test xs) → suc i ≤ cond b (suc (lead test xs)) 0
    → suc i + lead test (drop i xs) ≡ cond b (suc (lead test xs)) 0
from_step test xs i true rest h = let e = rest (omega (arith, h)) in omega (arith, e)
from_step test xs i false rest h = absurd (omega (arith, h))

-- where as many as this pass, the rest has the others
pub lead_from : {A : Type 0} (test : A → Bool) (xs : List A) (i : ℕ) → i ≤ lead test xs → i + lead test (drop i xs) ≡ lead test xs
lead_from test xs zero h = zero-add (lead test xs)
lead_from test [] (suc i) h = absurd (omega (arith, h))
lead_from test (x ∷ xs) (suc i) h = from_step test xs i (test x) (lead_from test xs i) h

-- once a test fails it fails for all that follow
abbrev pub Fades : {A : Type 0} → (A → Bool) → List A → Type 0
Fades test [] = Unit {0}
Fades test (x ∷ xs) = (test x ≡ false → AllByRecursion (λ y. test y ≡ false) xs) × Fades test xs

none_lead : {A : Type 0} (test : A → Bool) (xs : List A) → AllByRecursion (λ y. test y ≡ false) xs → lead test xs ≡ 0
none_lead test [] all = refl
none_lead test (x ∷ xs) all = ap (λ b. cond b (suc (lead test xs)) 0) all.0

-- what comes after makes nothing
none_after : {A B : Type 0} (test : A → Bool) (f : A → List B) (xs : List A) → ((x : A) → test x ≡ false → f x ≡ []) → AllByRecursion (λ y. test y ≡ false) xs → flat_map f xs ≡ []
none_after test f [] nothing all = refl
none_after test f (x ∷ xs) nothing all = ap (λ bs. bs ++ flat_map f xs) (nothing x all.0) ∙ none_after test f xs nothing all.1

up_step : {A B : Type 0} (test : A → Bool) (f : A → List B) (x : A) (xs : List A) (b : Bool) → test x ≡ b → Fades test (x ∷ xs) → ((y : A) → test y ≡ false → f y ≡ [])
    → flat_map f xs ≡ flat_map f (take (lead test xs) xs) → flat_map f (x ∷ xs) ≡ flat_map f (take (lead test (x ∷ xs)) (x ∷ xs))
up_step test f x xs true is fades nothing rest =
    ap (λ bs. f x ++ bs) rest ∙ ap (λ b. flat_map f (take (cond b (suc (lead test xs)) 0) (x ∷ xs))) (sym is)
up_step test f x xs false is fades nothing rest =
    ap (λ bs. bs ++ flat_map f xs) (nothing x is) ∙ (none_after test f xs nothing (fades.0 is)
    ∙ ap (λ b. flat_map f (take (cond b (suc (lead test xs)) 0) (x ∷ xs))) (sym is))

up_to : {A B : Type 0} (test : A → Bool) (f : A → List B) (xs : List A) → Fades test xs → ((x : A) → test x ≡ false → f x ≡ []) → flat_map f xs ≡ flat_map f (take (lead test xs) xs)
up_to test f [] fades nothing = refl
up_to test f (x ∷ xs) fades nothing = up_step test f x xs (test x) refl fades nothing (up_to test f xs fades.1 nothing)

between_step : {A B : Type 0} (early inside : A → Bool) (f : A → List B) (x : A) (xs : List A) (b : Bool) → early x ≡ b → Fades early (x ∷ xs) → Fades inside (x ∷ xs) → ((y : A) → early y ≡ true → inside y ≡ true)
    → ((y : A) → early y ≡ true → f y ≡ []) → ((y : A) → inside y ≡ false → f y ≡ [])
    → flat_map f xs ≡ flat_map f (take (lead inside xs - lead early xs) (drop (lead early xs) xs))
    → flat_map f (x ∷ xs) ≡ flat_map f (take (lead inside (x ∷ xs) - lead early (x ∷ xs)) (drop (lead early (x ∷ xs)) (x ∷ xs)))
between_step early inside f x xs true is fade_early fade_open wider before after rest =
    let same : suc (lead inside xs) - suc (lead early xs) ≡ lead inside xs - lead early xs = omega arith in
    ap (λ bs. bs ++ flat_map f xs) (before x is)
    ∙ (rest
    ∙ (ap (λ n. flat_map f (take n (drop (lead early xs) xs))) (sym same)
    ∙ (ap (λ b. flat_map f (take (cond b (suc (lead inside xs)) 0 - suc (lead early xs)) (drop (suc (lead early xs)) (x ∷ xs)))) (sym (wider x is))
    ∙ ap (λ b. flat_map f (take (lead inside (x ∷ xs) - cond b (suc (lead early xs)) 0) (drop (cond b (suc (lead early xs)) 0) (x ∷ xs)))) (sym is))))
between_step early inside f x xs false is fade_early fade_open wider before after rest =
    let all : lead inside (x ∷ xs) ≡ lead inside (x ∷ xs) - 0 = omega arith in
    up_to inside f (x ∷ xs) fade_open after
    ∙ (ap (λ n. flat_map f (take n (x ∷ xs))) all
    ∙ ap (λ b. flat_map f (take (lead inside (x ∷ xs) - cond b (suc (lead early xs)) 0) (drop (cond b (suc (lead early xs)) 0) (x ∷ xs)))) (sym is))

-- Only what passes the second test and not the first makes something: it stands between the two counts.
pub between_leads : {A B : Type 0} (early inside : A → Bool) (f : A → List B) (xs : List A) → Fades early xs → Fades inside xs → ((x : A) → early x ≡ true → inside x ≡ true)
    → ((x : A) → early x ≡ true → f x ≡ []) → ((x : A) → inside x ≡ false → f x ≡ [])
    → flat_map f xs ≡ flat_map f (take (lead inside xs - lead early xs) (drop (lead early xs) xs))
between_leads early inside f [] fade_early fade_open wider before after = refl
between_leads early inside f (x ∷ xs) fade_early fade_open wider before after =
    between_step early inside f x xs (early x) refl fade_early fade_open wider before after (between_leads early inside f xs fade_early.1 fade_open.1 wider before after)

-- ---- tests of ticks

still_late : (a b ticks : ℤ) → int_lt a ticks ≡ false → a <ℤ b → int_lt b ticks ≡ false
still_late a b ticks late later = grind (arith, ints)

sooner : (a b ticks : ℤ) → int_lt a ticks ≡ true → b ≤ℤ a → int_lt b ticks ≡ true
sooner a b ticks early less = grind (arith, ints)

is_sooner : (a ticks : ℤ) → a <ℤ ticks → int_lt a ticks ≡ true
is_sooner a ticks h = grind (arith, ints)

counts_step : (a b : Bool) (m n : ℕ) → (a ≡ true → b ≡ true) → m ≤ n → cond a (suc m) 0 ≤ cond b (suc n) 0
counts_step true true m n h le = omega (arith, le)
counts_step true false m n h le = absurd (false≢true (h refl))
counts_step false b m n h le = omega arith

-- ---- readings in the order of time

-- once a reading is not before a moment, none that follows is
pub fades : (from ticks : ℤ) (readings : List Reading) → StampsRise readings → Fades (is_before from ticks) readings
fades from ticks [] rise = tt
fades from ticks (x ∷ xs) rise = (
  λ late. all_weaker (λ (y : Reading). x.stamp.ticks <ℤ y.stamp.ticks) (λ (y : Reading). is_before from ticks y ≡ false) (λ y later. still_late (x.stamp.ticks -ℤ from) (y.stamp.ticks -ℤ from) ticks late (omega (arith, ints, later))) xs rise.0,
  fades from ticks xs rise.1,
)

-- what is before a moment counted from one time is so counted from a later time
pub earlier_counts : (early late ticks : ℤ) (readings : List Reading) → early ≤ℤ late → count_before early ticks readings ≤ count_before late ticks readings
earlier_counts early late ticks [] h = omega arith
earlier_counts early late ticks (x ∷ xs) h =
    counts_step (is_before early ticks x) (is_before late ticks x) (count_before early ticks xs) (count_before late ticks xs)
    (λ before. sooner (x.stamp.ticks -ℤ early) (x.stamp.ticks -ℤ late) ticks before (omega (arith, ints, h)))
    (earlier_counts early late ticks xs h)

-- the first reading itself is before any moment later than its own
pub first_is_before : (ticks : ℤ) (x : Reading) (xs : List Reading) → pos 1 ≤ℤ ticks → count_before x.stamp.ticks ticks (x ∷ xs) ≡ suc (count_before x.stamp.ticks ticks xs)
first_is_before ticks x xs h = ap (λ b. cond b (suc (count_before x.stamp.ticks ticks xs)) 0) (is_sooner (x.stamp.ticks -ℤ x.stamp.ticks) ticks (omega (arith, ints, h)))

-- where as many stand before a moment as this, the others have the rest
pub counted_from : (from ticks f t : ℤ) (readings : List Reading) (at : ℕ) → f ≡ from → t ≡ ticks → at ≤ count_before from ticks readings → at + count_before f t (drop at readings) ≡ count_before f t readings
counted_from from ticks f t readings at same equal h =
    lead_from (is_before f t) readings at
    (subst (λ (z : ℤ). at ≤ count_before z t readings) (sym same) (subst (λ (z : ℤ). at ≤ count_before from z readings) (sym equal) h))

pub count_bound : (from ticks : ℤ) (readings : List Reading) → count_before from ticks readings ≤ length readings
count_bound from ticks readings = lead_bound (is_before from ticks) readings

ends_later : (t least most : ℤ) → least ≤ℤ most → int_lt t least ≡ true → int_lt t (most +ℤ pos 1) ≡ true
ends_later t least most ordered early = grind (arith, ints)

-- what is before the beginning of a window is before its end
pub begins_first : (from least most : ℤ) (readings : List Reading) → least ≤ℤ most → count_before from least readings ≤ count_before from (most +ℤ pos 1) readings
begins_first from least most [] ordered = omega arith
begins_first from least most (x ∷ xs) ordered =
    counts_step (is_before from least x) (is_before from (most +ℤ pos 1) x) (count_before from least xs) (count_before from (most +ℤ pos 1) xs)
    (λ early. ends_later (x.stamp.ticks -ℤ from) least most ordered early) (begins_first from least most xs ordered)
