-- How many readings lie in the window of another, by those that stand before two moments.
use Rattle.std.proofs.Common.{◌≡◌, ℕ, suc, ◌+◌, ◌-◌, ℤ, pos, ◌+ℤ◌, ◌-ℤ◌, ◌≤ℤ◌, Bool, true, false, cond, not, ◌&&◌, min, List, [], ◌∷◌, ◌++◌, map, refl, sym, ap, ◌∙◌, arith}
use Rattle.std.specs.Prelude.{int_le, int_lt}
use Rattle.std.specs.List.{AllByRecursion, count_by}
use Rattle.std.proofs.lemmas.Bool.{and_right}
use Rattle.std.proofs.lemmas.Int.{ints}
use Rattle.std.proofs.lemmas.List.Sums.{sum_by-append}
use Rattle.words.proofs.Lists.{all_weaker}
use Rattle.pair_bounds.specs.Pairs.{is_within}
use Rattle.bound_maker.specs.declared.reading.Reading.{Reading}
use Rattle.bound_maker.specs.declared.window.Window.{Window}
use Rattle.bound_maker.specs.Readings.{all_pairs}
use Rattle.bound_maker.specs.Windows.{IsWindow, StampsRise, count_before, is_before, is_pair_within, lead}
use Rattle.bound_maker.proofs.Counts.{count_first}
use Rattle.bound_maker.proofs.Windows.{Fades, fades}

-- ---- the count of what passes the second test and not the first

none_counted : {A : Type 0} (test : A → Bool) (xs : List A) → AllByRecursion (λ y. test y ≡ false) xs → count_by test xs ≡ 0
none_counted test [] all = refl
none_counted test (x ∷ xs) all =
    let count = count_first test x xs in
    let here : ◌≡◌ {A = ℕ} (cond (test x) 1 0) 0 = ap (λ (b : Bool). cond b 1 0) all.0 in
    let rest = none_counted test xs all.1 in
    omega (arith, count, here, rest)

-- the third test is passed where the second one is and the first is not
abbrev pub Agrees : {A : Type 0} → (A → Bool) → (A → Bool) → (A → Bool) → Type 0
Agrees {A} early inside test = (y : A) → test y ≡ (inside y && not (early y))

late_step : {A : Type 0} (early inside test : A → Bool) (x : A) (xs : List A) (b : Bool) → inside x ≡ b → early x ≡ false → Agrees early inside test → Fades inside (x ∷ xs)
    → count_by test xs ≡ lead inside xs → count_by test (x ∷ xs) ≡ lead inside (x ∷ xs)
late_step early inside test x xs true is late agree fade rest =
    let passes : test x ≡ true = agree x ∙ (ap (λ (b : Bool). b && not (early x)) is ∙ ap (λ (e : Bool). not e) late) in
    let one : ◌≡◌ {A = ℕ} (cond (test x) 1 0) 1 = ap (λ (b : Bool). cond b 1 0) passes in
    let led : lead inside (x ∷ xs) ≡ suc (lead inside xs) = ap (λ (b : Bool). cond b (suc (lead inside xs)) 0) is in
    let count = count_first test x xs in
    omega (arith, one, led, count, rest)
late_step early inside test x xs false is late agree fade rest =
    let fails : test x ≡ false = agree x ∙ ap (λ (b : Bool). b && not (early x)) is in
    let out = all_weaker (λ y. inside y ≡ false) (λ y. test y ≡ false) (λ y closed. agree y ∙ ap (λ (b : Bool). b && not (early y)) closed) xs (fade.0 is) in
    let led : lead inside (x ∷ xs) ≡ 0 = ap (λ (b : Bool). cond b (suc (lead inside xs)) 0) is in
    none_counted test (x ∷ xs) (fails, out) ∙ sym led

late_count : {A : Type 0} (early inside test : A → Bool) (xs : List A) → AllByRecursion (λ y. early y ≡ false) xs → Fades inside xs → Agrees early inside test → count_by test xs ≡ lead inside xs
late_count early inside test [] late fade agree = refl
late_count early inside test (x ∷ xs) late fade agree = late_step early inside test x xs (inside x) refl late.0 agree fade (late_count early inside test xs late.1 fade.1 agree)

lead_step : {A : Type 0} (early inside test : A → Bool) (x : A) (xs : List A) (b : Bool) → early x ≡ b → Fades early (x ∷ xs) → Fades inside (x ∷ xs) → ((y : A) → early y ≡ true → inside y ≡ true) → Agrees early inside test
    → count_by test xs ≡ lead inside xs - lead early xs → count_by test (x ∷ xs) ≡ lead inside (x ∷ xs) - lead early (x ∷ xs)
lead_step early inside test x xs true is fade_early fade_open wider agree rest =
    let fails : test x ≡ false = agree x ∙ and_right (inside x) (not (early x)) (ap not is) in
    let none : ◌≡◌ {A = ℕ} (cond (test x) 1 0) 0 = ap (λ (b : Bool). cond b 1 0) fails in
    let led : lead early (x ∷ xs) ≡ suc (lead early xs) = ap (λ (b : Bool). cond b (suc (lead early xs)) 0) is in
    let opened : lead inside (x ∷ xs) ≡ suc (lead inside xs) = ap (λ (b : Bool). cond b (suc (lead inside xs)) 0) (wider x is) in
    let count = count_first test x xs in
    omega (arith, none, led, opened, count, rest)
lead_step early inside test x xs false is fade_early fade_open wider agree rest =
    let led : lead early (x ∷ xs) ≡ 0 = ap (λ (b : Bool). cond b (suc (lead early xs)) 0) is in
    let all = late_count early inside test (x ∷ xs) (is, fade_early.0 is) fade_open agree in
    omega arith

pub leads_count : {A : Type 0} (early inside test : A → Bool) (xs : List A) → Fades early xs → Fades inside xs → ((y : A) → early y ≡ true → inside y ≡ true) → Agrees early inside test
    → count_by test xs ≡ lead inside xs - lead early xs
leads_count early inside test [] fade_early fade_open wider agree = refl
leads_count early inside test (x ∷ xs) fade_early fade_open wider agree =
    lead_step early inside test x xs (early x) refl fade_early fade_open wider agree (leads_count early inside test xs fade_early.1 fade_open.1 wider agree)

-- ---- a window in ticks

le_is : (least t : ℤ) → int_le least t ≡ not (int_lt t least)
le_is least t = grind (arith, ints)

lt_is : (most t : ℤ) → int_le t most ≡ int_lt t (most +ℤ pos 1)
lt_is most t = grind (arith, ints)

turned : (a b : Bool) → (not a && b) ≡ (b && not a)
turned true true = refl
turned true false = refl
turned false true = refl
turned false false = refl

pub within_is : (least most t : ℤ) → is_within least most t ≡ (int_lt t (most +ℤ pos 1) && not (int_lt t least))
within_is least most t =
    ap (λ (b : Bool). b && int_le t most) (le_is least t)
    ∙ (ap (λ (b : Bool). not (int_lt t least) && b) (lt_is most t) ∙ turned (int_lt t least) (int_lt t (most +ℤ pos 1)))

ends_later : (t least most : ℤ) → least ≤ℤ most → int_lt t least ≡ true → int_lt t (most +ℤ pos 1) ≡ true
ends_later t least most ordered early = grind (arith, ints)

-- what is before the beginning of a window is before its end
pub before_both : (from least most : ℤ) (y : Reading) → least ≤ℤ most → is_before from least y ≡ true → is_before from (most +ℤ pos 1) y ≡ true
before_both from least most y ordered early = ends_later (y.stamp.ticks -ℤ from) least most ordered early

-- ---- the readings in the window of the first

-- no reading lies in a window of its own
pub not_its_own : (least most a : ℤ) → pos 1 ≤ℤ least → is_within least most (a -ℤ a) ≡ false
not_its_own least most a h =
    let late : int_le least (a -ℤ a) ≡ false = grind (arith, ints) in
    ap (λ (b : Bool). b && int_le (a -ℤ a) most) late

pub window_count : (window : Window) (x : Reading) (xs : List Reading) → IsWindow window → StampsRise (x ∷ xs)
    → count_by (λ (y : Reading). is_pair_within window (x, y)) xs ≡ count_before x.stamp.ticks (window.most +ℤ pos 1) (x ∷ xs) - count_before x.stamp.ticks window.least (x ∷ xs)
window_count window x xs is_window rise =
    let from = x.stamp.ticks in
    let test = λ (y : Reading). is_pair_within window (x, y) in
    let all = leads_count (is_before from window.least) (is_before from (window.most +ℤ pos 1)) test (x ∷ xs)
    (fades from window.least (x ∷ xs) rise) (fades from (window.most +ℤ pos 1) (x ∷ xs) rise)
    (λ y early. before_both from window.least window.most y is_window.ordered early)
    (λ y. within_is window.least window.most (y.stamp.ticks -ℤ from)) in
    let here : ◌≡◌ {A = ℕ} (cond (test x) 1 0) 0 = ap (λ (b : Bool). cond b 1 0) (not_its_own window.least window.most from is_window.least) in
    let count = count_first test x xs in
    omega (arith, all, here, count)

counted_map : {A B : Type 0} (test : B → Bool) (f : A → B) (xs : List A) → count_by test (map f xs) ≡ count_by (λ x. test (f x)) xs
counted_map test f [] = refl
counted_map test f (x ∷ xs) =
    count_first test (f x) (map f xs) ∙ (ap (λ n. cond (test (f x)) 1 0 + n) (counted_map test f xs) ∙ sym (count_first (λ y. test (f y)) x xs))

counted_append : {A : Type 0} (test : A → Bool) (xs ys : List A) → count_by test (xs ++ ys) ≡ count_by test xs + count_by test ys
counted_append test xs ys = sum_by-append (λ y. cond (test y) 1 0) xs ys

-- the pairs of the first with each of the others, and those of the others
pub pairs_more : (window : Window) (x : Reading) (xs : List Reading)
    → count_by (is_pair_within window) (all_pairs (x ∷ xs)) ≡ count_by (λ (y : Reading). is_pair_within window (x, y)) xs + count_by (is_pair_within window) (all_pairs xs)
pairs_more window x xs =
    counted_append (is_pair_within window) (map (λ (y : Reading). (x, y)) xs) (all_pairs xs)
    ∙ ap (λ n. n + count_by (is_pair_within window) (all_pairs xs)) (counted_map (is_pair_within window) (λ (y : Reading). (x, y)) xs)

-- one reading more, in a count that stops
pub pairs_counted : (window : Window) (x : Reading) (xs : List Reading) (old new start end most n : ℕ) → IsWindow window → StampsRise (x ∷ xs)
    → start ≡ count_before x.stamp.ticks window.least (x ∷ xs) → end ≡ count_before x.stamp.ticks (window.most +ℤ pos 1) (x ∷ xs)
    → new ≡ min (old + (end - start)) most
    → min (old + count_by (is_pair_within window) (all_pairs (x ∷ xs))) most ≡ n
    → min (new + count_by (is_pair_within window) (all_pairs xs)) most ≡ n
pairs_counted window x xs old new start end most n is_window rise starts ends is so_far =
    let here = window_count window x xs is_window rise in
    let more = pairs_more window x xs in
    omega arith
