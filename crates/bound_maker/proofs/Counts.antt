-- How many bounds a rule makes: two for each reading, pair of readings or row of which it speaks.
use Rattle.std.proofs.Common.{◌≡◌, ℕ, suc, ◌+◌, ◌*◌, ℤ, Bool, true, false, cond, ◌&&◌, min, List, [], ◌∷◌, ◌++◌, length, Option, Some, None, refl, ap, ◌∙◌, arith}
use Rattle.std.specs.Prelude.{is_some, option_to_list}
use Rattle.std.specs.List.{count_by, flat_map}
use Rattle.std.proofs.lemmas.Bool.{false≢true}
use Rattle.std.proofs.lemmas.List.{length-append}
use Rattle.std.proofs.lemmas.List.Sums.{sum_by-cons}
use Rattle.screen_model.specs.declared.bound.Bound.{Bound}
use Rattle.screen_model.specs.declared.bound.Side.{Side}
use Rattle.screen_model.specs.declared.bound.Side.TheVariants.{Up, Down}
use Rattle.screen_model.specs.declared.place.Place.{Place}
use Rattle.rule_file.specs.Numbers.{Rule}
use Rattle.rule_file.specs.declared.rules.BetweenRule.{BetweenRule}
use Rattle.pair_bounds.specs.Pairs.{between_bound, is_within, place_in}
use Rattle.series_rows.specs.Row.{RowView}
use Rattle.bound_maker.specs.declared.reading.Reading.{Reading}
use Rattle.bound_maker.specs.declared.window.Window.{Window}
use Rattle.bound_maker.specs.Bounds.{both_sides, bounds_in_rows, bounds_in_time, bounds_of_pairs, col_if_read, size_bounds, value_bounds}
use Rattle.bound_maker.specs.Pairs.{pair_bound}
use Rattle.bound_maker.specs.Readings.{reading_in}
use Rattle.bound_maker.specs.Windows.{HasWindow, SpeaksOfNone, is_pair_within}

-- the count of the first and of the others
pub count_first : {A : Type 0} (test : A → Bool) (x : A) (xs : List A) → count_by test (x ∷ xs) ≡ cond (test x) 1 0 + count_by test xs
count_first test x xs = sum_by-cons (λ y. cond (test y) 1 0) x xs

-- two for each that passes a test
pub two_each : {A B : Type 0} (f : A → List B) (test : A → Bool) → ((x : A) → length (f x) ≡ 2 * cond (test x) 1 0) → (xs : List A) → length (flat_map f xs) ≡ 2 * count_by test xs
two_each f test each [] = refl
two_each f test each (x ∷ xs) =
    let here = each x in
    let rest = two_each f test each xs in
    let long = length-append (f x) (flat_map f xs) in
    let count = count_first test x xs in
    omega arith

none_each : {A B : Type 0} (f : A → List B) → ((x : A) → f x ≡ []) → (xs : List A) → flat_map f xs ≡ []
none_each f each [] = refl
none_each f each (x ∷ xs) = ap (λ ys. ys ++ flat_map f xs) (each x) ∙ none_each f each xs

-- ---- readings

two_if : {B : Type 0} (b : Bool) (xs : List B) → length xs ≡ 2 → length (cond b xs []) ≡ 2 * cond b 1 0
two_if true xs h = h
two_if false xs h = refl

pub values_count : (number col : ℕ) (from to : ℤ) (least most : ℤ → ℤ) (readings : List Reading)
    → length (bounds_in_time number col from to least most readings) ≡ 2 * count_by (λ (reading : Reading). is_within from to reading.stamp.ticks) readings
values_count number col from to least most readings =
    two_each (λ (reading : Reading). cond (is_within from to reading.stamp.ticks) (value_bounds number (place_in col reading.stamp) (least reading.value) (most reading.value)) [])
    (λ (reading : Reading). is_within from to reading.stamp.ticks)
    (λ reading. two_if (is_within from to reading.stamp.ticks) (value_bounds number (place_in col reading.stamp) (least reading.value) (most reading.value)) refl)
    readings

pub sizes_count : (places : List Place) → length (size_bounds places) ≡ 2 * length places
sizes_count [] = refl
sizes_count (place ∷ places) = let rest = sizes_count places in omega arith

-- ---- pairs of readings

some_is_one : {A : Type 0} (o : Option A) → is_some o ≡ true → length (option_to_list o) ≡ 1
some_is_one (Some x) h = refl
some_is_one None h = absurd (false≢true h)

pair_step : (bound : Side → Option Bound) (b : Bool) → (b ≡ false → (side : Side) → bound side ≡ None) → (b ≡ true → (side : Side) → is_some (bound side) ≡ true) → length (both_sides bound) ≡ 2 * cond b 1 0
pair_step bound true out within =
    let up = some_is_one (bound Up) (within refl Up) in
    let down = some_is_one (bound Down) (within refl Down) in
    let long = length-append (option_to_list (bound Up)) (option_to_list (bound Down)) in
    omega arith
pair_step bound false out within =
    ap (λ o. length (option_to_list o ++ option_to_list (bound Down))) (out refl Up) ∙ ap (λ o. length (option_to_list o)) (out refl Down)

pub pairs_count : (number d col : ℕ) (rule : Rule) (window : Window) (pairs : List (Reading × Reading)) → HasWindow rule window
    → length (bounds_of_pairs (pair_bound number rule d col) pairs) ≡ 2 * count_by (is_pair_within window) pairs
pairs_count number d col rule window pairs has =
    two_each (λ (pair : Reading × Reading). both_sides (pair_bound number rule d col pair.0.stamp pair.1.stamp)) (is_pair_within window)
    (λ pair. pair_step (pair_bound number rule d col pair.0.stamp pair.1.stamp) (is_pair_within window pair) (λ out side. has.within number d col pair.0.stamp pair.1.stamp side out) (λ in_it side. has.all number d col pair.0.stamp pair.1.stamp side in_it))
    pairs

pub no_sides : (bound : Side → Option Bound) → ((side : Side) → bound side ≡ None) → both_sides bound ≡ []
no_sides bound none = ap (λ o. option_to_list o ++ option_to_list (bound Down)) (none Up) ∙ ap (λ o. option_to_list o) (none Down)

pub no_pairs : (number d col : ℕ) (rule : Rule) (pairs : List (Reading × Reading)) → SpeaksOfNone rule → bounds_of_pairs (pair_bound number rule d col) pairs ≡ []
no_pairs number d col rule pairs none =
    none_each (λ (pair : Reading × Reading). both_sides (pair_bound number rule d col pair.0.stamp pair.1.stamp))
    (λ pair. no_sides (pair_bound number rule d col pair.0.stamp pair.1.stamp) (λ side. none number d col pair.0.stamp pair.1.stamp side)) pairs

-- ---- rows

row_step : (number n p q : ℕ) (rule : BetweenRule) (a b : Bool) → length (both_sides (between_bound number rule n (cond a (Some p) None) (cond b (Some q) None))) ≡ 2 * cond (a && b) 1 0
row_step number n p q rule true true = refl
row_step number n p q rule true false = refl
row_step number n p q rule false b = refl

pub rows_count : (number n first second : ℕ) (rule : BetweenRule) (rows : List RowView)
    → length (bounds_in_rows (between_bound number rule) first second n rows) ≡ 2 * count_by (λ (row : RowView). is_some (reading_in first row) && is_some (reading_in second row)) rows
rows_count number n first second rule [] = refl
rows_count number n first second rule (row ∷ rows) =
    let here = row_step number n first second rule (is_some (reading_in first row)) (is_some (reading_in second row)) in
    let rest = rows_count number (suc n) first second rule rows in
    let long = length-append (both_sides (between_bound number rule n (col_if_read first row) (col_if_read second row))) (bounds_in_rows (between_bound number rule) first second (suc n) rows) in
    let count = count_first (λ (row : RowView). is_some (reading_in first row) && is_some (reading_in second row)) row rows in
    omega arith

-- ---- counts that stop

-- two for each that is counted, and no more than is counted
pub capped_two : (n m long most : ℕ) → long ≡ 2 * n → m ≡ min n most → min (2 * m) most ≡ min long most
capped_two n m long most is capped = omega arith

pub capped_sum : (a b c n most : ℕ) → a ≡ min n most → c ≡ min (a + b) most → c ≡ min (n + b) most
capped_sum a b c n most is sum = omega arith
