-- No two of all bounds share a name.
use Rattle.std.proofs.Common.{◌≡◌, ◌≢◌, ℕ, suc, ◌<◌, ◌≤◌, ℤ, pos, neg_ℤ, Bool, true, false, cond, List, [], ◌∷◌, ◌++◌, length, map, drop, Option, Some, None, refl, sym, ap, ◌∙◌, subst, arith}
use Rattle.std.specs.Prelude.{option_to_list}
use Rattle.std.specs.List.{AllByRecursion, flat_map}
use Rattle.std.proofs.lemmas.List.{map-append, map-id}
use Rattle.words.specs.Lists.{Distinct}
use Rattle.words.proofs.Lists.{all_append, all_from_map, all_map, all_weaker}
use Rattle.fix_point.specs.declared.scale.TheConstants.{MOST_UNITS}
use Rattle.screen_model.specs.declared.bound.Bound.{Bound}
use Rattle.screen_model.specs.declared.bound.BoundName.{BoundName}
use Rattle.screen_model.specs.declared.bound.Side.{Side}
use Rattle.screen_model.specs.declared.bound.Side.TheVariants.{Up, Down}
use Rattle.screen_model.specs.declared.place.Place.{Place}
use Rattle.rule_file.specs.Numbers.{Rule, speed, swing, drift, range, trust, weight, between, rules_in_order, sensor_names}
use Rattle.rule_file.specs.declared.rules.BetweenRule.{BetweenRule}
use Rattle.rule_file.specs.declared.rules.Rules.{Rules}
use Rattle.pair_bounds.specs.declared.stamp.Stamp.{Stamp}
use Rattle.pair_bounds.specs.Pairs.{between_bound, drift_bound, elapsed, is_within, place_in, swing_bound}
use Rattle.series_rows.specs.Row.{RowView}
use Rattle.series_csv.specs.File.{TableView}
use Rattle.series_csv.specs.Readings.{places}
use Rattle.bound_maker.specs.declared.reading.Reading.{Reading}
use Rattle.bound_maker.specs.Bounds.{Ruled, both_sides, bounds_in_rows, bounds_in_time, bounds_of_kind, bounds_of_pairs, bounds_of_rule, col_if_read, col_of, second_col_of, size_bounds, speed_bound, value_bounds, with_columns}
use Rattle.bound_maker.specs.Laws.{NamesAreDistinct}
use Rattle.bound_maker.specs.Named.{each_pair}
use Rattle.bound_maker.specs.Readings.{all_pairs, before_later, reading_in, readings_from, readings_of}
use Rattle.bound_maker.proofs.Named.{all_flat}

-- ---- lists that are joined

distinct_append : {A : Type 0} (xs ys : List A) → Distinct xs → Distinct ys → AllByRecursion (λ x. AllByRecursion (λ y. x ≢ y) ys) xs → Distinct (xs ++ ys)
distinct_append [] ys first second apart = second
distinct_append (x ∷ xs) ys first second apart = (all_append (λ y. x ≢ y) xs ys first.0 apart.0, distinct_append xs ys first.1 second apart.1)

-- what two elements have that are not the same
apart_by : {A K : Type 0} (key : A → K) (k : K) (xs ys : List A) → AllByRecursion (λ x. key x ≡ k) xs → AllByRecursion (λ y. k ≢ key y) ys → AllByRecursion (λ x. AllByRecursion (λ y. x ≢ y) ys) xs
apart_by key k [] ys these others = tt
apart_by key k (x ∷ xs) ys these others =
    (all_weaker (λ y. k ≢ key y) (λ y. x ≢ y) (λ y other same. other (sym these.0 ∙ ap key same)) ys others, apart_by key k xs ys these.1 others)

other_keys : {A B K : Type 0} (f : A → List B) (key : B → K) (k : A → K) (one : K) (xs : List A) → ((x : A) → AllByRecursion (λ y. key y ≡ k x) (f x)) → AllByRecursion (λ (j : K). one ≢ j) (map k xs)
    → AllByRecursion (λ y. one ≢ key y) (flat_map f xs)
other_keys f key k one [] each others = tt
other_keys f key k one (x ∷ xs) each others =
    all_append (λ y. one ≢ key y) (f x) (flat_map f xs)
    (all_weaker (λ y. key y ≡ k x) (λ y. one ≢ key y) (λ y is same. others.0 (same ∙ is)) (f x) (each x))
    (other_keys f key k one xs each others.1)

-- Groups are apart where their keys are.
grouped : {A B K : Type 0} (f : A → List B) (key : B → K) (k : A → K) (xs : List A) → ((x : A) → AllByRecursion (λ y. key y ≡ k x) (f x)) → ((x : A) → Distinct (f x)) → Distinct (map k xs) → Distinct (flat_map f xs)
grouped f key k [] each distinct keys = tt
grouped f key k (x ∷ xs) each distinct keys =
    distinct_append (f x) (flat_map f xs) (distinct x) (grouped f key k xs each distinct keys.1)
    (apart_by key (k x) (f x) (flat_map f xs) (each x) (other_keys f key k (k x) xs each keys.0))

-- ---- names of bounds

abbrev pub names : List Bound → List BoundName
names bounds = map (λ bound. bound.name) bounds

pub map_flat : {A B C : Type 0} (g : B → C) (f : A → List B) (xs : List A) → map g (flat_map f xs) ≡ flat_map (λ x. map g (f x)) xs
map_flat g f [] = refl
map_flat g f (x ∷ xs) = map-append g (f x) (flat_map f xs) ∙ ap (λ ys. map g (f x) ++ ys) (map_flat g f xs)

-- up and down have two names
up_is_down : Up ≡ Down → ⊥
up_is_down e = cc

two_sides : (t : Bool) (up down : Bound) → up.name.side ≡ Up → down.name.side ≡ Down → Distinct (names (option_to_list (cond t (Some up) None) ++ option_to_list (cond t (Some down) None)))
two_sides true up down is_up is_down = (((λ same. up_is_down (sym is_up ∙ (ap (λ (name : BoundName). name.side) same ∙ is_down))), tt), (tt, tt))
two_sides false up down is_up is_down = tt

-- ---- the pairs of readings

abbrev pub row_of : Reading → ℕ
row_of reading = reading.stamp.row

abbrev rows_of : Reading × Reading → ℕ × ℕ
rows_of pair = (pair.0.stamp.row, pair.1.stamp.row)

paired : (x : Reading) (ys : List Reading) → Distinct (map row_of ys) → Distinct (map rows_of (map (λ (y : Reading). (x, y)) ys))
paired x [] distinct = tt
paired x (y ∷ ys) distinct = (
  all_map (λ (k : ℕ × ℕ). (row_of x, row_of y) ≢ k) rows_of (map (λ (z : Reading). (x, z)) ys)
      (all_map (λ (pair : Reading × Reading). (row_of x, row_of y) ≢ rows_of pair) (λ (z : Reading). (x, z)) ys
      (all_weaker (λ (z : Reading). row_of y ≢ row_of z) (λ (z : Reading). (row_of x, row_of y) ≢ (row_of x, row_of z)) (λ z other same. other (ap (λ (k : ℕ × ℕ). k.1) same)) ys
      (all_from_map (λ (n : ℕ). row_of y ≢ n) row_of ys distinct.0))),
  paired x ys distinct.1,
)

-- a fact that does not speak of the elements
each_holds : {A : Type 0} (P : Type 0) → P → (xs : List A) → AllByRecursion (λ (x : A). P) xs
each_holds P p [] = tt
each_holds P p (x ∷ xs) = (p, each_holds P p xs)

-- the first of each pair is one of the readings
pub firsts : (P : Reading → Type 0) (xs : List Reading) → AllByRecursion P xs → AllByRecursion (λ (pair : Reading × Reading). P pair.0) (all_pairs xs)
firsts P [] all = tt
firsts P (x ∷ xs) all =
    all_append (λ (pair : Reading × Reading). P pair.0) (map (λ (y : Reading). (x, y)) xs) (all_pairs xs)
    (all_map (λ (pair : Reading × Reading). P pair.0) (λ (y : Reading). (x, y)) xs (each_holds (P x) all.0 xs))
    (firsts P xs all.1)

pairs_distinct : (xs : List Reading) → Distinct (map row_of xs) → Distinct (map rows_of (all_pairs xs))
pairs_distinct [] distinct = tt
pairs_distinct (x ∷ xs) distinct =
    subst (λ ks. Distinct ks) (sym (map-append rows_of (map (λ (y : Reading). (x, y)) xs) (all_pairs xs)))
    (distinct_append (map rows_of (map (λ (y : Reading). (x, y)) xs)) (map rows_of (all_pairs xs)) (paired x xs distinct.1) (pairs_distinct xs distinct.1)
    (apart_by (λ (k : ℕ × ℕ). k.0) (row_of x) (map rows_of (map (λ (y : Reading). (x, y)) xs)) (map rows_of (all_pairs xs))
    (all_map (λ (k : ℕ × ℕ). k.0 ≡ row_of x) rows_of (map (λ (y : Reading). (x, y)) xs)
    (all_map (λ (pair : Reading × Reading). row_of pair.0 ≡ row_of x) (λ (y : Reading). (x, y)) xs (each_holds (row_of x ≡ row_of x) refl xs)))
    (all_map (λ (k : ℕ × ℕ). row_of x ≢ k.0) rows_of (all_pairs xs)
    (firsts (λ (y : Reading). row_of x ≢ row_of y) xs (all_from_map (λ (n : ℕ). row_of x ≢ n) row_of xs distinct.0)))))

-- ---- the rows of the readings of a column

-- the readings stand in rows from this one on
stand_from : (number row_number : ℕ) (row : RowView) (o : Option ℤ) (later : List Reading) → number ≤ row_number → AllByRecursion (λ (y : Reading). number ≤ row_of y) later → AllByRecursion (λ (y : Reading). number ≤ row_of y) (before_later row_number row o later)
stand_from number row_number row (Some value) later here rest = (here, rest)
stand_from number row_number row None later here rest = rest

pub rows_from : (least number col : ℕ) (rows : List RowView) → least ≤ number → AllByRecursion (λ (y : Reading). least ≤ row_of y) (readings_from number col rows)
rows_from least number col [] h = tt
rows_from least number col (row ∷ rows) h =
    stand_from least number row (reading_in col row) (readings_from (suc number) col rows) h (rows_from least (suc number) col rows (omega (arith, h)))

row_step : (number : ℕ) (row : RowView) (o : Option ℤ) (later : List Reading) → AllByRecursion (λ (y : Reading). suc number ≤ row_of y) later → Distinct (map row_of later) → Distinct (map row_of (before_later number row o later))
row_step number row (Some value) later above distinct =
    (all_map (λ (n : ℕ). number ≢ n) row_of later (all_weaker (λ (y : Reading). suc number ≤ row_of y) (λ (y : Reading). number ≢ row_of y) (λ y high same. absurd (omega (arith, high, same))) later above), distinct)
row_step number row None later above distinct = distinct

pub rows_distinct : (number col : ℕ) (rows : List RowView) → Distinct (map row_of (readings_from number col rows))
rows_distinct number col [] = tt
rows_distinct number col (row ∷ rows) =
    row_step number row (reading_in col row) (readings_from (suc number) col rows) (rows_from (suc number) (suc number) col rows (omega arith)) (rows_distinct (suc number) col rows)

-- ---- bounds of pairs

pairs_names : (bound : Stamp → Stamp → Side → Option Bound) (pairs : List (Reading × Reading))
    → ((pair : Reading × Reading) → AllByRecursion (λ (name : BoundName). (name.from_row, name.to_row) ≡ rows_of pair) (names (both_sides (bound pair.0.stamp pair.1.stamp))))
    → ((pair : Reading × Reading) → Distinct (names (both_sides (bound pair.0.stamp pair.1.stamp))))
    → Distinct (map rows_of pairs) → Distinct (names (bounds_of_pairs bound pairs))
pairs_names bound pairs each apart rows =
    subst (λ ns. Distinct ns) (sym (map_flat (λ (b : Bound). b.name) (λ (pair : Reading × Reading). both_sides (bound pair.0.stamp pair.1.stamp)) pairs))
    (grouped (λ (pair : Reading × Reading). names (both_sides (bound pair.0.stamp pair.1.stamp))) (λ (name : BoundName). (name.from_row, name.to_row)) rows_of pairs each apart rows)

-- what holds of the names of both
pub two_named : (P : BoundName → Type 0) (t : Bool) (up down : Bound) → P up.name → P down.name → AllByRecursion P (names (option_to_list (cond t (Some up) None) ++ option_to_list (cond t (Some down) None)))
two_named P true up down first second = (first, (second, tt))
two_named P false up down first second = tt

-- ---- bounds of one reading

pub value_named : (P : BoundName → Type 0) (t : Bool) (up down : Bound) → P up.name → P down.name → AllByRecursion P (names (cond t (up ∷ down ∷ []) []))
value_named P true up down first second = (first, (second, tt))
value_named P false up down first second = tt

value_sides : (t : Bool) (up down : Bound) → up.name.side ≡ Up → down.name.side ≡ Down → Distinct (names (cond t (up ∷ down ∷ []) []))
value_sides true up down is_up is_down = (((λ same. up_is_down (sym is_up ∙ (ap (λ (name : BoundName). name.side) same ∙ is_down))), tt), (tt, tt))
value_sides false up down is_up is_down = tt

values_names : (number col : ℕ) (from to : ℤ) (least most : ℤ → ℤ) (readings : List Reading) → Distinct (map row_of readings) → Distinct (names (bounds_in_time number col from to least most readings))
values_names number col from to least most readings rows =
    let f = λ (reading : Reading). cond (is_within from to reading.stamp.ticks) (value_bounds number (place_in col reading.stamp) (least reading.value) (most reading.value)) [] in
    subst (λ ns. Distinct ns) (sym (map_flat (λ (b : Bound). b.name) f readings))
    (grouped (λ (reading : Reading). names (f reading)) (λ (name : BoundName). name.from_row) row_of readings
    (λ reading. value_named (λ (name : BoundName). name.from_row ≡ row_of reading) (is_within from to reading.stamp.ticks) _ _ refl refl)
    (λ reading. value_sides (is_within from to reading.stamp.ticks) _ _ refl refl) rows)

-- ---- bounds in a row

between_row : (number n : ℕ) (rule : BetweenRule) (o q : Option ℕ) → AllByRecursion (λ (name : BoundName). name.from_row ≡ n) (names (both_sides (between_bound number rule n o q)))
between_row number n rule (Some p) (Some q) = (refl, (refl, tt))
between_row number n rule (Some p) None = tt
between_row number n rule None q = tt

between_rule : (number n : ℕ) (rule : BetweenRule) (o q : Option ℕ) → AllByRecursion (λ (name : BoundName). name.rule ≡ number) (names (both_sides (between_bound number rule n o q)))
between_rule number n rule (Some p) (Some q) = (refl, (refl, tt))
between_rule number n rule (Some p) None = tt
between_rule number n rule None q = tt

between_sides : (number n : ℕ) (rule : BetweenRule) (o q : Option ℕ) → Distinct (names (both_sides (between_bound number rule n o q)))
between_sides number n rule (Some p) (Some q) = (((λ same. up_is_down (ap (λ (name : BoundName). name.side) same)), tt), (tt, tt))
between_sides number n rule (Some p) None = tt
between_sides number n rule None q = tt

-- the bounds of later rows bear later rows
rows_later : (number least n first second : ℕ) (rule : BetweenRule) (rows : List RowView) → least < n → AllByRecursion (λ (name : BoundName). least ≢ name.from_row) (names (bounds_in_rows (between_bound number rule) first second n rows))
rows_later number least n first second rule [] h = tt
rows_later number least n first second rule (row ∷ rows) h =
    let here = both_sides (between_bound number rule n (col_if_read first row) (col_if_read second row)) in
    let later = bounds_in_rows (between_bound number rule) first second (suc n) rows in
    subst (λ ns. AllByRecursion (λ (name : BoundName). least ≢ name.from_row) ns) (sym (map-append (λ (b : Bound). b.name) here later))
    (all_append (λ (name : BoundName). least ≢ name.from_row) (names here) (names later)
    (all_weaker (λ (name : BoundName). name.from_row ≡ n) (λ (name : BoundName). least ≢ name.from_row) (λ name is same. absurd (omega (arith, h, is, same))) (names here) (between_row number n rule (col_if_read first row) (col_if_read second row)))
    (rows_later number least (suc n) first second rule rows (omega (arith, h))))

rows_names : (number n first second : ℕ) (rule : BetweenRule) (rows : List RowView) → Distinct (names (bounds_in_rows (between_bound number rule) first second n rows))
rows_names number n first second rule [] = tt
rows_names number n first second rule (row ∷ rows) =
    let here = both_sides (between_bound number rule n (col_if_read first row) (col_if_read second row)) in
    let later = bounds_in_rows (between_bound number rule) first second (suc n) rows in
    let above : n < suc n = omega arith in
    subst (λ ns. Distinct ns) (sym (map-append (λ (b : Bound). b.name) here later))
    (distinct_append (names here) (names later) (between_sides number n rule (col_if_read first row) (col_if_read second row)) (rows_names number (suc n) first second rule rows)
    (apart_by (λ (name : BoundName). name.from_row) n (names here) (names later) (between_row number n rule (col_if_read first row) (col_if_read second row)) (rows_later number n (suc n) first second rule rows above)))

rows_rule : (number n first second : ℕ) (rule : BetweenRule) (rows : List RowView) → AllByRecursion (λ (name : BoundName). name.rule ≡ number) (names (bounds_in_rows (between_bound number rule) first second n rows))
rows_rule number n first second rule [] = tt
rows_rule number n first second rule (row ∷ rows) =
    let here = both_sides (between_bound number rule n (col_if_read first row) (col_if_read second row)) in
    let later = bounds_in_rows (between_bound number rule) first second (suc n) rows in
    subst (λ ns. AllByRecursion (λ (name : BoundName). name.rule ≡ number) ns) (sym (map-append (λ (b : Bound). b.name) here later))
    (all_append (λ (name : BoundName). name.rule ≡ number) (names here) (names later) (between_rule number n rule (col_if_read first row) (col_if_read second row)) (rows_rule number (suc n) first second rule rows))

-- ---- one rule

pairs_rule : (number : ℕ) (bound : Stamp → Stamp → Side → Option Bound) (pairs : List (Reading × Reading))
    → ((pair : Reading × Reading) → AllByRecursion (λ (name : BoundName). name.rule ≡ number) (names (both_sides (bound pair.0.stamp pair.1.stamp))))
    → AllByRecursion (λ (name : BoundName). name.rule ≡ number) (names (bounds_of_pairs bound pairs))
pairs_rule number bound pairs each =
    subst (λ ns. AllByRecursion (λ (name : BoundName). name.rule ≡ number) ns) (sym (map_flat (λ (b : Bound). b.name) (λ (pair : Reading × Reading). both_sides (bound pair.0.stamp pair.1.stamp)) pairs))
    (all_flat (λ (name : BoundName). name.rule ≡ number) (λ (pair : Reading × Reading). names (both_sides (bound pair.0.stamp pair.1.stamp))) pairs each)

values_rule : (number col : ℕ) (from to : ℤ) (least most : ℤ → ℤ) (readings : List Reading) → AllByRecursion (λ (name : BoundName). name.rule ≡ number) (names (bounds_in_time number col from to least most readings))
values_rule number col from to least most readings =
    let f = λ (reading : Reading). cond (is_within from to reading.stamp.ticks) (value_bounds number (place_in col reading.stamp) (least reading.value) (most reading.value)) [] in
    subst (λ ns. AllByRecursion (λ (name : BoundName). name.rule ≡ number) ns) (sym (map_flat (λ (b : Bound). b.name) f readings))
    (all_flat (λ (name : BoundName). name.rule ≡ number) (λ (reading : Reading). names (f reading)) readings
    (λ reading. value_named (λ (name : BoundName). name.rule ≡ number) (is_within from to reading.stamp.ticks) _ _ refl refl))

pub kind_rule : (d : ℕ) (rows : List RowView) (number col second : ℕ) (rule : Rule) → AllByRecursion (λ (name : BoundName). name.rule ≡ number) (names (bounds_of_kind each_pair d rows number col second rule))
kind_rule d rows number col second (speed rule) =
    pairs_rule number (speed_bound number rule d col) (all_pairs (readings_of col rows)) (λ pair. two_named (λ (name : BoundName). name.rule ≡ number) (is_within (pos 1) rule.window (elapsed pair.0.stamp pair.1.stamp)) _ _ refl refl)
kind_rule d rows number col second (swing rule) =
    pairs_rule number (swing_bound number rule col) (all_pairs (readings_of col rows)) (λ pair. two_named (λ (name : BoundName). name.rule ≡ number) (is_within (pos 1) rule.window (elapsed pair.0.stamp pair.1.stamp)) _ _ refl refl)
kind_rule d rows number col second (drift rule) =
    pairs_rule number (drift_bound number rule d col) (all_pairs (readings_of col rows)) (λ pair. two_named (λ (name : BoundName). name.rule ≡ number) (is_within rule.over rule.window (elapsed pair.0.stamp pair.1.stamp)) _ _ refl refl)
kind_rule d rows number col second (range rule) = values_rule number col rule.from rule.to (λ value. rule.min) (λ value. rule.max) (readings_of col rows)
kind_rule d rows number col second (trust rule) = values_rule number col rule.from rule.to (λ value. value) (λ value. value) (readings_of col rows)
kind_rule d rows number col second (weight rule) = tt
kind_rule d rows number col second (between rule) = rows_rule number 1 col second rule rows

kind_distinct : (d : ℕ) (rows : List RowView) (number col second : ℕ) (rule : Rule) → Distinct (names (bounds_of_kind each_pair d rows number col second rule))
kind_distinct d rows number col second (speed rule) =
    pairs_names (speed_bound number rule d col) (all_pairs (readings_of col rows))
    (λ pair. two_named (λ (name : BoundName). (name.from_row, name.to_row) ≡ rows_of pair) (is_within (pos 1) rule.window (elapsed pair.0.stamp pair.1.stamp)) _ _ refl refl)
    (λ pair. two_sides (is_within (pos 1) rule.window (elapsed pair.0.stamp pair.1.stamp)) _ _ refl refl)
    (pairs_distinct (readings_of col rows) (rows_distinct 1 col rows))
kind_distinct d rows number col second (swing rule) =
    pairs_names (swing_bound number rule col) (all_pairs (readings_of col rows))
    (λ pair. two_named (λ (name : BoundName). (name.from_row, name.to_row) ≡ rows_of pair) (is_within (pos 1) rule.window (elapsed pair.0.stamp pair.1.stamp)) _ _ refl refl)
    (λ pair. two_sides (is_within (pos 1) rule.window (elapsed pair.0.stamp pair.1.stamp)) _ _ refl refl)
    (pairs_distinct (readings_of col rows) (rows_distinct 1 col rows))
kind_distinct d rows number col second (drift rule) =
    pairs_names (drift_bound number rule d col) (all_pairs (readings_of col rows))
    (λ pair. two_named (λ (name : BoundName). (name.from_row, name.to_row) ≡ rows_of pair) (is_within rule.over rule.window (elapsed pair.0.stamp pair.1.stamp)) _ _ refl refl)
    (λ pair. two_sides (is_within rule.over rule.window (elapsed pair.0.stamp pair.1.stamp)) _ _ refl refl)
    (pairs_distinct (readings_of col rows) (rows_distinct 1 col rows))
kind_distinct d rows number col second (range rule) = values_names number col rule.from rule.to (λ value. rule.min) (λ value. rule.max) (readings_of col rows) (rows_distinct 1 col rows)
kind_distinct d rows number col second (trust rule) = values_names number col rule.from rule.to (λ value. value) (λ value. value) (readings_of col rows) (rows_distinct 1 col rows)
kind_distinct d rows number col second (weight rule) = tt
kind_distinct d rows number col second (between rule) = rows_names number 1 col second rule rows

-- ---- all rules

pub numbers_from : (least n : ℕ) (rules : List Rule) (cols : List ℕ) → least ≤ n → AllByRecursion (λ (r : Ruled). least ≤ r.number) (with_columns n rules cols)
numbers_from least n [] cols h = tt
numbers_from least n (rule ∷ rules) cols h = (h, numbers_from least (suc n) rules (drop (length (sensor_names rule)) cols) (omega (arith, h)))

numbers_distinct : (n : ℕ) (rules : List Rule) (cols : List ℕ) → Distinct (map (λ (r : Ruled). r.number) (with_columns n rules cols))
numbers_distinct n [] cols = tt
numbers_distinct n (rule ∷ rules) cols =
    let later = with_columns (suc n) rules (drop (length (sensor_names rule)) cols) in (
      all_map (λ (m : ℕ). n ≢ m) (λ (r : Ruled). r.number) later
          (all_weaker (λ (r : Ruled). suc n ≤ r.number) (λ (r : Ruled). n ≢ r.number) (λ r high same. absurd (omega (arith, high, same))) later (numbers_from (suc n) (suc n) rules (drop (length (sensor_names rule)) cols) (omega arith))),
      numbers_distinct (suc n) rules (drop (length (sensor_names rule)) cols),
    )

sizes_distinct : (ps : List Place) → Distinct ps → Distinct (names (size_bounds ps))
sizes_distinct ps distinct =
    let f = λ (place : Place). value_bounds 0 place (neg_ℤ MOST_UNITS) MOST_UNITS in
    subst (λ ns. Distinct ns) (sym (map_flat (λ (b : Bound). b.name) f ps))
    (grouped (λ (place : Place). names (f place)) (λ (name : BoundName). record { row = name.from_row; col = name.col }) (λ (place : Place). place) ps
    (λ place. (refl, (refl, tt)))
    (λ place. (((λ same. up_is_down (ap (λ (name : BoundName). name.side) same)), tt), (tt, tt)))
    (subst (λ (qs : List Place). Distinct qs) (sym (map-id ps)) distinct))

pub sizes_rule : (ps : List Place) → AllByRecursion (λ (name : BoundName). name.rule ≡ 0) (names (size_bounds ps))
sizes_rule [] = tt
sizes_rule (place ∷ ps) = (refl, (refl, sizes_rule ps))

pub all_names_distinct : (rules : Rules) (table : TableView) → Distinct (places table) → NamesAreDistinct rules table
all_names_distinct rules table distinct =
    let ruled = with_columns 1 (rules_in_order rules) table.header.sensor_cols in
    let d = rules.format.decimals in
    let f = λ (r : Ruled). names (bounds_of_rule each_pair d table.rows r) in
    let sizes = size_bounds (places table) in
    let others = flat_map (bounds_of_rule each_pair d table.rows) ruled in
    let flat : names others ≡ flat_map f ruled = map_flat (λ (b : Bound). b.name) (bounds_of_rule each_pair d table.rows) ruled in
    let each = λ (r : Ruled). kind_rule d table.rows r.number (col_of r) (second_col_of r) r.rule in
    let some : AllByRecursion (λ (m : ℕ). 0 ≢ m) (map (λ (r : Ruled). r.number) ruled) =
    all_map (λ (m : ℕ). 0 ≢ m) (λ (r : Ruled). r.number) ruled
    (all_weaker (λ (r : Ruled). 1 ≤ r.number) (λ (r : Ruled). 0 ≢ r.number) (λ r high same. absurd (omega (arith, high, same))) ruled (numbers_from 1 1 (rules_in_order rules) table.header.sensor_cols (omega arith))) in
    subst (λ ns. Distinct ns) (sym (map-append (λ (b : Bound). b.name) sizes others))
    (distinct_append (names sizes) (names others) (sizes_distinct (places table) distinct)
    (subst (λ ns. Distinct ns) (sym flat)
    (grouped f (λ (name : BoundName). name.rule) (λ (r : Ruled). r.number) ruled each (λ r. kind_distinct d table.rows r.number (col_of r) (second_col_of r) r.rule) (numbers_distinct 1 (rules_in_order rules) table.header.sensor_cols)))
    (apart_by (λ (name : BoundName). name.rule) 0 (names sizes) (names others) (sizes_rule (places table))
    (subst (λ ns. AllByRecursion (λ (name : BoundName). 0 ≢ name.rule) ns) (sym flat)
    (other_keys f (λ (name : BoundName). name.rule) (λ (r : Ruled). r.number) 0 ruled each some))))
