-- The names of all bounds go up, and can be written.
use Rattle.std.proofs.Common.{◌≡◌, ℕ, suc, ◌+◌, ◌<◌, ◌≤◌, ℤ, Bool, true, false, cond, inl, inr, List, [], ◌∷◌, length, map, drop, Option, Some, None, refl, sym, ap, ◌∙◌, subst, arith}
use Rattle.std.specs.Prelude.{◌==◌, is_some, option_map}
use Rattle.std.specs.List.{AllByRecursion, find, flat_map}
use Rattle.std.proofs.lemmas.Bool.{eqb-true}
use Rattle.std.proofs.lemmas.List.{map-append}
use Rattle.words.proofs.Lists.{all_append, all_map, all_weaker}
use Rattle.screen_model.specs.declared.bound.Bound.{Bound}
use Rattle.screen_model.specs.declared.bound.BoundName.{BoundName}
use Rattle.screen_model.specs.declared.bound.Side.{Side}
use Rattle.screen_model.specs.declared.limits.TheConstants.{MOST_ROWS, MOST_COLUMNS}
use Rattle.screen_model.specs.declared.place.Place.{Place}
use Rattle.rule_file.specs.Numbers.{Rule, speed, swing, drift, range, trust, weight, between, rules_in_order, sensor_names}
use Rattle.rule_file.specs.declared.rules.BetweenRule.{BetweenRule}
use Rattle.rule_file.specs.declared.rules.Rules.{Rules}
use Rattle.pair_bounds.specs.Pairs.{between_bound, is_within, limit_on, place_in}
use Rattle.series_rows.specs.Row.{RowView, columns, Rise}
use Rattle.series_rows.specs.declared.cell.RowReading.{RowReading}
use Rattle.series_csv.specs.File.{TableView}
use Rattle.series_csv.specs.Readings.{places, places_from, places_in, AreInOrder, IsBefore}
use Rattle.bound_maker.specs.declared.reading.Reading.{Reading}
use Rattle.bound_maker.specs.Bounds.{Ruled, all_bounds, both_sides, bounds_in_rows, bounds_in_time, bounds_of_kind, bounds_of_pairs, bounds_of_rule, col_if_read, col_of, second_col_of, size_bounds, value_bound, value_bounds, with_columns}
use Rattle.bound_maker.specs.Named.{each_pair}
use Rattle.bound_maker.specs.Pairs.{pair_bound}
use Rattle.bound_maker.specs.Readings.{all_pairs, before_later, reading_in, readings_from, readings_of, value_in}
use Rattle.bound_maker.specs.Written.{CanBeWritten, HasWritableColumns, IsWritableColumn, IsWritableName, IsWritablePlace, IsWritableRow}
use Rattle.bound_maker.proofs.Among.{numbers_below}
use Rattle.bound_maker.proofs.Ascending.{AreBelow, AreNamedSo, Ascends, HasParts, IsLess, RowsBefore, all_below, ascends_append, ascends_flat, cols_below, rises_from, rows_below, rules_below, sides_ascend, sides_named, sides_parts}
use Rattle.bound_maker.proofs.Chains.{joined}
use Rattle.bound_maker.proofs.Distinct.{firsts, kind_rule, map_flat, names, numbers_from, row_of, rows_from, sizes_rule}
use Rattle.bound_maker.proofs.Finding.{named_so, of_pair, seconds, value_named}
use Rattle.bound_maker.proofs.Lookups.{row_named, size_name, size_on}
use Rattle.bound_maker.proofs.Making.{rules_few}

none_is_some : {A : Type 0} (x : A) → ◌≡◌ {A = Option A} None (Some x) → ⊥
none_is_some x e = cc

some_same : {A : Type 0} {x y : A} → ◌≡◌ {A = Option A} (Some x) (Some y) → x ≡ y
some_same e = cc

each_of : {A : Type 0} {P : A → Type 0} → ((x : A) → P x) → (xs : List A) → AllByRecursion P xs
each_of each [] = tt
each_of each (x ∷ xs) = (each x, each_of each xs)

flat_all : {A B : Type 0} (P : B → Type 0) (f : A → List B) (xs : List A) → AllByRecursion (λ x. AllByRecursion P (f x)) xs → AllByRecursion P (flat_map f xs)
flat_all P f [] all = tt
flat_all P f (x ∷ xs) all = all_append P (f x) (flat_map f xs) all.0 (flat_all P f xs all.1)

-- ---- readings

abbrev pub IsEarlierRow : Reading → Reading → Type 0
IsEarlierRow a b = row_of a < row_of b

ascend_step : (n : ℕ) (row : RowView) (o : Option ℤ) (later : List Reading) → AllByRecursion (λ (y : Reading). suc n ≤ row_of y) later → Ascends IsEarlierRow later → Ascends IsEarlierRow (before_later n row o later)
ascend_step n row (Some value) later above rise = (all_weaker (λ (y : Reading). suc n ≤ row_of y) (λ (y : Reading). n < row_of y) (λ y h. omega (arith, h)) later above, rise)
ascend_step n row None later above rise = rise

readings_ascend : (n col : ℕ) (rows : List RowView) → Ascends IsEarlierRow (readings_from n col rows)
readings_ascend n col [] = tt
readings_ascend n col (row ∷ rows) =
    ascend_step n row (reading_in col row) (readings_from (suc n) col rows) (rows_from (suc n) (suc n) col rows (omega arith)) (readings_ascend (suc n) col rows)

-- a reading of a column that can be written
pub record IsWritable (col : ℕ) (reading : Reading) : Type 0 where
  pub row : IsWritableRow (row_of reading)
  pub col_is : IsWritableColumn col

col_step : (t : Bool) (r : RowReading) (col : ℕ) (rest : Option RowReading) (value : ℤ) → (r.col == col) ≡ t → IsWritableColumn r.col → (option_map (λ (x : RowReading). x.value) rest ≡ Some value → IsWritableColumn col)
    → option_map (λ (x : RowReading). x.value) (cond t (Some r) rest) ≡ Some value → IsWritableColumn col
col_step true r col rest value test here later is = subst (λ (c : ℕ). IsWritableColumn c) (eqb-true r.col col test) here
col_step false r col rest value test here later is = later is

col_of_value : (col : ℕ) (readings : List RowReading) (value : ℤ) → AllByRecursion (λ (reading : RowReading). IsWritableColumn reading.col) readings → value_in col readings ≡ Some value → IsWritableColumn col
col_of_value col [] value all is = absurd (none_is_some value is)
col_of_value col (r ∷ readings) value all is =
    col_step (r.col == col) r col (find (λ (x : RowReading). x.col == col) readings) value refl all.0 (λ found. col_of_value col readings value all.1 found) is

writable_step : (n col : ℕ) (row : RowView) (o : Option ℤ) (later : List Reading) → IsWritableRow n → ((value : ℤ) → o ≡ Some value → IsWritableColumn col) → AllByRecursion (IsWritable col) later → AllByRecursion (IsWritable col) (before_later n row o later)
writable_step n col row (Some value) later here col_is rest = (record { row = here; col_is = col_is value refl }, rest)
writable_step n col row None later here col_is rest = rest

readings_writable : (n col : ℕ) (rows : List RowView) → 1 ≤ n → n + length rows ≤ MOST_ROWS + 1 → AllByRecursion HasWritableColumns rows → AllByRecursion (IsWritable col) (readings_from n col rows)
readings_writable n col [] some few all = tt
readings_writable n col (row ∷ rows) some few all =
    writable_step n col row (reading_in col row) (readings_from (suc n) col rows) (some, omega (arith, few)) (λ value is. col_of_value col row.readings value all.0 is)
    (readings_writable (suc n) col rows (omega (arith, some)) (omega (arith, few)) all.1)

-- ---- names

writable : (number from to col : ℕ) (side : Side) (name : BoundName) → number ≤ 1000 → IsWritableRow from → IsWritableRow to → IsWritableColumn col → name ≡ named_so number from to col side → IsWritableName name
writable number from to col side name few from_is to_is col_is is =
    subst (λ (n : BoundName). IsWritableName n) (sym is) (record { rule = few; from = from_is; to = to_is; col = col_is })

-- ---- pairs of readings

abbrev PairBefore : Reading × Reading → Reading × Reading → Type 0
PairBefore p q = RowsBefore (row_of p.0) (row_of p.1) (row_of q.0) (row_of q.1)

abbrev paired : Reading → Reading → Reading × Reading
paired x y = (x, y)

with_each : (x : Reading) (ys : List Reading) → Ascends IsEarlierRow ys → Ascends PairBefore (map (paired x) ys)
with_each x [] rise = tt
with_each x (y ∷ ys) rise =
    (all_map (PairBefore (paired x y)) (paired x) ys (all_weaker (IsEarlierRow y) (λ (z : Reading). PairBefore (paired x y) (paired x z)) (λ z less. inr (refl, less)) ys rise.0), with_each x ys rise.1)

first_is : (x : Reading) (ys : List Reading) → AllByRecursion (λ (p : Reading × Reading). row_of p.0 ≡ row_of x) (map (paired x) ys)
first_is x ys = all_map (λ (p : Reading × Reading). row_of p.0 ≡ row_of x) (paired x) ys (each_of (λ y. refl) ys)

first_less : (x : Reading) (p q : Reading × Reading) → row_of p.0 ≡ row_of x → row_of x < row_of q.0 → PairBefore p q
first_less x p q is less = inl (omega (arith, is, less))

pairs_ascend : (xs : List Reading) → Ascends IsEarlierRow xs → Ascends PairBefore (all_pairs xs)
pairs_ascend [] rise = tt
pairs_ascend (x ∷ xs) rise =
    ascends_append PairBefore (map (paired x) xs) (all_pairs xs) (with_each x xs rise.1) (pairs_ascend xs rise.1)
    (all_below (λ (p : Reading × Reading). row_of p.0 ≡ row_of x) (λ (q : Reading × Reading). row_of x < row_of q.0) PairBefore (first_less x) (map (paired x) xs) (all_pairs xs)
    (first_is x xs) (firsts (λ (y : Reading). row_of x < row_of y) xs rise.0))

module _ (number d col : ℕ) (rule : Rule) (readings : List Reading) where
  abbrev pair_names : Reading × Reading → List BoundName
  pair_names pair = names (both_sides (pair_bound number rule d col pair.0.stamp pair.1.stamp))

  so_named : (pair : Reading × Reading) → AreNamedSo (pair_bound number rule d col pair.0.stamp pair.1.stamp) number (row_of pair.0) (row_of pair.1) col
  so_named pair side b is = (of_pair number d col rule pair.0.stamp pair.1.stamp side b is).named

  pub names_of_pairs : names (bounds_of_pairs (pair_bound number rule d col) (all_pairs readings)) ≡ flat_map pair_names (all_pairs readings)
  names_of_pairs = map_flat (λ (b : Bound). b.name) (λ (pair : Reading × Reading). both_sides (pair_bound number rule d col pair.0.stamp pair.1.stamp)) (all_pairs readings)

  pub pairs_rise : Ascends IsEarlierRow readings → Ascends IsLess (names (bounds_of_pairs (pair_bound number rule d col) (all_pairs readings)))
  pairs_rise rise =
      subst (λ (ns : List BoundName). Ascends IsLess ns) (sym names_of_pairs)
      (ascends_flat pair_names PairBefore IsLess (all_pairs readings)
      (λ p q before. rows_below number (row_of p.0) (row_of p.1) col (row_of q.0) (row_of q.1) col (pair_names p) (pair_names q) before
      (sides_parts (pair_bound number rule d col p.0.stamp p.1.stamp) number (row_of p.0) (row_of p.1) col (so_named p))
      (sides_parts (pair_bound number rule d col q.0.stamp q.1.stamp) number (row_of q.0) (row_of q.1) col (so_named q)))
      (each_of (λ p. sides_ascend (pair_bound number rule d col p.0.stamp p.1.stamp) number (row_of p.0) (row_of p.1) col (so_named p)) (all_pairs readings))
      (pairs_ascend readings rise))

  pub pairs_writable : number ≤ 1000 → AllByRecursion (IsWritable col) readings → AllByRecursion IsWritableName (names (bounds_of_pairs (pair_bound number rule d col) (all_pairs readings)))
  pairs_writable few all =
      subst (λ (ns : List BoundName). AllByRecursion IsWritableName ns) (sym names_of_pairs)
      (flat_all IsWritableName pair_names (all_pairs readings)
      (joined (λ (p : Reading × Reading). IsWritable col p.0) (λ (p : Reading × Reading). IsWritable col p.1) (λ (p : Reading × Reading). AllByRecursion IsWritableName (pair_names p))
      (λ p first second. sides_named IsWritableName (pair_bound number rule d col p.0.stamp p.1.stamp)
      (λ side b is. writable number (row_of p.0) (row_of p.1) col side b.name few first.row second.row first.col_is (so_named p side b is)))
      (all_pairs readings) (firsts (IsWritable col) readings all) (seconds (IsWritable col) readings all)))

-- ---- values of readings

module _ (number col : ℕ) (from to : ℤ) (least most : ℤ → ℤ) (readings : List Reading) where
  abbrev value_on : Reading → Side → Option Bound
  value_on reading side = Some (value_bound number (place_in col reading.stamp) (limit_on side (least reading.value) (most reading.value)) side)

  abbrev value_if : Bool → Reading → List Bound
  value_if t reading = cond t (value_bounds number (place_in col reading.stamp) (least reading.value) (most reading.value)) []

  abbrev value_names : Reading → List BoundName
  value_names reading = names (value_if (is_within from to reading.stamp.ticks) reading)

  value_so : (reading : Reading) → AreNamedSo (value_on reading) number (row_of reading) (row_of reading) col
  value_so reading side b is =
      ap (λ (c : Bound). c.name) (sym (some_same is)) ∙ value_named number (place_in col reading.stamp) (limit_on side (least reading.value) (most reading.value)) side

  if_parts : (t : Bool) (reading : Reading) → AllByRecursion (HasParts number (row_of reading) (row_of reading) col) (names (value_if t reading))
  if_parts true reading = sides_parts (value_on reading) number (row_of reading) (row_of reading) col (value_so reading)
  if_parts false reading = tt

  if_ascend : (t : Bool) (reading : Reading) → Ascends IsLess (names (value_if t reading))
  if_ascend true reading = sides_ascend (value_on reading) number (row_of reading) (row_of reading) col (value_so reading)
  if_ascend false reading = tt

  if_writable : (t : Bool) (reading : Reading) → number ≤ 1000 → IsWritable col reading → AllByRecursion IsWritableName (names (value_if t reading))
  if_writable true reading few is =
      sides_named IsWritableName (value_on reading) (λ side b found. writable number (row_of reading) (row_of reading) col side b.name few is.row is.row is.col_is (value_so reading side b found))
  if_writable false reading few is = tt

  names_of_values : names (bounds_in_time number col from to least most readings) ≡ flat_map value_names readings
  names_of_values = map_flat (λ (b : Bound). b.name) (λ (reading : Reading). value_if (is_within from to reading.stamp.ticks) reading) readings

  pub values_rise : Ascends IsEarlierRow readings → Ascends IsLess (names (bounds_in_time number col from to least most readings))
  values_rise rise =
      subst (λ (ns : List BoundName). Ascends IsLess ns) (sym names_of_values)
      (ascends_flat value_names IsEarlierRow IsLess readings
      (λ a b before. rows_below number (row_of a) (row_of a) col (row_of b) (row_of b) col (value_names a) (value_names b) (inl before)
      (if_parts (is_within from to a.stamp.ticks) a) (if_parts (is_within from to b.stamp.ticks) b))
      (each_of (λ a. if_ascend (is_within from to a.stamp.ticks) a) readings) rise)

  pub values_writable : number ≤ 1000 → AllByRecursion (IsWritable col) readings → AllByRecursion IsWritableName (names (bounds_in_time number col from to least most readings))
  values_writable few all =
      subst (λ (ns : List BoundName). AllByRecursion IsWritableName ns) (sym names_of_values)
      (flat_all IsWritableName value_names readings
      (all_weaker (IsWritable col) (λ (reading : Reading). AllByRecursion IsWritableName (value_names reading)) (λ reading is. if_writable (is_within from to reading.stamp.ticks) reading few is) readings all))

-- ---- rows

module _ (number first second : ℕ) (rule : BetweenRule) where
  abbrev row_bound : ℕ → RowView → Side → Option Bound
  row_bound n row = between_bound number rule n (col_if_read first row) (col_if_read second row)

  row_so : (n : ℕ) (row : RowView) → AreNamedSo (row_bound n row) number n n first
  row_so n row side b is = row_named number rule n first second row side b is

  -- the name bears the rule and a row from this one on
  abbrev IsFrom : ℕ → BoundName → Type 0
  IsFrom n name = (name.rule ≡ number) × (n ≤ name.from_row)

  rows_from_here : (least n : ℕ) (rows : List RowView) → least ≤ n → AllByRecursion (IsFrom least) (names (bounds_in_rows (between_bound number rule) first second n rows))
  rows_from_here least n [] h = tt
  rows_from_here least n (row ∷ rows) h =
      subst (λ (ns : List BoundName). AllByRecursion (IsFrom least) ns) (sym (map-append (λ (b : Bound). b.name) (both_sides (row_bound n row)) (bounds_in_rows (between_bound number rule) first second (suc n) rows)))
      (all_append (IsFrom least) (names (both_sides (row_bound n row))) (names (bounds_in_rows (between_bound number rule) first second (suc n) rows))
      (all_weaker (HasParts number n n first) (IsFrom least) (λ name parts. (parts.rule_is, omega (arith, h, parts.from_is))) (names (both_sides (row_bound n row))) (sides_parts (row_bound n row) number n n first (row_so n row)))
      (rows_from_here least (suc n) rows (omega (arith, h))))

  row_less : (n : ℕ) (x y : BoundName) → HasParts number n n first x → IsFrom (suc n) y → IsLess x y
  row_less n x y parts is = inr (parts.rule_is ∙ sym is.0, inl (omega (arith, parts.from_is, is.1)))

  pub rows_rise : (n : ℕ) (rows : List RowView) → Ascends IsLess (names (bounds_in_rows (between_bound number rule) first second n rows))
  rows_rise n [] = tt
  rows_rise n (row ∷ rows) =
      let here = names (both_sides (row_bound n row)) in
      let later = names (bounds_in_rows (between_bound number rule) first second (suc n) rows) in
      subst (λ (ns : List BoundName). Ascends IsLess ns) (sym (map-append (λ (b : Bound). b.name) (both_sides (row_bound n row)) (bounds_in_rows (between_bound number rule) first second (suc n) rows)))
      (ascends_append IsLess here later (sides_ascend (row_bound n row) number n n first (row_so n row)) (rows_rise (suc n) rows)
      (all_below (HasParts number n n first) (IsFrom (suc n)) IsLess (row_less n) here later (sides_parts (row_bound n row) number n n first (row_so n row)) (rows_from_here (suc n) (suc n) rows (omega arith))))

  col_read : (o : Option ℤ) (p : ℕ) → ((value : ℤ) → o ≡ Some value → IsWritableColumn first) → (q : Option ℕ) (n : ℕ) (side : Side) (b : Bound) → between_bound number rule n (cond (is_some o) (Some first) None) q side ≡ Some b → IsWritableColumn first
  col_read (Some value) p has q n side b is = has value refl
  col_read None p has q n side b is = absurd (none_is_some b is)

  pub rows_writable : (n : ℕ) (rows : List RowView) → number ≤ 1000 → 1 ≤ n → n + length rows ≤ MOST_ROWS + 1 → AllByRecursion HasWritableColumns rows → AllByRecursion IsWritableName (names (bounds_in_rows (between_bound number rule) first second n rows))
  rows_writable n [] few some most all = tt
  rows_writable n (row ∷ rows) few some most all =
      subst (λ (ns : List BoundName). AllByRecursion IsWritableName ns) (sym (map-append (λ (b : Bound). b.name) (both_sides (row_bound n row)) (bounds_in_rows (between_bound number rule) first second (suc n) rows)))
      (all_append IsWritableName (names (both_sides (row_bound n row))) (names (bounds_in_rows (between_bound number rule) first second (suc n) rows))
      (sides_named IsWritableName (row_bound n row)
      (λ side b is. writable number n n first side b.name few (some, omega (arith, most)) (some, omega (arith, most))
      (col_read (reading_in first row) 0 (λ value found. col_of_value first row.readings value all.0 found) (col_if_read second row) n side b is) (row_so n row side b is)))
      (rows_writable (suc n) rows few (omega (arith, some)) (omega (arith, most)) all.1))

-- ---- rules

pub kind_rise : (d : ℕ) (rows : List RowView) (number col second : ℕ) (rule : Rule) → Ascends IsLess (names (bounds_of_kind each_pair d rows number col second rule))
kind_rise d rows number col second (speed rule) = pairs_rise number d col (speed rule) (readings_of col rows) (readings_ascend 1 col rows)
kind_rise d rows number col second (swing rule) = pairs_rise number d col (swing rule) (readings_of col rows) (readings_ascend 1 col rows)
kind_rise d rows number col second (drift rule) = pairs_rise number d col (drift rule) (readings_of col rows) (readings_ascend 1 col rows)
kind_rise d rows number col second (range rule) = values_rise number col rule.from rule.to (λ value. rule.min) (λ value. rule.max) (readings_of col rows) (readings_ascend 1 col rows)
kind_rise d rows number col second (trust rule) = values_rise number col rule.from rule.to (λ value. value) (λ value. value) (readings_of col rows) (readings_ascend 1 col rows)
kind_rise d rows number col second (weight rule) = tt
kind_rise d rows number col second (between rule) = rows_rise number col second rule 1 rows

kind_writable : (d : ℕ) (rows : List RowView) (number col second : ℕ) (rule : Rule) → number ≤ 1000 → length rows ≤ MOST_ROWS → AllByRecursion HasWritableColumns rows → AllByRecursion IsWritableName (names (bounds_of_kind each_pair d rows number col second rule))
kind_writable d rows number col second (speed rule) few most all = pairs_writable number d col (speed rule) (readings_of col rows) few (readings_writable 1 col rows (omega arith) (omega (arith, most)) all)
kind_writable d rows number col second (swing rule) few most all = pairs_writable number d col (swing rule) (readings_of col rows) few (readings_writable 1 col rows (omega arith) (omega (arith, most)) all)
kind_writable d rows number col second (drift rule) few most all = pairs_writable number d col (drift rule) (readings_of col rows) few (readings_writable 1 col rows (omega arith) (omega (arith, most)) all)
kind_writable d rows number col second (range rule) few most all = values_writable number col rule.from rule.to (λ value. rule.min) (λ value. rule.max) (readings_of col rows) few (readings_writable 1 col rows (omega arith) (omega (arith, most)) all)
kind_writable d rows number col second (trust rule) few most all = values_writable number col rule.from rule.to (λ value. value) (λ value. value) (readings_of col rows) few (readings_writable 1 col rows (omega arith) (omega (arith, most)) all)
kind_writable d rows number col second (weight rule) few most all = tt
kind_writable d rows number col second (between rule) few most all = rows_writable number col second rule 1 rows few (omega arith) (omega (arith, most)) all

abbrev IsSooner : Ruled → Ruled → Type 0
IsSooner r s = r.number < s.number

numbers_ascend : (n : ℕ) (rules : List Rule) (cols : List ℕ) → Ascends IsSooner (with_columns n rules cols)
numbers_ascend n [] cols = tt
numbers_ascend n (rule ∷ rules) cols =
    let rest = drop (length (sensor_names rule)) cols in
    (all_weaker (λ (r : Ruled). suc n ≤ r.number) (λ (r : Ruled). n < r.number) (λ r h. omega (arith, h)) (with_columns (suc n) rules rest) (numbers_from (suc n) (suc n) rules rest (omega arith)), numbers_ascend (suc n) rules rest)

module _ (d : ℕ) (rows : List RowView) (ruled : List Ruled) where
  abbrev rule_names : Ruled → List BoundName
  rule_names r = names (bounds_of_rule each_pair d rows r)

  names_of_rules : names (flat_map (bounds_of_rule each_pair d rows) ruled) ≡ flat_map rule_names ruled
  names_of_rules = map_flat (λ (b : Bound). b.name) (bounds_of_rule each_pair d rows) ruled

  own_rule : (r : Ruled) → AllByRecursion (λ (n : BoundName). n.rule ≡ r.number) (rule_names r)
  own_rule r = kind_rule d rows r.number (col_of r) (second_col_of r) r.rule

  pub rules_rise : Ascends IsSooner ruled → Ascends IsLess (names (flat_map (bounds_of_rule each_pair d rows) ruled))
  rules_rise rise =
      subst (λ (ns : List BoundName). Ascends IsLess ns) (sym names_of_rules)
      (ascends_flat rule_names IsSooner IsLess ruled (λ r s less. rules_below r.number s.number (rule_names r) (rule_names s) less (own_rule r) (own_rule s))
      (each_of (λ r. kind_rise d rows r.number (col_of r) (second_col_of r) r.rule) ruled) rise)

  pub rules_writable : length rows ≤ MOST_ROWS → AllByRecursion HasWritableColumns rows → AllByRecursion (λ (r : Ruled). r.number < 1001) ruled → AllByRecursion IsWritableName (names (flat_map (bounds_of_rule each_pair d rows) ruled))
  rules_writable most all few =
      subst (λ (ns : List BoundName). AllByRecursion IsWritableName ns) (sym names_of_rules)
      (flat_all IsWritableName rule_names ruled
      (all_weaker (λ (r : Ruled). r.number < 1001) (λ (r : Ruled). AllByRecursion IsWritableName (rule_names r)) (λ r less. kind_writable d rows r.number (col_of r) (second_col_of r) r.rule (omega (arith, less)) most all) ruled few))

  pub rules_named : AllByRecursion (λ (r : Ruled). 1 ≤ r.number) ruled → AllByRecursion (λ (n : BoundName). 1 ≤ n.rule) (names (flat_map (bounds_of_rule each_pair d rows) ruled))
  rules_named some =
      subst (λ (ns : List BoundName). AllByRecursion (λ (n : BoundName). 1 ≤ n.rule) ns) (sym names_of_rules)
      (flat_all (λ (n : BoundName). 1 ≤ n.rule) rule_names ruled
      (all_weaker (λ (r : Ruled). 1 ≤ r.number) (λ (r : Ruled). AllByRecursion (λ (n : BoundName). 1 ≤ n.rule) (rule_names r))
      (λ r least. all_weaker (λ (n : BoundName). n.rule ≡ r.number) (λ (n : BoundName). 1 ≤ n.rule) (λ n is. omega (arith, least, is)) (rule_names r) (own_rule r)) ruled some))

-- ---- rule 0

abbrev size_names : Place → List BoundName
size_names place = names (both_sides (size_on place))

order_ascends : (ps : List Place) → AreInOrder ps → Ascends IsBefore ps
order_ascends [] order = tt
order_ascends (p ∷ ps) order = (order.0, order_ascends ps order.1)

size_so : (place : Place) → AreNamedSo (size_on place) 0 place.row place.row place.col
size_so place side b is = size_name place side b is

sizes_below : (p q : Place) → IsBefore p q → AreBelow IsLess (size_names p) (size_names q)
sizes_below p q (inl less) =
    rows_below 0 p.row p.row p.col q.row q.row q.col (size_names p) (size_names q) (inl less) (sides_parts (size_on p) 0 p.row p.row p.col (size_so p)) (sides_parts (size_on q) 0 q.row q.row q.col (size_so q))
sizes_below p q (inr here) =
    cols_below 0 p.row p.col q.col (size_names p) (size_names q) here.1 (sides_parts (size_on p) 0 p.row p.row p.col (size_so p))
    (subst (λ (r : ℕ). AllByRecursion (HasParts 0 r r q.col) (size_names q)) (sym here.0) (sides_parts (size_on q) 0 q.row q.row q.col (size_so q)))

names_of_sizes : (ps : List Place) → names (size_bounds ps) ≡ flat_map size_names ps
names_of_sizes ps = map_flat (λ (b : Bound). b.name) (λ (place : Place). both_sides (size_on place)) ps

sizes_rise : (ps : List Place) → AreInOrder ps → Ascends IsLess (names (size_bounds ps))
sizes_rise ps order =
    subst (λ (ns : List BoundName). Ascends IsLess ns) (sym (names_of_sizes ps))
    (ascends_flat size_names IsBefore IsLess ps sizes_below (each_of (λ p. sides_ascend (size_on p) 0 p.row p.row p.col (size_so p)) ps) (order_ascends ps order))

sizes_writable : (ps : List Place) → AllByRecursion IsWritablePlace ps → AllByRecursion IsWritableName (names (size_bounds ps))
sizes_writable ps all =
    subst (λ (ns : List BoundName). AllByRecursion IsWritableName ns) (sym (names_of_sizes ps))
    (flat_all IsWritableName size_names ps
    (all_weaker IsWritablePlace (λ (p : Place). AllByRecursion IsWritableName (size_names p))
    (λ p is. sides_named IsWritableName (size_on p) (λ side b found. writable 0 p.row p.row p.col side b.name (omega arith) is.row is.row is.col (size_so p side b found))) ps all))

-- ---- places

cols_writable : (n : ℕ) (readings : List RowReading) → IsWritableRow n → AllByRecursion (λ (reading : RowReading). IsWritableColumn reading.col) readings → AllByRecursion IsWritablePlace (places_in n (columns readings))
cols_writable n [] row all = tt
cols_writable n (reading ∷ readings) row all = (record { row = row; col = all.0 }, cols_writable n readings row all.1)

places_writable : (n : ℕ) (rows : List RowView) → 1 ≤ n → n + length rows ≤ MOST_ROWS + 1 → AllByRecursion HasWritableColumns rows → AllByRecursion IsWritablePlace (places_from n rows)
places_writable n [] some few all = tt
places_writable n (row ∷ rows) some few all =
    all_append IsWritablePlace (places_in n (columns row.readings)) (places_from (suc n) rows) (cols_writable n row.readings (some, omega (arith, few)) all.0)
    (places_writable (suc n) rows (omega (arith, some)) (omega (arith, few)) all.1)

-- ---- columns

cols_few : (before last : ℕ) (readings : List RowReading) → last ≤ MOST_COLUMNS → Rise before (columns readings) last → AllByRecursion (λ (reading : RowReading). IsWritableColumn reading.col) readings
cols_few before last [] few rise = tt
cols_few before last (reading ∷ readings) few rise = ((omega (arith, rise.0), omega (arith, few, rise.1)), cols_few reading.col last readings few rise.2)

pub row_columns : (row : RowView) (readings : List RowReading) → readings ≡ row.readings → length row.fields ≤ MOST_COLUMNS → Rise 0 (columns readings) (length row.fields) → HasWritableColumns row
row_columns row readings is few rise = subst (λ (rs : List RowReading). AllByRecursion (λ (reading : RowReading). IsWritableColumn reading.col) rs) is (cols_few 0 (length row.fields) readings few rise)

-- ---- all bounds

less_by_rule : (m n : BoundName) → m.rule ≡ 0 → 1 ≤ n.rule → IsLess m n
less_by_rule m n p q = inl (omega (arith, p, q))

pub can_be_written : (rules : Rules) (table : TableView) → AreInOrder (places table) → length table.rows ≤ MOST_ROWS → AllByRecursion HasWritableColumns table.rows → CanBeWritten rules table
can_be_written rules table order most all =
    let d = rules.format.decimals in
    let ruled = with_columns 1 (rules_in_order rules) table.header.sensor_cols in
    let ps = places table in
    let sizes = size_bounds ps in
    let others = flat_map (bounds_of_rule each_pair d table.rows) ruled in
    let few = rules_few rules in
    let spots = places_writable 1 table.rows (omega arith) (omega (arith, most)) all in
    let split = map-append (λ (b : Bound). b.name) sizes others in
    record {
      rising = rises_from (names (all_bounds rules table))
          (subst (λ (ns : List BoundName). Ascends IsLess ns) (sym split)
          (ascends_append IsLess (names sizes) (names others) (sizes_rise ps order) (rules_rise d table.rows ruled (numbers_ascend 1 (rules_in_order rules) table.header.sensor_cols))
          (all_below (λ (n : BoundName). n.rule ≡ 0) (λ (n : BoundName). 1 ≤ n.rule) IsLess less_by_rule (names sizes) (names others) (sizes_rule ps)
          (rules_named d table.rows ruled (numbers_from 1 1 (rules_in_order rules) table.header.sensor_cols (omega arith))))));
      names = subst (λ (ns : List BoundName). AllByRecursion IsWritableName ns) (sym split)
          (all_append IsWritableName (names sizes) (names others) (sizes_writable ps spots)
          (rules_writable d table.rows ruled most all (numbers_below 1001 1 (rules_in_order rules) table.header.sensor_cols (omega (arith, few)))));
      places = spots;
    }
