-- The reading in a row and a column, and the bounds of one reading or of one row with a name.
use Rattle.std.proofs.Common.{◌≡◌, ◌≢◌, ℕ, zero, suc, ◌+◌, ◌<◌, ◌≤◌, ℤ, neg_ℤ, Bool, true, false, cond, List, [], ◌∷◌, map, Option, Some, None, refl, sym, ap, ◌∙◌, subst, arith}
use Rattle.std.specs.Prelude.{Contains, slice_get, is_some}
use Rattle.std.specs.List.{AllByRecursion}
use Rattle.std.proofs.lemmas.List.Elements.{Contains-append_left, Contains-append_right}
use Rattle.words.specs.Lists.{Distinct}
use Rattle.words.proofs.Lists.{all_append, all_weaker, contains_first, contains_later}
use Rattle.screen_model.specs.declared.bound.Bound.{Bound}
use Rattle.screen_model.specs.declared.bound.BoundName.{BoundName}
use Rattle.screen_model.specs.declared.bound.Side.{Side}
use Rattle.screen_model.specs.declared.bound.Side.TheVariants.{Up, Down}
use Rattle.screen_model.specs.declared.place.Place.{Place}
use Rattle.fix_point.specs.declared.scale.TheConstants.{MOST_UNITS}
use Rattle.rule_file.specs.Numbers.{Rule, speed, swing, drift, range, trust, weight, between}
use Rattle.rule_file.specs.declared.rules.BetweenRule.{BetweenRule}
use Rattle.pair_bounds.specs.Pairs.{between_bound, is_within, limit_on, place_in, rise_bound}
use Rattle.series_rows.specs.Row.{RowView}
use Rattle.series_csv.specs.File.{TableView}
use Rattle.series_csv.specs.Readings.{row_at}
use Rattle.bound_maker.specs.declared.reading.Reading.{Reading}
use Rattle.bound_maker.specs.Bounds.{both_sides, bounds_in_rows, bounds_in_time, bounds_of_kind, bounds_of_pairs, col_if_read, size_bounds, value_bound, value_bounds}
use Rattle.bound_maker.specs.Named.{AreElsewhere, Finds, HasNone, IsNamed, each_pair}
use Rattle.bound_maker.specs.Pairs.{pair_bound}
use Rattle.bound_maker.specs.Readings.{all_pairs, before_later, reading_in, readings_from, readings_of}
use Rattle.bound_maker.specs.declared.values.Limits.{Limits}
use Rattle.bound_maker.proofs.Distinct.{row_of, rows_from}
use Rattle.bound_maker.proofs.Finding.{if_some, in_both, in_flat, named_so, none_flat, none_of_both, of_pair, only_in_row, rise_named, same_name, value_named}
use Rattle.bound_maker.proofs.InTime.{AreLimits}

none_is_some : {A : Type 0} (x : A) → ◌≡◌ {A = Option A} None (Some x) → ⊥
none_is_some x e = cc

some_same : {A : Type 0} {x y : A} → ◌≡◌ {A = Option A} (Some x) (Some y) → x ≡ y
some_same e = cc

-- ---- the reading of a row

in_later : (n : ℕ) (row : RowView) (o : Option ℤ) (later : List Reading) (x : Reading) → Contains later x → Contains (before_later n row o later) x
in_later n row (Some value) later x has = contains_later (record { stamp = record { row = n; ticks = row.ticks }; value = value }) later x has
in_later n row None later x has = has

-- the reading of a row of this number
abbrev pub reading_of : ℕ → RowView → ℤ → Reading
reading_of number row value = record { stamp = record { row = number; ticks = row.ticks }; value = value }

first_is_in : (n : ℕ) (row : RowView) (o : Option ℤ) (later : List Reading) (value : ℤ) → o ≡ Some value → Contains (before_later n row o later) (reading_of n row value)
first_is_in n row o later value is =
    subst (λ (p : Option ℤ). Contains (before_later n row p later) (reading_of n row value)) (sym is) (contains_first (reading_of n row value) later)

pub reading_found : (n m col : ℕ) (rows : List RowView) (k : ℕ) (row : RowView) (value : ℤ) → slice_get rows k ≡ Some row → m ≡ n + k → reading_in col row ≡ Some value
    → Contains (readings_from n col rows) (reading_of m row value)
reading_found n m col [] k row value at number is = absurd (none_is_some row at)
reading_found n m col (r ∷ rows) zero row value at number is =
    let same : r ≡ row = cc in
    let here : n ≡ m = omega (arith, number) in
    subst (λ (i : ℕ). Contains (readings_from n col (r ∷ rows)) (reading_of i row value)) here
    (subst (λ (q : RowView). Contains (readings_from n col (q ∷ rows)) (reading_of n row value)) (sym same) (first_is_in n row (reading_in col row) (readings_from (suc n) col rows) value is))
reading_found n m col (r ∷ rows) (suc k) row value at number is =
    in_later n r (reading_in col r) (readings_from (suc n) col rows) (reading_of m row value) (reading_found (suc n) m col rows k row value at (omega (arith, number)) is)

elsewhere_later : (n m : ℕ) (row : RowView) (o : Option ℤ) (later : List Reading) → n ≢ m → AreElsewhere m later → AreElsewhere m (before_later n row o later)
elsewhere_later n m row (Some value) later other rest = (other, rest)
elsewhere_later n m row None later other rest = rest

nothing_first : (n : ℕ) (row : RowView) (o : Option ℤ) (later : List Reading) → o ≡ None → AreElsewhere n later → AreElsewhere n (before_later n row o later)
nothing_first n row (Some value) later is rest = absurd (none_is_some value (sym is))
nothing_first n row None later is rest = rest

above : (n m : ℕ) (readings : List Reading) → m < n → AllByRecursion (λ (y : Reading). n ≤ row_of y) readings → AreElsewhere m readings
above n m readings h all = all_weaker (λ (y : Reading). n ≤ row_of y) (λ (y : Reading). row_of y ≢ m) (λ y high same. absurd (omega (arith, h, high, same))) readings all

pub no_reading_found : (n m col : ℕ) (rows : List RowView) (k : ℕ) (row : RowView) → slice_get rows k ≡ Some row → m ≡ n + k → reading_in col row ≡ None → AreElsewhere m (readings_from n col rows)
no_reading_found n m col [] k row at number none = tt
no_reading_found n m col (r ∷ rows) zero row at number none =
    let same : r ≡ row = cc in
    let here : n ≡ m = omega (arith, number) in
    subst (λ (i : ℕ). AreElsewhere i (readings_from n col (r ∷ rows))) here
    (nothing_first n r (reading_in col r) (readings_from (suc n) col rows) (ap (reading_in col) same ∙ none)
    (above (suc n) n (readings_from (suc n) col rows) (omega arith) (rows_from (suc n) (suc n) col rows (omega arith))))
no_reading_found n m col (r ∷ rows) (suc k) row at number none =
    elsewhere_later n m r (reading_in col r) (readings_from (suc n) col rows) (λ same. absurd (omega (arith, number, same))) (no_reading_found (suc n) m col rows k row at (omega (arith, number)) none)

pub no_row_found : (n m col : ℕ) (rows : List RowView) (k : ℕ) → slice_get rows k ≡ None → m ≡ n + k → AreElsewhere m (readings_from n col rows)
no_row_found n m col [] k none number = tt
no_row_found n m col (r ∷ rows) zero none number = absurd (none_is_some r (sym none))
no_row_found n m col (r ∷ rows) (suc k) none number =
    elsewhere_later n m r (reading_in col r) (readings_from (suc n) col rows) (λ same. absurd (omega (arith, number, same))) (no_row_found (suc n) m col rows k none (omega (arith, number)))

-- as the code looks for it
pub found_in_row : (table : TableView) (r col : ℕ) (row : RowView) (value : ℤ) → Some row ≡ row_at table r → Some value ≡ reading_in col row → Contains (readings_of col table.rows) (reading_of r row value)
found_in_row table zero col row value at is = absurd (none_is_some row (sym at))
found_in_row table (suc k) col row value at is = let number : suc k ≡ 1 + k = omega arith in reading_found 1 (suc k) col table.rows k row value (sym at) number (sym is)

pub none_in_row : (table : TableView) (r col : ℕ) (row : RowView) → Some row ≡ row_at table r → None ≡ reading_in col row → AreElsewhere r (readings_of col table.rows)
none_in_row table zero col row at is = absurd (none_is_some row (sym at))
none_in_row table (suc k) col row at is = let number : suc k ≡ 1 + k = omega arith in no_reading_found 1 (suc k) col table.rows k row (sym at) number (sym is)

pub none_without_row : (table : TableView) (r col : ℕ) → None ≡ row_at table r → AreElsewhere r (readings_of col table.rows)
none_without_row table zero col none = above 1 0 (readings_of col table.rows) (omega arith) (rows_from 1 1 col table.rows (omega arith))
none_without_row table (suc k) col none = let number : suc k ≡ 1 + k = omega arith in no_row_found 1 (suc k) col table.rows k (sym none) number

-- the same where the code holds the numbers as these
pub found_as : (table : TableView) (r col : ℕ) (row : RowView) (value t v : ℤ) → Some row ≡ row_at table r → Some value ≡ reading_in col row → t ≡ row.ticks → v ≡ value
    → Contains (readings_of col table.rows) (record { stamp = record { row = r; ticks = t }; value = v })
found_as table r col row value t v at is time same =
    subst (λ (z : ℤ). Contains (readings_of col table.rows) (record { stamp = record { row = r; ticks = z }; value = v })) (sym time)
    (subst (λ (z : ℤ). Contains (readings_of col table.rows) (record { stamp = record { row = r; ticks = row.ticks }; value = z })) (sym same)
    (found_in_row table r col row value at is))

-- ---- the bounds of one reading

pub each_reading : {P : Reading → Type 0} → ((reading : Reading) → P reading) → (readings : List Reading) → AllByRecursion P readings
each_reading each [] = tt
each_reading each (reading ∷ readings) = (each reading, each_reading each readings)

out_and_in : (t : Bool) → t ≡ false → t ≡ true → ⊥
out_and_in t out within = cc

module _ (number col : ℕ) (from to : ℤ) (least most : ℤ → ℤ) (name : BoundName) where
  abbrev bounds_on : Reading → List Bound
  bounds_on reading = cond (is_within from to reading.stamp.ticks) (value_bounds number (place_in col reading.stamp) (least reading.value) (most reading.value)) []

  abbrev bound_on : Reading → Side → Option Bound
  bound_on reading side = Some (value_bound number (place_in col reading.stamp) (limit_on side (least reading.value) (most reading.value)) side)

  -- a reading that bears no bound of this name
  abbrev IsUnnamed : Reading → Type 0
  IsUnnamed reading = is_within from to reading.stamp.ticks ≡ true → reading.stamp.row ≡ name.from_row → name.from_row ≡ name.to_row → ⊥

  value_name : (reading : Reading) (side : Side) (b : Bound) → bound_on reading side ≡ Some b → b.name ≡ named_so number reading.stamp.row reading.stamp.row col side
  value_name reading side b is =
      let same : value_bound number (place_in col reading.stamp) (limit_on side (least reading.value) (most reading.value)) side ≡ b = cc in
      ap (λ (c : Bound). c.name) (sym same) ∙ value_named number (place_in col reading.stamp) (limit_on side (least reading.value) (most reading.value)) side

  unnamed_step : (reading : Reading) (t : Bool) → (t ≡ true → reading.stamp.row ≡ name.from_row → name.from_row ≡ name.to_row → ⊥)
      → HasNone (cond t (value_bounds number (place_in col reading.stamp) (least reading.value) (most reading.value)) []) name
  unnamed_step reading true unnamed =
      none_of_both (bound_on reading) name
      (λ side b is same.
      let so : named_so number reading.stamp.row reading.stamp.row col side ≡ name = sym (value_name reading side b is) ∙ same in
      unnamed refl (ap (λ (n : BoundName). n.from_row) so) (sym (ap (λ (n : BoundName). n.from_row) so) ∙ ap (λ (n : BoundName). n.to_row) so))
  unnamed_step reading false unnamed = tt

  other_step : (reading : Reading) (t : Bool) → col ≢ name.col → HasNone (cond t (value_bounds number (place_in col reading.stamp) (least reading.value) (most reading.value)) []) name
  other_step reading true other =
      none_of_both (bound_on reading) name (λ side b is same. other (ap (λ (n : BoundName). n.col) (sym (value_name reading side b is) ∙ same)))
  other_step reading false other = tt

  pub none_on_values : (readings : List Reading) → AllByRecursion IsUnnamed readings → HasNone (bounds_in_time number col from to least most readings) name
  none_on_values readings all =
      none_flat bounds_on name readings
      (all_weaker IsUnnamed (λ (reading : Reading). HasNone (bounds_on reading) name) (λ reading unnamed. unnamed_step reading (is_within from to reading.stamp.ticks) unnamed) readings all)

  -- the name is of another column
  pub values_elsewhere : (readings : List Reading) → col ≢ name.col → HasNone (bounds_in_time number col from to least most readings) name
  values_elsewhere readings other = none_flat bounds_on name readings (each_reading (λ reading. other_step reading (is_within from to reading.stamp.ticks) other) readings)

  -- the name is of no reading
  pub none_named_so : (readings : List Reading) → AllByRecursion (λ (reading : Reading). reading.stamp.row ≡ name.from_row → name.from_row ≡ name.to_row → ⊥) readings → HasNone (bounds_in_time number col from to least most readings) name
  none_named_so readings all =
      none_on_values readings (all_weaker (λ (reading : Reading). reading.stamp.row ≡ name.from_row → name.from_row ≡ name.to_row → ⊥) IsUnnamed (λ reading other test. other) readings all)

module _ (from to : ℤ) (least most : ℤ → ℤ) (name : BoundName) where
  in_value : (reading : Reading) (t : Bool) → t ≡ true
      → Contains (cond t (value_bounds name.rule (place_in name.col reading.stamp) (least reading.value) (most reading.value)) []) (value_bound name.rule (place_in name.col reading.stamp) (limit_on name.side (least reading.value) (most reading.value)) name.side)
  in_value reading t is =
      subst (λ (s : Bool). Contains (cond s (value_bounds name.rule (place_in name.col reading.stamp) (least reading.value) (most reading.value)) []) (value_bound name.rule (place_in name.col reading.stamp) (limit_on name.side (least reading.value) (most reading.value)) name.side)) (sym is)
      (in_both (λ side. Some (value_bound name.rule (place_in name.col reading.stamp) (limit_on side (least reading.value) (most reading.value)) side)) name.side
      (value_bound name.rule (place_in name.col reading.stamp) (limit_on name.side (least reading.value) (most reading.value)) name.side) refl)

  value_step : (readings : List Reading) (reading : Reading) (t : Bool) → is_within from to reading.stamp.ticks ≡ t → Distinct (map row_of readings) → Contains readings reading → reading.stamp.row ≡ name.from_row → name.from_row ≡ name.to_row
      → Finds (bounds_in_time name.rule name.col from to least most readings) name
      (cond t (Some (value_bound name.rule (place_in name.col reading.stamp) (limit_on name.side (least reading.value) (most reading.value)) name.side)) None)
  value_step readings reading true test distinct has row one =
      let b = value_bound name.rule (place_in name.col reading.stamp) (limit_on name.side (least reading.value) (most reading.value)) name.side in (
        in_flat (λ (r : Reading). cond (is_within from to r.stamp.ticks) (value_bounds name.rule (place_in name.col r.stamp) (least r.value) (most r.value)) []) readings reading b has (in_value reading (is_within from to reading.stamp.ticks) test),
        value_named name.rule (place_in name.col reading.stamp) (limit_on name.side (least reading.value) (most reading.value)) name.side ∙ same_name name reading.stamp.row reading.stamp.row row (row ∙ one),
      )
  value_step readings reading false test distinct has row one =
      none_on_values name.rule name.col from to least most name readings
      (all_weaker (λ (z : Reading). row_of z ≡ row_of reading → z ≡ reading) (λ (z : Reading). is_within from to z.stamp.ticks ≡ true → z.stamp.row ≡ name.from_row → name.from_row ≡ name.to_row → ⊥)
      (λ z only within here both.
      let same : z ≡ reading = only (here ∙ sym row) in
      out_and_in (is_within from to reading.stamp.ticks) test (subst (λ (y : Reading). is_within from to y.stamp.ticks ≡ true) same within))
      readings (only_in_row readings reading distinct has))

  -- the bound on the reading that the name tells
  pub finds_value : (readings : List Reading) (reading : Reading) (found : Option Bound) → Distinct (map row_of readings) → Contains readings reading → reading.stamp.row ≡ name.from_row → name.from_row ≡ name.to_row
      → found ≡ cond (is_within from to reading.stamp.ticks) (Some (value_bound name.rule (place_in name.col reading.stamp) (limit_on name.side (least reading.value) (most reading.value)) name.side)) None
      → Finds (bounds_in_time name.rule name.col from to least most readings) name found
  finds_value readings reading found distinct has row one is =
      subst (λ (o : Option Bound). Finds (bounds_in_time name.rule name.col from to least most readings) name o) (sym is)
      (value_step readings reading (is_within from to reading.stamp.ticks) refl distinct has row one)

  -- the same with the limits of the rule
  pub finds_within : (readings : List Reading) (reading : Reading) (limits : Limits) (found : Option Bound) → Distinct (map row_of readings) → IsNamed name readings reading → AreLimits from to least most reading.value limits
      → found ≡ cond (is_within limits.from limits.to reading.stamp.ticks) (Some (value_bound name.rule (place_in name.col reading.stamp) (limit_on name.side limits.least limits.most) name.side)) None
      → Finds (bounds_in_time name.rule name.col from to least most readings) name found
  finds_within readings reading limits found distinct named are is =
      let on = λ (z : ℤ) (u : ℤ) (v : ℤ) (w : ℤ). cond (is_within z u reading.stamp.ticks) (Some (value_bound name.rule (place_in name.col reading.stamp) (limit_on name.side v w) name.side)) None in
      finds_value readings reading found distinct named.member named.row_is named.one
      (is ∙ (ap (λ (z : ℤ). on z limits.to limits.least limits.most) are.from_is ∙ (ap (λ (z : ℤ). on from z limits.least limits.most) are.to_is
      ∙ (ap (λ (z : ℤ). on from to z limits.most) are.least_is ∙ ap (λ (z : ℤ). on from to (least reading.value) z) are.most_is))))

-- ---- the bounds of rule 0

abbrev pub size_on : Place → Side → Option Bound
size_on place side = Some (value_bound 0 place (limit_on side (neg_ℤ MOST_UNITS) MOST_UNITS) side)

pub size_name : (place : Place) (side : Side) (b : Bound) → size_on place side ≡ Some b → b.name ≡ named_so 0 place.row place.row place.col side
size_name place side b is =
    let same : value_bound 0 place (limit_on side (neg_ℤ MOST_UNITS) MOST_UNITS) side ≡ b = cc in
    ap (λ (c : Bound). c.name) (sym same) ∙ value_named 0 place (limit_on side (neg_ℤ MOST_UNITS) MOST_UNITS) side

-- a place that bears no bound of this name
abbrev IsOtherPlace : BoundName → Place → Type 0
IsOtherPlace name place = place.row ≡ name.from_row → place.col ≡ name.col → name.from_row ≡ name.to_row → ⊥

pub no_size : (name : BoundName) (places : List Place) → AllByRecursion (IsOtherPlace name) places → HasNone (size_bounds places) name
no_size name places all =
    none_flat (λ (place : Place). both_sides (size_on place)) name places
    (all_weaker (IsOtherPlace name) (λ (place : Place). HasNone (both_sides (size_on place)) name)
    (λ place other. none_of_both (size_on place) name
    (λ side b is same.
    let so : named_so 0 place.row place.row place.col side ≡ name = sym (size_name place side b is) ∙ same in
    other (ap (λ (n : BoundName). n.from_row) so) (ap (λ (n : BoundName). n.col) so) (sym (ap (λ (n : BoundName). n.from_row) so) ∙ ap (λ (n : BoundName). n.to_row) so)))
    places all)

never_two_rows : (name : BoundName) (places : List Place) → name.from_row ≢ name.to_row → AllByRecursion (IsOtherPlace name) places
never_two_rows name [] other = tt
never_two_rows name (place ∷ places) other = ((λ row col same. other same), never_two_rows name places other)

pub no_size_of_two : (name : BoundName) (places : List Place) → name.from_row ≢ name.to_row → HasNone (size_bounds places) name
no_size_of_two name places other = no_size name places (never_two_rows name places other)

absent : (name : BoundName) (places : List Place) → (Contains places (record { row = name.from_row; col = name.col }) → ⊥) → AllByRecursion (IsOtherPlace name) places
absent name [] none = tt
absent name (place ∷ places) none = (
  (λ row col same.
      let here : place ≡ record { row = name.from_row; col = name.col } = ap (λ (r : ℕ). record { row = r; col = place.col }) row ∙ ap (λ (c : ℕ). record { row = name.from_row; col = c }) col in
      none (subst (λ (p : Place). Contains (place ∷ places) p) here (contains_first place places))),
  absent name places (λ has. none (contains_later place places (record { row = name.from_row; col = name.col }) has)),
)

pub no_size_there : (name : BoundName) (places : List Place) → (Contains places (record { row = name.from_row; col = name.col }) → ⊥) → HasNone (size_bounds places) name
no_size_there name places none = no_size name places (absent name places none)

-- the limit on either side is the greatest size
size_limit : (place : Place) (side : Side) → value_bound 0 place (limit_on side (neg_ℤ MOST_UNITS) MOST_UNITS) side ≡ value_bound 0 place MOST_UNITS side
size_limit place Up = refl
size_limit place Down = refl

pub size_found : (name : BoundName) (places : List Place) (place : Place) (bound : Bound) → name.rule ≡ 0 → place ≡ record { row = name.from_row; col = name.col } → name.from_row ≡ name.to_row → Contains places place
    → bound ≡ value_bound 0 place MOST_UNITS name.side → Contains (size_bounds places) bound × (bound.name ≡ name)
size_found name places place bound zero_rule at one has is =
    let same : bound ≡ value_bound 0 place (limit_on name.side (neg_ℤ MOST_UNITS) MOST_UNITS) name.side = is ∙ sym (size_limit place name.side) in (
      in_flat (λ (p : Place). both_sides (size_on p)) places place bound has (in_both (size_on place) name.side bound (ap Some (sym same))),
      ap (λ (b : Bound). b.name) is
          ∙ (value_named 0 place MOST_UNITS name.side
          ∙ (ap (λ (p : Place). named_so 0 p.row p.row p.col name.side) at
          ∙ (ap (λ (n : ℕ). named_so n name.from_row name.from_row name.col name.side) (sym zero_rule) ∙ ap (λ (n : ℕ). named_so name.rule name.from_row n name.col name.side) one))),
    )

-- ---- the bounds of rows

module _ (number : ℕ) (rule : BetweenRule) where
  of_columns : (n : ℕ) (o q : Option ℕ) (side : Side) (bound : Bound) → between_bound number rule n o q side ≡ Some bound → (p : ℕ) × (o ≡ Some p) × (bound.name ≡ named_so number n n p side)
  of_columns n (Some p) (Some q) side bound is =
      let same : rise_bound number (record { row = n; col = p }) (record { row = n; col = q }) (limit_on side rule.min rule.max) side ≡ bound = cc in
      (p, refl, ap (λ (b : Bound). b.name) (sym same) ∙ rise_named number (record { row = n; col = p }) (record { row = n; col = q }) (limit_on side rule.min rule.max) side)
  of_columns n (Some p) None side bound is = absurd (none_is_some bound is)
  of_columns n None q side bound is = absurd (none_is_some bound is)

  pub row_named : (n first second : ℕ) (row : RowView) (side : Side) (bound : Bound) → between_bound number rule n (col_if_read first row) (col_if_read second row) side ≡ Some bound → bound.name ≡ named_so number n n first side
  row_named n first second row side bound is =
      let of = of_columns n (col_if_read first row) (col_if_read second row) side bound is in
      let same = if_some (is_some (reading_in first row)) first of.0 of.1 in
      of.2 ∙ ap (λ (c : ℕ). named_so number n n c side) (sym same.1)

  pub rows_none : (first second n : ℕ) (rows : List RowView) (name : BoundName)
      → ((m k : ℕ) (row : RowView) (b : Bound) → m ≡ n + k → slice_get rows k ≡ Some row → between_bound number rule m (col_if_read first row) (col_if_read second row) name.side ≡ Some b → name.from_row ≡ m → name.to_row ≡ m → ⊥)
      → HasNone (bounds_in_rows (between_bound number rule) first second n rows) name
  rows_none first second n [] name never = tt
  rows_none first second n (row ∷ rows) name never =
      let here : n ≡ n + 0 = omega arith in
      all_append (λ (b : Bound). b.name ≢ name) (both_sides (between_bound number rule n (col_if_read first row) (col_if_read second row))) (bounds_in_rows (between_bound number rule) first second (suc n) rows)
      (none_of_both (between_bound number rule n (col_if_read first row) (col_if_read second row)) name
      (λ side b is same.
      let so : named_so number n n first side ≡ name = sym (row_named n first second row side b is) ∙ same in
      never n 0 row b here refl (subst (λ (s : Side). between_bound number rule n (col_if_read first row) (col_if_read second row) s ≡ Some b) (ap (λ (m : BoundName). m.side) so) is)
      (sym (ap (λ (m : BoundName). m.from_row) so)) (sym (ap (λ (m : BoundName). m.to_row) so))))
      (rows_none first second (suc n) rows name (λ m k other b number at is from to. never m (suc k) other b (omega (arith, number)) at is from to))

  pub rows_found : (first second n m k : ℕ) (rows : List RowView) (row : RowView) (side : Side) (bound : Bound) → slice_get rows k ≡ Some row → m ≡ n + k
      → between_bound number rule m (col_if_read first row) (col_if_read second row) side ≡ Some bound → Contains (bounds_in_rows (between_bound number rule) first second n rows) bound
  rows_found first second n m k [] row side bound at place is = absurd (none_is_some row at)
  rows_found first second n m zero (r ∷ rows) row side bound at place is =
      let same : row ≡ r = cc in
      let here : m ≡ n = omega (arith, place) in
      Contains-append_left (both_sides (between_bound number rule n (col_if_read first r) (col_if_read second r))) (bounds_in_rows (between_bound number rule) first second (suc n) rows) bound
      (in_both (between_bound number rule n (col_if_read first r) (col_if_read second r)) side bound
      (sym (ap (λ (q : RowView). between_bound number rule n (col_if_read first q) (col_if_read second q) side) same)
      ∙ (sym (ap (λ (i : ℕ). between_bound number rule i (col_if_read first row) (col_if_read second row) side) here) ∙ is)))
  rows_found first second n m (suc k) (r ∷ rows) row side bound at place is =
      Contains-append_right (both_sides (between_bound number rule n (col_if_read first r) (col_if_read second r))) (bounds_in_rows (between_bound number rule) first second (suc n) rows) bound
      (rows_found first second (suc n) m k rows row side bound at (omega (arith, place)) is)

-- the name is of another column
rows_other : (number n first second : ℕ) (rule : BetweenRule) (rows : List RowView) (name : BoundName) → first ≢ name.col → HasNone (bounds_in_rows (between_bound number rule) first second n rows) name
rows_other number n first second rule [] name other = tt
rows_other number n first second rule (row ∷ rows) name other =
    all_append (λ (b : Bound). b.name ≢ name) (both_sides (between_bound number rule n (col_if_read first row) (col_if_read second row))) (bounds_in_rows (between_bound number rule) first second (suc n) rows)
    (none_of_both (between_bound number rule n (col_if_read first row) (col_if_read second row)) name
    (λ side b is same. other (ap (λ (m : BoundName). m.col) (sym (row_named number rule n first second row side b is) ∙ same))))
    (rows_other number (suc n) first second rule rows name other)

pub each_pair_of : {P : Reading × Reading → Type 0} → ((pair : Reading × Reading) → P pair) → (pairs : List (Reading × Reading)) → AllByRecursion P pairs
each_pair_of each [] = tt
each_pair_of each (pair ∷ pairs) = (each pair, each_pair_of each pairs)

pairs_other : (number d col : ℕ) (rule : Rule) (pairs : List (Reading × Reading)) (name : BoundName) → col ≢ name.col → HasNone (bounds_of_pairs (pair_bound number rule d col) pairs) name
pairs_other number d col rule pairs name other =
    none_flat (λ (pair : Reading × Reading). both_sides (pair_bound number rule d col pair.0.stamp pair.1.stamp)) name pairs
    (each_pair_of (λ pair. none_of_both (pair_bound number rule d col pair.0.stamp pair.1.stamp) name
    (λ side b is same. other (ap (λ (n : BoundName). n.col) (sym (of_pair number d col rule pair.0.stamp pair.1.stamp side b is).named ∙ same)))) pairs)

pub kind_elsewhere : (d : ℕ) (rows : List RowView) (number col second : ℕ) (rule : Rule) (name : BoundName) → col ≢ name.col → HasNone (bounds_of_kind each_pair d rows number col second rule) name
kind_elsewhere d rows number col second (speed rule) name other = pairs_other number d col (speed rule) (all_pairs (readings_of col rows)) name other
kind_elsewhere d rows number col second (swing rule) name other = pairs_other number d col (swing rule) (all_pairs (readings_of col rows)) name other
kind_elsewhere d rows number col second (drift rule) name other = pairs_other number d col (drift rule) (all_pairs (readings_of col rows)) name other
kind_elsewhere d rows number col second (range rule) name other = values_elsewhere number col rule.from rule.to (λ value. rule.min) (λ value. rule.max) name (readings_of col rows) other
kind_elsewhere d rows number col second (trust rule) name other = values_elsewhere number col rule.from rule.to (λ value. value) (λ value. value) name (readings_of col rows) other
kind_elsewhere d rows number col second (weight rule) name other = tt
kind_elsewhere d rows number col second (between rule) name other = rows_other number 1 col second rule rows name other

-- the bound of a rule between two columns in the row that the name tells
module _ (rule : BetweenRule) (second : ℕ) (table : TableView) (name : BoundName) where
  pub no_row_of_two : name.from_row ≢ name.to_row → HasNone (bounds_in_rows (between_bound name.rule rule) name.col second 1 table.rows) name
  no_row_of_two other = rows_none name.rule rule name.col second 1 table.rows name (λ m k row b number at is from to. other (from ∙ sym to))

  missing_row : (r : ℕ) → r ≡ name.from_row → None ≡ row_at table r → HasNone (bounds_in_rows (between_bound name.rule rule) name.col second 1 table.rows) name
  missing_row zero is none = rows_none name.rule rule name.col second 1 table.rows name (λ m k row b number at bound from to. absurd (omega (arith, is, number, from)))
  missing_row (suc r) is none =
      rows_none name.rule rule name.col second 1 table.rows name
      (λ m k row b number at bound from to. let same : k ≡ r = omega (arith, is, number, from) in none_is_some row (none ∙ (sym (ap (slice_get table.rows) same) ∙ at)))

  pub no_such_row : None ≡ row_at table name.from_row → HasNone (bounds_in_rows (between_bound name.rule rule) name.col second 1 table.rows) name
  no_such_row none = missing_row name.from_row refl none

  in_row : (r : ℕ) (row : RowView) (found : Option Bound) → r ≡ name.from_row → name.from_row ≡ name.to_row → Some row ≡ row_at table r
      → found ≡ between_bound name.rule rule r (col_if_read name.col row) (col_if_read second row) name.side → Finds (bounds_in_rows (between_bound name.rule rule) name.col second 1 table.rows) name found
  in_row zero row found at one is_row is = absurd (none_is_some row (sym is_row))
  in_row (suc r) row (Some bound) at one is_row is =
      let number : suc r ≡ 1 + r = omega arith in (
        rows_found name.rule rule name.col second 1 (suc r) r table.rows row name.side bound (sym is_row) number (sym is),
        row_named name.rule rule (suc r) name.col second row name.side bound (sym is) ∙ same_name name (suc r) (suc r) at (at ∙ one),
      )
  in_row (suc r) row None at one is_row is =
      rows_none name.rule rule name.col second 1 table.rows name
      (λ m k other b number there bound from to.
      let place : k ≡ r = omega (arith, at, number, from) in
      let same : other ≡ row = some_same (sym there ∙ (ap (slice_get table.rows) place ∙ sym is_row)) in
      let numbered : m ≡ suc r = omega (arith, at, from) in
      none_is_some b (is ∙ (sym (ap (λ (q : RowView). between_bound name.rule rule (suc r) (col_if_read name.col q) (col_if_read second q) name.side) same)
      ∙ (sym (ap (λ (i : ℕ). between_bound name.rule rule i (col_if_read name.col other) (col_if_read second other) name.side) numbered) ∙ bound))))

  pub finds_in_row : (row : RowView) (found : Option Bound) → name.from_row ≡ name.to_row → Some row ≡ row_at table name.from_row
      → found ≡ between_bound name.rule rule name.from_row (col_if_read name.col row) (col_if_read second row) name.side → Finds (bounds_in_rows (between_bound name.rule rule) name.col second 1 table.rows) name found
  finds_in_row row found one is_row is = in_row name.from_row row found refl one is_row is
