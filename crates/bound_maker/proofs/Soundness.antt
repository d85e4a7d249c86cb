-- Both ends of each bound are Zero or readings, and its limit is at most 4·10^15 in size.
use Rattle.std.proofs.Common.{◌≡◌, ℕ, suc, ◌≤◌, ◌^◌, ℤ, pos, neg_ℤ, Bool, true, false, cond, List, [], ◌∷◌, drop, length, Option, Some, None, refl, subst, arith}
use Rattle.std.specs.Prelude.{Contains, is_some, option_to_list, unsigned_abs}
use Rattle.std.specs.List.{AllByRecursion, flat_map}
use Rattle.words.proofs.Lists.{all_append, all_weaker, contains_first}
use Rattle.words.proofs.Parts.{part_all}
use Rattle.fix_point.specs.declared.scale.TheConstants.{MOST_UNITS}
use Rattle.screen_model.specs.declared.bound.Bound.{Bound}
use Rattle.screen_model.specs.declared.bound.Side.{Side}
use Rattle.screen_model.specs.declared.bound.Side.TheVariants.{Up, Down}
use Rattle.screen_model.specs.declared.place.Place.{Place}
use Rattle.screen_model.specs.Obeys.{HasEnds}
use Rattle.rule_file.specs.Numbers.{Rule, speed, swing, drift, range, trust, weight, between, rules_in_order, sensor_names}
use Rattle.rule_file.specs.declared.rules.BetweenRule.{BetweenRule}
use Rattle.rule_file.specs.declared.rules.DriftRule.{DriftRule}
use Rattle.rule_file.specs.declared.rules.Rules.{Rules}
use Rattle.rule_file.specs.declared.rules.SpeedRule.{SpeedRule}
use Rattle.rule_file.specs.declared.rules.SwingRule.{SwingRule}
use Rattle.pair_bounds.specs.declared.stamp.Stamp.{Stamp}
use Rattle.pair_bounds.specs.Pairs.{between_bound, drift_bound, elapsed, is_within, limit_on, place_in, rate_limit, rise_bound, swing_bound}
use Rattle.series_rows.specs.Row.{RowView, columns}
use Rattle.series_csv.specs.File.{TableView}
use Rattle.series_csv.specs.Readings.{IsSmall, places, places_from, places_in, values}
use Rattle.bound_maker.specs.declared.reading.Reading.{Reading}
use Rattle.bound_maker.specs.Bounds.{Ruled, both_sides, bounds_in_rows, bounds_in_time, bounds_of_kind, bounds_of_pairs, bounds_of_rule, all_bounds, col_if_read, col_of, second_col_of, size_bounds, speed_bound, value_bound, value_bounds, with_columns}
use Rattle.bound_maker.specs.Named.{each_pair}
use Rattle.bound_maker.specs.Pairs.{IsBounded}
use Rattle.bound_maker.specs.Readings.{all_pairs, reading_in, readings_of}
use Rattle.bound_maker.specs.Sound.{IsSound}
use Rattle.bound_maker.proofs.Chains.{joined}
use Rattle.bound_maker.proofs.Gathered.{readings_small}
use Rattle.bound_maker.proofs.Named.{all_sides}
use Rattle.bound_maker.proofs.Parts.{made_part}
use Rattle.bound_maker.proofs.Reaches.{IsLimited, least_limited, most_limited, opposite_limited, sides_limited, small_limited, test_limited, units_limited}
use Rattle.bound_maker.proofs.Rules.{all_bounded}
use Rattle.bound_maker.proofs.Standing.{AreAmong, BothAre, Stands, all_stand, among_itself, later_among, pairs_are, place_at, row_read_at}
use Rattle.bound_maker.proofs.Weighing.{all_weighted, prices_most, weights_light}

none_is_some : {A : Type 0} (x : A) → ◌≡◌ {A = Option A} None (Some x) → ⊥
none_is_some x e = cc

some_same : {A : Type 0} {x y : A} → ◌≡◌ {A = Option A} (Some x) (Some y) → x ≡ y
some_same e = cc

-- what holds of each bound that is made of elements of a list
flat_all : {A B : Type 0} (Q : A → Type 0) (P : B → Type 0) (f : A → List B) → ((x : A) → Q x → AllByRecursion P (f x)) → (xs : List A) → AllByRecursion Q xs → AllByRecursion P (flat_map f xs)
flat_all Q P f step [] all = tt
flat_all Q P f step (x ∷ xs) all = all_append P (f x) (flat_map f xs) (step x all.0) (flat_all Q P f step xs all.1)

when_test : {B : Type 0} (P : B → Type 0) (t : Bool) (b : B) → (t ≡ true → P b) → AllByRecursion P (option_to_list (cond t (Some b) None))
when_test P true b holds = (holds refl, tt)
when_test P false b holds = tt

list_when : {B : Type 0} (P : B → Type 0) (t : Bool) (bs : List B) → AllByRecursion P bs → AllByRecursion P (cond t bs [])
list_when P true bs all = all
list_when P false bs all = tt

module _ (whole : List Place) where
  -- both ends are Zero or among the places, and the limit is not too great
  abbrev SoundBound : Bound → Type 0
  SoundBound bound = HasEnds whole bound × IsLimited bound.limit

  rise_sound : (number : ℕ) (from to : Place) (limit : ℤ) → Contains whole from → Contains whole to → IsLimited limit → (side : Side) → SoundBound (rise_bound number from to limit side)
  rise_sound number from to limit first second limited Up = ((first, second), limited)
  rise_sound number from to limit first second limited Down = ((second, first), limited)

  value_sound : (number : ℕ) (place : Place) (limit : ℤ) → Contains whole place → IsLimited limit → (side : Side) → SoundBound (value_bound number place limit side)
  value_sound number place limit has limited Up = ((tt, has), limited)
  value_sound number place limit has limited Down = ((has, tt), limited)

  -- ---- one reading

  values_sound : (number : ℕ) (place : Place) (least most : ℤ) → Contains whole place → IsLimited least → IsLimited most → AllByRecursion SoundBound (value_bounds number place least most)
  values_sound number place least most has low high =
      all_sides SoundBound (λ side. Some (value_bound number place (limit_on side least most) side))
      (value_sound number place most has high Up, tt)
      (value_sound number place (neg_ℤ least) has (opposite_limited least low) Down, tt)

  in_time_sound : (number col : ℕ) (from to : ℤ) (least most : ℤ → ℤ) (readings : List Reading) → AllByRecursion (λ (reading : Reading). Stands whole col reading × IsLimited (least reading.value) × IsLimited (most reading.value)) readings
      → AllByRecursion SoundBound (bounds_in_time number col from to least most readings)
  in_time_sound number col from to least most readings all =
      flat_all (λ (reading : Reading). Stands whole col reading × IsLimited (least reading.value) × IsLimited (most reading.value)) SoundBound
      (λ (reading : Reading). cond (is_within from to reading.stamp.ticks) (value_bounds number (place_in col reading.stamp) (least reading.value) (most reading.value)) [])
      (λ reading stands.
      list_when SoundBound (is_within from to reading.stamp.ticks) (value_bounds number (place_in col reading.stamp) (least reading.value) (most reading.value))
      (values_sound number (place_in col reading.stamp) (least reading.value) (most reading.value) stands.0 stands.1 stands.2))
      readings all

  sizes_sound : (part : List Place) → AllByRecursion (Contains whole) part → AllByRecursion SoundBound (size_bounds part)
  sizes_sound part all =
      flat_all (Contains whole) SoundBound (λ (place : Place). value_bounds 0 place (neg_ℤ MOST_UNITS) MOST_UNITS)
      (λ place has. values_sound 0 place (neg_ℤ MOST_UNITS) MOST_UNITS has least_limited most_limited) part all

  -- ---- two readings

  pair_sound : (number col : ℕ) (from to : Stamp) (least most ticks : ℤ) (limit : Side → ℤ) → Contains whole (place_in col from) → Contains whole (place_in col to)
      → (is_within least most ticks ≡ true → (side : Side) → IsLimited (limit side))
      → AllByRecursion SoundBound (both_sides (λ side. cond (is_within least most ticks) (Some (rise_bound number (place_in col from) (place_in col to) (limit side) side)) None))
  pair_sound number col from to least most ticks limit first second limited =
      all_sides SoundBound (λ side. cond (is_within least most ticks) (Some (rise_bound number (place_in col from) (place_in col to) (limit side) side)) None)
      (when_test SoundBound (is_within least most ticks) (rise_bound number (place_in col from) (place_in col to) (limit Up) Up) (λ test. rise_sound number (place_in col from) (place_in col to) (limit Up) first second (limited test Up) Up))
      (when_test SoundBound (is_within least most ticks) (rise_bound number (place_in col from) (place_in col to) (limit Down) Down) (λ test. rise_sound number (place_in col from) (place_in col to) (limit Down) first second (limited test Down) Down))

  speed_sound : (number : ℕ) (rule : SpeedRule) (d col : ℕ) (pairs : List (Reading × Reading)) → IsBounded d (speed rule) → AllByRecursion (BothAre (Stands whole col)) pairs → AllByRecursion SoundBound (bounds_of_pairs (speed_bound number rule d col) pairs)
  speed_sound number rule d col pairs bounded all =
      flat_all (BothAre (Stands whole col)) SoundBound (λ pair. both_sides (speed_bound number rule d col pair.0.stamp pair.1.stamp))
      (λ pair stand.
      let ticks = elapsed pair.0.stamp pair.1.stamp in
      pair_sound number col pair.0.stamp pair.1.stamp (pos 1) rule.window ticks (rate_limit rule.min rule.max d ticks) stand.0 stand.1
      (λ test. test_limited rule.min rule.max d (pos 1) rule.window ticks rule.rates bounded.0 (omega arith) rule.span bounded.1 test))
      pairs all

  drift_sound : (number : ℕ) (rule : DriftRule) (d col : ℕ) (pairs : List (Reading × Reading)) → IsBounded d (drift rule) → AllByRecursion (BothAre (Stands whole col)) pairs → AllByRecursion SoundBound (bounds_of_pairs (drift_bound number rule d col) pairs)
  drift_sound number rule d col pairs bounded all =
      flat_all (BothAre (Stands whole col)) SoundBound (λ pair. both_sides (drift_bound number rule d col pair.0.stamp pair.1.stamp))
      (λ pair stand.
      let ticks = elapsed pair.0.stamp pair.1.stamp in
      pair_sound number col pair.0.stamp pair.1.stamp rule.over rule.window ticks (rate_limit rule.min rule.max d ticks) stand.0 stand.1
      (λ test. test_limited rule.min rule.max d rule.over rule.window ticks rule.rates bounded.0 rule.least rule.span bounded.1 test))
      pairs all

  swing_sound : (number : ℕ) (rule : SwingRule) (col : ℕ) (pairs : List (Reading × Reading)) → AllByRecursion (BothAre (Stands whole col)) pairs → AllByRecursion SoundBound (bounds_of_pairs (swing_bound number rule col) pairs)
  swing_sound number rule col pairs all =
      let most = units_limited rule.most rule.size in
      flat_all (BothAre (Stands whole col)) SoundBound (λ pair. both_sides (swing_bound number rule col pair.0.stamp pair.1.stamp))
      (λ pair stand.
      pair_sound number col pair.0.stamp pair.1.stamp (pos 1) rule.window (elapsed pair.0.stamp pair.1.stamp) (λ side. limit_on side (neg_ℤ rule.most) rule.most) stand.0 stand.1
      (λ test. sides_limited (neg_ℤ rule.most) rule.most (opposite_limited rule.most most) most))
      pairs all

  -- ---- two sensors in one row

  between_step : (number : ℕ) (rule : BetweenRule) (row : ℕ) (a b : Option ℕ) → ((col : ℕ) → a ≡ Some col → Contains whole (place_at row col)) → ((col : ℕ) → b ≡ Some col → Contains whole (place_at row col))
      → AllByRecursion SoundBound (both_sides (between_bound number rule row a b))
  between_step number rule row (Some a) (Some b) first second =
      let low = units_limited rule.min rule.least in
      let high = units_limited rule.max rule.most in
      all_sides SoundBound (between_bound number rule row (Some a) (Some b))
      (rise_sound number (place_at row a) (place_at row b) (limit_on Up rule.min rule.max) (first a refl) (second b refl) (sides_limited rule.min rule.max low high Up) Up, tt)
      (rise_sound number (place_at row a) (place_at row b) (limit_on Down rule.min rule.max) (first a refl) (second b refl) (sides_limited rule.min rule.max low high Down) Down, tt)
  between_step number rule row (Some a) None first second = tt
  between_step number rule row None b first second = tt

  if_read : (n col : ℕ) (o : Option ℤ) → ((value : ℤ) → o ≡ Some value → Contains whole (place_at n col)) → (c : ℕ) → cond (is_some o) (Some col) None ≡ Some c → Contains whole (place_at n c)
  if_read n col (Some value) has c is = subst (λ (k : ℕ). Contains whole (place_at n k)) (some_same is) (has value refl)
  if_read n col None has c is = absurd (none_is_some c is)

  rows_sound : (rule_number : ℕ) (rule : BetweenRule) (first second n : ℕ) (rows : List RowView) → AreAmong (places_from n rows) whole → AllByRecursion SoundBound (bounds_in_rows (between_bound rule_number rule) first second n rows)
  rows_sound rule_number rule first second n [] among = tt
  rows_sound rule_number rule first second n (row ∷ rows) among =
      all_append SoundBound (both_sides (between_bound rule_number rule n (col_if_read first row) (col_if_read second row))) (bounds_in_rows (between_bound rule_number rule) first second (suc n) rows)
      (between_step rule_number rule n (col_if_read first row) (col_if_read second row)
      (if_read n first (reading_in first row) (λ value is. row_read_at n first row rows whole value among is))
      (if_read n second (reading_in second row) (λ value is. row_read_at n second row rows whole value among is)))
      (rows_sound rule_number rule first second (suc n) rows (later_among (places_in n (columns row.readings)) (places_from (suc n) rows) whole among))

-- ---- rules

-- what the rows keep
record AreRows (whole : List Place) (rows : List RowView) : Type 0 where
  among : AreAmong (places_from 1 rows) whole
  stand : (col : ℕ) → AllByRecursion (Stands whole col) (readings_of col rows)
  small : (col : ℕ) → AllByRecursion (λ (reading : Reading). unsigned_abs reading.value ≤ 10 ^ 15) (readings_of col rows)

kind_sound : (whole : List Place) (d : ℕ) (rows : List RowView) (number col second : ℕ) (rule : Rule) → AreRows whole rows → IsBounded d rule
    → AllByRecursion (SoundBound whole) (bounds_of_kind each_pair d rows number col second rule)
kind_sound whole d rows number col second (speed rule) are bounded =
    speed_sound whole number rule d col (all_pairs (readings_of col rows)) bounded (pairs_are (Stands whole col) (readings_of col rows) (are.stand col))
kind_sound whole d rows number col second (swing rule) are bounded =
    swing_sound whole number rule col (all_pairs (readings_of col rows)) (pairs_are (Stands whole col) (readings_of col rows) (are.stand col))
kind_sound whole d rows number col second (drift rule) are bounded =
    drift_sound whole number rule d col (all_pairs (readings_of col rows)) bounded (pairs_are (Stands whole col) (readings_of col rows) (are.stand col))
kind_sound whole d rows number col second (range rule) are bounded =
    let low = units_limited rule.min rule.least in
    let high = units_limited rule.max rule.most in
    in_time_sound whole number col rule.from rule.to (λ value. rule.min) (λ value. rule.max) (readings_of col rows)
    (all_weaker (Stands whole col) (λ (reading : Reading). Stands whole col reading × IsLimited rule.min × IsLimited rule.max) (λ reading stands. (stands, low, high)) (readings_of col rows) (are.stand col))
kind_sound whole d rows number col second (trust rule) are bounded =
    in_time_sound whole number col rule.from rule.to (λ value. value) (λ value. value) (readings_of col rows)
    (joined (Stands whole col) (λ (reading : Reading). unsigned_abs reading.value ≤ 10 ^ 15) (λ (reading : Reading). Stands whole col reading × IsLimited reading.value × IsLimited reading.value)
    (λ reading stands small. (stands, small_limited reading.value small, small_limited reading.value small)) (readings_of col rows) (are.stand col) (are.small col))
kind_sound whole d rows number col second (weight rule) are bounded = tt
kind_sound whole d rows number col second (between rule) are bounded = rows_sound whole number rule col second 1 rows are.among

ruled_bounded : (d n : ℕ) (rules : List Rule) (cols : List ℕ) → AllByRecursion (IsBounded d) rules → AllByRecursion (λ (r : Ruled). IsBounded d r.rule) (with_columns n rules cols)
ruled_bounded d n [] cols all = tt
ruled_bounded d n (rule ∷ rules) cols all = (all.0, ruled_bounded d (suc n) rules (drop (length (sensor_names rule)) cols) all.1)

-- ---- all bounds

all_own : (part whole : List Place) → AreAmong part whole → AllByRecursion (Contains whole) part
all_own [] whole among = tt
all_own (place ∷ part) whole among =
    (among.each place (contains_first place part), all_own part whole (later_among (place ∷ []) part whole among))

all_sound : (rules : Rules) (table : TableView) → AllByRecursion IsSmall (values table) → AllByRecursion (SoundBound (places table)) (all_bounds rules table)
all_sound rules table small =
    let whole = places table in
    let d = rules.format.decimals in
    let ruled = with_columns 1 (rules_in_order rules) table.header.sensor_cols in
    let are : AreRows whole table.rows = record {
      among = among_itself whole;
      stand = λ col. all_stand 1 col table.rows whole (among_itself whole);
      small = λ col. readings_small 1 col table.rows table.rows refl small;
    } in
    all_append (SoundBound whole) (size_bounds whole) (flat_map (bounds_of_rule each_pair d table.rows) ruled)
    (sizes_sound whole whole (all_own whole whole (among_itself whole)))
    (flat_all (λ (r : Ruled). IsBounded d r.rule) (SoundBound whole) (bounds_of_rule each_pair d table.rows)
    (λ r bounded. kind_sound whole d table.rows r.number (col_of r) (second_col_of r) r.rule are bounded)
    ruled (ruled_bounded d 1 (rules_in_order rules) table.header.sensor_cols (all_bounded rules)))

pub is_sound : (rules : Rules) (table : TableView) → AllByRecursion IsSmall (values table) → IsSound rules table
is_sound rules table small =
    let all = all_sound rules table small in
    let ends = all_weaker (SoundBound (places table)) (HasEnds (places table)) (λ bound h. h.0) (all_bounds rules table) all in
    let limits = all_weaker (SoundBound (places table)) (λ (bound : Bound). IsLimited bound.limit) (λ bound h. h.1) (all_bounds rules table) all in
    record {
      ends = part_all (HasEnds (places table)) (made_part rules table) ends;
      limits = part_all (λ (bound : Bound). IsLimited bound.limit) (made_part rules table) limits;
      all_ends = ends;
      all_limits = limits;
      weighted = all_weighted rules table;
      weights = weights_light rules table;
      prices = prices_most rules;
    }
