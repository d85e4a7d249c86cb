-- A series that obeys the bounds that are made obeys all bounds.
use Rattle.std.proofs.Common.{◌≡◌, ℕ, ℤ, pos, neg_ℤ, ◌<ℤ◌, Bool, true, false, cond, List, [], ◌∷◌, ◌++◌, Option, Some, None, suc, refl, ◌∙◌}
use Rattle.std.specs.Prelude.{option_to_list, ◌==◌}
use Rattle.std.specs.List.{AllByRecursion, flat_map}
use Rattle.std.proofs.lemmas.Bool.{eqb-true, false≢true}
use Rattle.words.proofs.Lists.{all_append, all_from_map, all_map, all_of_append}
use Rattle.screen_model.specs.declared.bound.Bound.{Bound}
use Rattle.screen_model.specs.declared.bound.Side.{Side}
use Rattle.screen_model.specs.declared.bound.Side.TheVariants.{Up, Down}
use Rattle.screen_model.specs.declared.place.Place.{Place}
use Rattle.screen_model.specs.Obeys.{Keeps, Priced}
use Rattle.screen_model.specs.Series.{reading_at}
use Rattle.rule_file.specs.Numbers.{Rule, speed, swing, drift, range, trust, weight, between, rule_of, rules_in_order}
use Rattle.rule_file.specs.declared.rules.Rules.{Rules}
use Rattle.rule_file.specs.declared.rules.SpeedRule.{SpeedRule}
use Rattle.fix_point.specs.Rates.{ceil_step, floor_step}
use Rattle.pair_bounds.specs.Pairs.{elapsed, is_within, place_in, rate_limit, rise_bound}
use Rattle.series_rows.specs.Row.{RowView}
use Rattle.series_csv.specs.File.{TableView}
use Rattle.series_csv.specs.Readings.{places, TimesRise}
use Rattle.bound_maker.specs.declared.reading.Reading.{Reading}
use Rattle.bound_maker.specs.Bounds.{Ruled, all_bounds, both_sides, bounds_of_kind, bounds_of_pairs, bounds_of_rule, col_of, made_bounds, made_pairs, price_of_number, second_col_of, size_bounds, speed_bound, with_columns}
use Rattle.bound_maker.specs.Laws.{MadeBindAll}
use Rattle.bound_maker.specs.Named.{each_pair}
use Rattle.bound_maker.specs.Readings.{all_pairs, before_later, neighbours, reading_in, readings_from, readings_of}
use Rattle.bound_maker.specs.Windows.{StampsRise}
use Rattle.bound_maker.proofs.Chains.{PairKeeps, all_keep, falls, floors}
use Rattle.bound_maker.proofs.Parts.{IsOfNumber, all_ruled, price_is}
use Rattle.bound_maker.proofs.Payments.{with_price}

-- ---- readings of a column go up in time

-- a time is earlier than those of all readings
abbrev pub IsEarlier : ℤ → List Reading → Type 0
IsEarlier ticks readings = AllByRecursion (λ (later : Reading). ticks <ℤ later.stamp.ticks) readings

later_earlier : (ticks : ℤ) (number : ℕ) (row : RowView) (o : Option ℤ) (later : List Reading) → ticks <ℤ row.ticks → IsEarlier ticks later → IsEarlier ticks (before_later number row o later)
later_earlier ticks number row (Some value) later here rest = (here, rest)
later_earlier ticks number row None later here rest = rest

earlier_rows : (ticks : ℤ) (number col : ℕ) (rows : List RowView) → AllByRecursion (λ (later : RowView). ticks <ℤ later.ticks) rows → IsEarlier ticks (readings_from number col rows)
earlier_rows ticks number col [] all = tt
earlier_rows ticks number col (row ∷ rows) all = later_earlier ticks number row (reading_in col row) (readings_from (suc number) col rows) all.0 (earlier_rows ticks (suc number) col rows all.1)

rise_step : (number : ℕ) (row : RowView) (o : Option ℤ) (later : List Reading) → IsEarlier row.ticks later → StampsRise later → StampsRise (before_later number row o later)
rise_step number row (Some value) later earlier rise = (earlier, rise)
rise_step number row None later earlier rise = rise

pub stamps_rise : (number col : ℕ) (rows : List RowView) → TimesRise rows → StampsRise (readings_from number col rows)
stamps_rise number col [] rise = tt
stamps_rise number col (row ∷ rows) rise =
    rise_step number row (reading_in col row) (readings_from (suc number) col rows) (earlier_rows row.ticks (suc number) col rows rise.0) (stamps_rise (suc number) col rows rise.1)

-- ---- one pair

-- a series keeps a bound, if the bound has no price
abbrev pub IsKept : Rules → List Place → List ℤ → Bound → Type 0
IsKept rules places series bound = price_of_number rules bound.name.rule ≡ 0 → Keeps places series bound

from_both : (P : Bound → Type 0) (t : Bool) (up down : Bound) → AllByRecursion P (option_to_list (cond t (Some up) None) ++ option_to_list (cond t (Some down) None)) → t ≡ true → P up × P down
from_both P true up down kept test = (kept.0, kept.1.0)
from_both P false up down kept test = absurd (false≢true test)

to_both : (P : Bound → Type 0) (t : Bool) (up down : Bound) → (t ≡ true → P up × P down) → AllByRecursion P (option_to_list (cond t (Some up) None) ++ option_to_list (cond t (Some down) None))
to_both P true up down keep = let both = keep refl in (both.0, (both.1, tt))
to_both P false up down keep = tt

-- the value of a series at a reading of a column
abbrev pub value_of : List Place → List ℤ → ℕ → Reading → ℤ
value_of places series col reading = reading_at places series (place_in col reading.stamp)

module _ (rules : Rules) (places : List Place) (series : List ℤ) (number : ℕ) (rule : SpeedRule) (d col : ℕ) where
  abbrev pub SpeedKeeps : Reading × Reading → Type 0
  SpeedKeeps = PairKeeps rule.window (value_of places series col) (λ ticks. floor_step rule.max d ticks) (λ ticks. neg_ℤ (ceil_step rule.min d ticks))

  abbrev bound_on : Reading × Reading → Side → Bound
  bound_on pair side =
      rise_bound number (place_in col pair.0.stamp) (place_in col pair.1.stamp) (rate_limit rule.min rule.max d (elapsed pair.0.stamp pair.1.stamp) side) side

  pub keeps_pairs : price_of_number rules number ≡ 0 → (pairs : List (Reading × Reading)) → AllByRecursion (IsKept rules places series) (bounds_of_pairs (speed_bound number rule d col) pairs) → AllByRecursion SpeedKeeps pairs
  keeps_pairs free [] kept = tt
  keeps_pairs free (pair ∷ pairs) kept =
      let parts = all_of_append (IsKept rules places series) (both_sides (speed_bound number rule d col pair.0.stamp pair.1.stamp)) (bounds_of_pairs (speed_bound number rule d col) pairs) kept in (
        λ test. let both = from_both (IsKept rules places series) (is_within (pos 1) rule.window (elapsed pair.0.stamp pair.1.stamp)) (bound_on pair Up) (bound_on pair Down) parts.0 test in (both.0 free, both.1 free),
        keeps_pairs free pairs parts.1,
      )

  pub kept_pairs : (pairs : List (Reading × Reading)) → AllByRecursion SpeedKeeps pairs → AllByRecursion (IsKept rules places series) (bounds_of_pairs (speed_bound number rule d col) pairs)
  kept_pairs [] keep = tt
  kept_pairs (pair ∷ pairs) keep =
      all_append (IsKept rules places series) (both_sides (speed_bound number rule d col pair.0.stamp pair.1.stamp)) (bounds_of_pairs (speed_bound number rule d col) pairs)
      (to_both (IsKept rules places series) (is_within (pos 1) rule.window (elapsed pair.0.stamp pair.1.stamp)) (bound_on pair Up) (bound_on pair Down) (λ test. let both = keep.0 test in (λ free. both.0, λ free. both.1)))
      (kept_pairs pairs keep.1)

-- ---- one rule

speed_bind : (rules : Rules) (places : List Place) (series : List ℤ) (number : ℕ) (rule : SpeedRule) (d col : ℕ) (readings : List Reading) (b : Bool) → (rule.price == 0) ≡ b → price_of_number rules number ≡ rule.price → StampsRise readings
    → AllByRecursion (IsKept rules places series) (bounds_of_pairs (speed_bound number rule d col) (cond b (neighbours readings) (all_pairs readings)))
    → AllByRecursion (IsKept rules places series) (bounds_of_pairs (speed_bound number rule d col) (all_pairs readings))
speed_bind rules places series number rule d col readings false test price rise kept = kept
speed_bind rules places series number rule d col readings true test price rise kept =
    let free : price_of_number rules number ≡ 0 = price ∙ eqb-true rule.price 0 test in
    kept_pairs rules places series number rule d col (all_pairs readings)
    (all_keep rule.window (value_of places series col) (λ ticks. floor_step rule.max d ticks) (λ ticks. neg_ℤ (ceil_step rule.min d ticks))
    (floors rule.max d rule.rates.max.per_least) (falls rule.min d rule.rates.min.per_least) readings rise
    (keeps_pairs rules places series number rule d col free (neighbours readings) kept))

pub kind_bind : (rules : Rules) (places : List Place) (series : List ℤ) (d : ℕ) (rows : List RowView) (number col second : ℕ) (rule : Rule) → rule_of rules number ≡ Some rule → TimesRise rows
    → AllByRecursion (IsKept rules places series) (bounds_of_kind made_pairs d rows number col second rule)
    → AllByRecursion (IsKept rules places series) (bounds_of_kind each_pair d rows number col second rule)
kind_bind rules places series d rows number col second (speed rule) is rise kept =
    speed_bind rules places series number rule d col (readings_of col rows) (rule.price == 0) refl (price_is rules number (speed rule) is) (stamps_rise 1 col rows rise) kept
kind_bind rules places series d rows number col second (swing rule) is rise kept = kept
kind_bind rules places series d rows number col second (drift rule) is rise kept = kept
kind_bind rules places series d rows number col second (range rule) is rise kept = kept
kind_bind rules places series d rows number col second (trust rule) is rise kept = kept
kind_bind rules places series d rows number col second (weight rule) is rise kept = kept
kind_bind rules places series d rows number col second (between rule) is rise kept = kept

rules_bind : (rules : Rules) (places : List Place) (series : List ℤ) (d : ℕ) (rows : List RowView) (ruled : List Ruled) → AllByRecursion (IsOfNumber rules) ruled → TimesRise rows
    → AllByRecursion (IsKept rules places series) (flat_map (bounds_of_rule made_pairs d rows) ruled)
    → AllByRecursion (IsKept rules places series) (flat_map (bounds_of_rule each_pair d rows) ruled)
rules_bind rules places series d rows [] all rise kept = tt
rules_bind rules places series d rows (r ∷ ruled) all rise kept =
    let parts = all_of_append (IsKept rules places series) (bounds_of_rule made_pairs d rows r) (flat_map (bounds_of_rule made_pairs d rows) ruled) kept in
    all_append (IsKept rules places series) (bounds_of_rule each_pair d rows r) (flat_map (bounds_of_rule each_pair d rows) ruled)
    (kind_bind rules places series d rows r.number (col_of r) (second_col_of r) r.rule all.0 rise parts.0)
    (rules_bind rules places series d rows ruled all.1 rise parts.1)

-- ---- all rules

pub made_bind : (rules : Rules) (table : TableView) → TimesRise table.rows → MadeBindAll rules table
made_bind rules table rise series obeys =
    let ps = places table in
    let d = rules.format.decimals in
    let ruled = with_columns 1 (rules_in_order rules) table.header.sensor_cols in
    let kept = all_from_map (λ (p : Priced). p.price ≡ 0 → Keeps ps series p.bound) (with_price rules) (made_bounds rules table) obeys in
    let parts = all_of_append (IsKept rules ps series) (size_bounds ps) (flat_map (bounds_of_rule made_pairs d table.rows) ruled) kept in
    all_map (λ (p : Priced). p.price ≡ 0 → Keeps ps series p.bound) (with_price rules) (all_bounds rules table)
    (all_append (IsKept rules ps series) (size_bounds ps) (flat_map (bounds_of_rule each_pair d table.rows) ruled) parts.0
    (rules_bind rules ps series d table.rows ruled (all_ruled rules table.header.sensor_cols) rise parts.1))
