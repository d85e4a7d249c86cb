-- To be believed: the bounds that rules make of a table.
use Rattle.std.specs.Prelude.{ℕ, suc, ◌==◌, ℤ, pos, neg_ℤ, List, [], ◌∷◌, ◌++◌, length, map, take, drop, get_or, flat_map, option_to_list, is_some, Option, Some, None, if◌then◌else◌}
use Rattle.fix_point.specs.declared.scale.TheConstants.{MOST_UNITS}
use Rattle.screen_model.specs.declared.bound.Bound.{Bound}
use Rattle.screen_model.specs.declared.bound.Side.{Side}
use Rattle.screen_model.specs.declared.bound.Side.TheVariants.{Up, Down}
use Rattle.screen_model.specs.declared.place.End.TheVariants.{At, Zero}
use Rattle.screen_model.specs.declared.place.Place.{Place}
use Rattle.screen_model.specs.Obeys.{Priced}
use Rattle.rule_file.specs.Numbers.{Rule, speed, swing, drift, range, trust, weight, between, rule_of, rules_in_order, sensor_names, price_of}
use Rattle.rule_file.specs.declared.rules.Rules.{Rules}
use Rattle.rule_file.specs.declared.rules.SpeedRule.{SpeedRule}
use Rattle.pair_bounds.specs.declared.stamp.Stamp.{Stamp}
use Rattle.pair_bounds.specs.Pairs.{between_bound, drift_bound, elapsed, is_within, limit_on, place_in, rate_limit, rise_bound, swing_bound}
use Rattle.series_rows.specs.Row.{RowView}
use Rattle.series_csv.specs.File.{TableView}
use Rattle.series_csv.specs.Readings.{places}
use Rattle.bound_maker.specs.declared.reading.Reading.{Reading}
use Rattle.bound_maker.specs.Readings.{all_pairs, neighbours, reading_in, readings_of}

-- ---- the bounds of one reading

-- the bound of a rule on a value: at least the one number and at most the other
abbrev pub value_bound : ℕ → Place → ℤ → Side → Bound
value_bound number place limit Up = record {
  name = record { rule = number; from_row = place.row; to_row = place.row; col = place.col; side = Up };
  first = Zero;
  second = At place;
  limit = limit;
}
value_bound number place limit Down = record {
  name = record { rule = number; from_row = place.row; to_row = place.row; col = place.col; side = Down };
  first = At place;
  second = Zero;
  limit = limit;
}

-- ---- the bounds of two readings

-- A speed rule speaks of two readings of which one is later, by no more than the window.
abbrev pub speed_bound : ℕ → SpeedRule → ℕ → ℕ → Stamp → Stamp → Side → Option Bound
speed_bound number rule d col from to side =
    if is_within (pos 1) rule.window (elapsed from to)
    then Some (rise_bound number (place_in col from) (place_in col to) (rate_limit rule.min rule.max d (elapsed from to) side) side)
    else None

-- ---- the bounds of rules

-- up, and then down
abbrev pub both_sides : (Side → Option Bound) → List Bound
both_sides bound = option_to_list (bound Up) ++ option_to_list (bound Down)

-- a value between two numbers
abbrev pub value_bounds : ℕ → Place → ℤ → ℤ → List Bound
value_bounds number place least most = both_sides (λ side. Some (value_bound number place (limit_on side least most) side))

-- the bounds of the readings in a column at times from one to another, each between two numbers that its value tells
abbrev pub bounds_in_time : ℕ → ℕ → ℤ → ℤ → (ℤ → ℤ) → (ℤ → ℤ) → List Reading → List Bound
bounds_in_time number col from to least most readings =
    flat_map (λ reading. if is_within from to reading.stamp.ticks then value_bounds number (place_in col reading.stamp) (least reading.value) (most reading.value) else []) readings

-- the bounds of pairs of readings
abbrev pub bounds_of_pairs : (Stamp → Stamp → Side → Option Bound) → List (Reading × Reading) → List Bound
bounds_of_pairs bound pairs = flat_map (λ pair. both_sides (bound pair.0.stamp pair.1.stamp)) pairs

-- the column, if the row has a reading there
abbrev pub col_if_read : ℕ → RowView → Option ℕ
col_if_read col row = if is_some (reading_in col row) then Some col else None

-- the bounds between two columns of rows, of which the first has the number given
abbrev pub bounds_in_rows : (ℕ → Option ℕ → Option ℕ → Side → Option Bound) → ℕ → ℕ → ℕ → List RowView → List Bound
bounds_in_rows bound first second number [] = []
bounds_in_rows bound first second number (row ∷ rows) =
    both_sides (bound number (col_if_read first row) (col_if_read second row)) ++ bounds_in_rows bound first second (suc number) rows

-- a rule with its number and the columns of its sensors
pub record Ruled : Type 0 where
  pub number : ℕ
  pub rule : Rule
  pub cols : List ℕ

-- the column of the rule's sensor, or of its first one; and of its second one
abbrev pub col_of : Ruled → ℕ
col_of ruled = get_or ruled.cols 0 0

abbrev pub second_col_of : Ruled → ℕ
second_col_of ruled = get_or ruled.cols 1 0

-- Rules with their numbers, of which the first is given, and with the columns of their sensors, which stand in the order
-- of the rules' numbers.
abbrev pub with_columns : ℕ → List Rule → List ℕ → List Ruled
with_columns number [] cols = []
with_columns number (rule ∷ rules) cols =
    record { number = number; rule = rule; cols = take (length (sensor_names rule)) cols }
    ∷ with_columns (suc number) rules (drop (length (sensor_names rule)) cols)

-- The bounds of one rule over the rows, where a unit is 10^-d. Of a speed rule these pairs of readings are looked at.
module _ (speed_pairs : SpeedRule → List Reading → List (Reading × Reading)) (d : ℕ) (rows : List RowView) where
  abbrev pub bounds_of_kind : ℕ → ℕ → ℕ → Rule → List Bound
  bounds_of_kind number col second (speed rule) = bounds_of_pairs (speed_bound number rule d col) (speed_pairs rule (readings_of col rows))
  bounds_of_kind number col second (swing rule) = bounds_of_pairs (swing_bound number rule col) (all_pairs (readings_of col rows))
  bounds_of_kind number col second (drift rule) = bounds_of_pairs (drift_bound number rule d col) (all_pairs (readings_of col rows))
  bounds_of_kind number col second (range rule) = bounds_in_time number col rule.from rule.to (λ value. rule.min) (λ value. rule.max) (readings_of col rows)
  bounds_of_kind number col second (trust rule) = bounds_in_time number col rule.from rule.to (λ value. value) (λ value. value) (readings_of col rows)
  bounds_of_kind number col second (weight rule) = []
  bounds_of_kind number col second (between rule) = bounds_in_rows (between_bound number rule) col second 1 rows

  abbrev pub bounds_of_rule : Ruled → List Bound
  bounds_of_rule ruled = bounds_of_kind ruled.number (col_of ruled) (second_col_of ruled) ruled.rule

-- Rule 0: the value of each reading is at most 10^15 in size.
abbrev pub size_bounds : List Place → List Bound
size_bounds places = flat_map (λ place. value_bounds 0 place (neg_ℤ MOST_UNITS) MOST_UNITS) places

-- the bounds of all rules, in the order of their numbers
abbrev pub bounds_with : (SpeedRule → List Reading → List (Reading × Reading)) → Rules → TableView → List Bound
bounds_with speed_pairs rules table =
    size_bounds (places table)
    ++ flat_map (bounds_of_rule speed_pairs rules.format.decimals table.rows) (with_columns 1 (rules_in_order rules) table.header.sensor_cols)

-- ---- all bounds, and those that are made

-- All bounds: a speed rule speaks of each two readings of its sensor.
abbrev pub all_bounds : Rules → TableView → List Bound
all_bounds = bounds_with (λ rule readings. all_pairs readings)

-- Those that are made: of a speed rule without a price, the bounds of neighbours alone. The others follow from these.
abbrev pub made_pairs : SpeedRule → List Reading → List (Reading × Reading)
made_pairs rule readings = if rule.price == 0 then neighbours readings else all_pairs readings

abbrev pub made_bounds : Rules → TableView → List Bound
made_bounds = bounds_with made_pairs

-- ---- prices

-- the price of a rule, and 0 where there is none
abbrev pub price_if : Option Rule → ℕ
price_if (Some rule) = price_of rule
price_if None = 0

-- the price of the rule of this number, and 0 where it has none, as rule 0
abbrev pub price_of_number : Rules → ℕ → ℕ
price_of_number rules number = price_if (rule_of rules number)

-- bounds, each with the price of its rule
abbrev pub priced : Rules → List Bound → List Priced
priced rules bounds = map (λ bound. record { bound = bound; price = price_of_number rules bound.name.rule }) bounds
