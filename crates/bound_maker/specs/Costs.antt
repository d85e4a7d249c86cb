-- To be believed: the weights of readings, and the problem that rules make of a table.
use Rattle.std.specs.Prelude.{ℕ, ◌==◌, ◌&&◌, ℤ, List, [], ◌∷◌, map, flat_map, filter_map, Option, Some, None, if◌then◌else◌}
use Rattle.rule_file.specs.Numbers.{Rule, speed, swing, drift, range, trust, weight, between, rules_in_order}
use Rattle.rule_file.specs.declared.rules.Rules.{Rules}
use Rattle.screen_model.specs.declared.bound.Bound.{Bound}
use Rattle.screen_model.specs.Cost.{Problem}
use Rattle.pair_bounds.specs.Pairs.{is_within}
use Rattle.series_rows.specs.Row.{RowView}
use Rattle.series_rows.specs.declared.cell.RowReading.{RowReading}
use Rattle.series_csv.specs.File.{TableView}
use Rattle.series_csv.specs.Readings.{places, values}
use Rattle.bound_maker.specs.Bounds.{Ruled, col_of, with_columns, made_bounds, all_bounds, priced}

-- the weight that a rule of this column gives to a reading there at this time, if it is a weight rule that covers it
abbrev pub weight_by : ℕ → ℤ → ℕ → Rule → Option ℕ
weight_by col ticks rule_col (weight rule) = if (rule_col == col) && is_within rule.from rule.to ticks then Some rule.weight else None
weight_by col ticks rule_col (speed rule) = None
weight_by col ticks rule_col (swing rule) = None
weight_by col ticks rule_col (drift rule) = None
weight_by col ticks rule_col (range rule) = None
weight_by col ticks rule_col (trust rule) = None
weight_by col ticks rule_col (between rule) = None

-- the last of the numbers, and 1 where there is none
abbrev pub last_or_one : List ℕ → ℕ
last_or_one [] = 1
last_or_one (n ∷ []) = n
last_or_one (m ∷ n ∷ ns) = last_or_one (n ∷ ns)

-- The weight of a reading: that of the weight rule with the greatest number that covers it, and 1 where none does.
abbrev pub weight_of : List Ruled → ℕ → ℤ → ℕ
weight_of ruled col ticks = last_or_one (filter_map (λ r. weight_by col ticks (col_of r) r.rule) ruled)

-- the weights of readings of a row at this time
abbrev pub weights_at : List Ruled → ℤ → List RowReading → List ℕ
weights_at ruled ticks readings = map (λ (reading : RowReading). weight_of ruled reading.col ticks) readings

-- the weights of the readings of a row
abbrev pub weights_in : List Ruled → RowView → List ℕ
weights_in ruled row = weights_at ruled row.ticks row.readings

-- the weights of all readings
abbrev pub weights : Rules → TableView → List ℕ
weights rules table = flat_map (weights_in (with_columns 1 (rules_in_order rules) table.header.sensor_cols)) table.rows

-- the problem with these bounds, each with the price of its rule
abbrev pub problem_with : Rules → TableView → List Bound → Problem
problem_with rules table bounds = record { places = places table; values = values table; weights = weights rules table; bounds = priced rules bounds }

-- The problem with all bounds, and with those that are made.
abbrev pub whole_problem : Rules → TableView → Problem
whole_problem rules table = problem_with rules table (all_bounds rules table)

abbrev pub made_problem : Rules → TableView → Problem
made_problem rules table = problem_with rules table (made_bounds rules table)
