-- To be believed: what a series makes of the readings of a table, and what it pays for the bounds of each rule.
use Rattle.std.specs.Prelude.{ℕ, ◌==◌, not, ℤ, List, filter, length}
use Rattle.std.specs.List.{range_with_len}
use Rattle.screen_model.specs.declared.bound.Bound.{Bound}
use Rattle.screen_model.specs.Cost.{paid}
use Rattle.rule_file.specs.Numbers.{rules_in_order}
use Rattle.rule_file.specs.declared.rules.Rules.{Rules}
use Rattle.series_csv.specs.File.{TableView}
use Rattle.series_csv.specs.Readings.{places, values}
use Rattle.bound_maker.specs.Bounds.{all_bounds, price_of_number}
use Rattle.bound_maker.specs.Costs.{problem_with, weights}
use Rattle.repair_report.specs.declared.reading.Repaired.{Repaired}
use Rattle.repair_report.specs.Readings.{repaired_from}

-- the readings of a table, with the values of a series
abbrev pub repaired : Rules → TableView → List ℤ → List Repaired
repaired rules table series = repaired_from (places table) (weights rules table) (values table) series

-- the numbers of the rules that have a price
abbrev pub priced_rules : Rules → List ℕ
priced_rules rules = filter (λ number. not (price_of_number rules number == 0)) (range_with_len 1 (length (rules_in_order rules)))

-- the bounds of the rule with this number
abbrev pub bounds_of : ℕ → List Bound → List Bound
bounds_of number bounds = filter (λ bound. bound.name.rule == number) bounds

-- what a series pays for them
abbrev pub paid_for : Rules → TableView → List ℤ → ℕ → ℕ
paid_for rules table series number = paid (problem_with rules table (bounds_of number (all_bounds rules table))) series
