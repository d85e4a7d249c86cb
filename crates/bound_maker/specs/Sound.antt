-- To be believed: what holds of the problem that is made: of its ends, its limits, its weights and its prices.
use Rattle.std.specs.Prelude.{◌≡◌, ℕ, ◌*◌, ◌^◌, ◌≤◌, unsigned_abs, length}
use Rattle.std.specs.List.{AllByRecursion}
use Rattle.screen_model.specs.Obeys.{HasEnds}
use Rattle.rule_file.specs.declared.rules.Rules.{Rules}
use Rattle.series_csv.specs.File.{TableView}
use Rattle.series_csv.specs.Readings.{places}
use Rattle.bound_maker.specs.Bounds.{all_bounds, made_bounds, price_of_number}
use Rattle.bound_maker.specs.Costs.{weights}

-- Both ends of each bound are Zero or readings, and no limit is too great, of those that are made and of all; there is a
-- weight for each reading; and no weight and no price is too great.
pub record IsSound (rules : Rules) (table : TableView) : Type 0 where
  pub ends : AllByRecursion (HasEnds (places table)) (made_bounds rules table)
  pub limits : AllByRecursion (λ bound. unsigned_abs bound.limit ≤ 4 * 10 ^ 15) (made_bounds rules table)
  pub all_ends : AllByRecursion (HasEnds (places table)) (all_bounds rules table)
  pub all_limits : AllByRecursion (λ bound. unsigned_abs bound.limit ≤ 4 * 10 ^ 15) (all_bounds rules table)
  pub weighted : length (weights rules table) ≡ length (places table)
  pub weights : AllByRecursion (λ weight. weight ≤ 1000) (weights rules table)
  pub prices : (number : ℕ) → price_of_number rules number ≤ 1000
