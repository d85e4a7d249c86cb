-- To be believed: which bound of a list a series does not obey.
use Rattle.std.specs.Prelude.{◌==◌, Bool, not, ◌&&◌, int_le, ℤ, List, Option, option_map}
use Rattle.std.specs.List.{find}
use Rattle.screen_model.specs.declared.bound.Bound.{Bound}
use Rattle.screen_model.specs.declared.bound.BoundName.{BoundName}
use Rattle.screen_model.specs.Obeys.{rise}
use Rattle.rule_file.specs.declared.rules.Rules.{Rules}
use Rattle.series_csv.specs.File.{TableView}
use Rattle.series_csv.specs.Readings.{places}
use Rattle.bound_maker.specs.Bounds.{price_of_number}

-- the bound has no price, and the series rises by more than its limit
abbrev pub is_broken : Rules → TableView → List ℤ → Bound → Bool
is_broken rules table series bound = (price_of_number rules bound.name.rule == 0) && not (int_le (rise (places table) series bound) bound.limit)

-- the name of the first such bound of the list, if there is one
abbrev pub first_broken : Rules → TableView → List Bound → List ℤ → Option BoundName
first_broken rules table bounds series = option_map (λ bound. bound.name) (find (is_broken rules table series) bounds)
