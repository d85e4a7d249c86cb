-- To be believed: what holds of the bounds that are made, of which a speed rule without a price has those of neighbours
-- alone, and of all bounds.
use Rattle.std.specs.Prelude.{◌≡◌, ℤ, List, map}
use Rattle.words.specs.Lists.{Distinct, IsPart}
use Rattle.screen_model.specs.Best.{IsBest}
use Rattle.screen_model.specs.Cost.{cost, paid}
use Rattle.screen_model.specs.Obeys.{Obeys}
use Rattle.screen_model.specs.Parts.{IsExtended, bounds_with_price}
use Rattle.rule_file.specs.declared.rules.Rules.{Rules}
use Rattle.series_csv.specs.File.{TableView}
use Rattle.series_csv.specs.Readings.{places}
use Rattle.bound_maker.specs.Bounds.{all_bounds}
use Rattle.bound_maker.specs.Costs.{made_problem, whole_problem}

-- no two of all bounds share a name
abbrev pub NamesAreDistinct : Rules → TableView → Type 0
NamesAreDistinct rules table = Distinct (map (λ bound. bound.name) (all_bounds rules table))

-- Those that are made are a part of all, and have all that bear a price.
pub record AreAPart (rules : Rules) (table : TableView) : Type 0 where
  pub part : IsPart (made_problem rules table).bounds (whole_problem rules table).bounds
  pub prices : bounds_with_price (made_problem rules table).bounds ≡ bounds_with_price (whole_problem rules table).bounds

-- A series that obeys those that are made obeys all.
abbrev pub MadeBindAll : Rules → TableView → Type 0
MadeBindAll rules table = (series : List ℤ) → Obeys (places table) series (made_problem rules table).bounds → Obeys (places table) series (whole_problem rules table).bounds

-- It costs and pays over those that are made what it does over all; and what is best over those is best over all.
pub record BestOverMade (rules : Rules) (table : TableView) : Type 0 where
  pub costs : (series : List ℤ) → cost (made_problem rules table) series ≡ cost (whole_problem rules table) series
  pub pays : (series : List ℤ) → paid (made_problem rules table) series ≡ paid (whole_problem rules table) series
  pub best : (series flow extended : List ℤ) → IsExtended (made_problem rules table).bounds flow (whole_problem rules table).bounds extended
      → IsBest (made_problem rules table) series flow → IsBest (whole_problem rules table) series extended
