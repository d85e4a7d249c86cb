-- For proofs: what flow lines add up to.
use Rattle.std.specs.Prelude.{◌≡◌, ℕ, ◌^◌, ◌≤◌, ℤ, ◌+ℤ◌, ◌*ℤ◌, List, [], ◌∷◌, map, unsigned_abs}
use Rattle.std.specs.List.{AllByRecursion}
use Rattle.words.specs.Lists.{inner_product}
use Rattle.screen_model.specs.declared.bound.Bound.{Bound}
use Rattle.screen_model.specs.declared.bound.FlowItem.{FlowItem}
use Rattle.screen_model.specs.declared.place.End.{End}
use Rattle.screen_model.specs.declared.place.Place.{Place}
use Rattle.screen_model.specs.Flow.{one_at, pull, unit_pull}
use Rattle.screen_model.specs.Names.{amounts_of}
use Rattle.rule_file.specs.declared.rules.Rules.{Rules}
use Rattle.series_csv.specs.File.{TableView}
use Rattle.series_csv.specs.Readings.{places}
use Rattle.bound_maker.specs.Costs.{whole_problem}
use Rattle.cert_check.specs.declared.flow.Tally.{Tally}

-- the pulls at these places, with an amount more at an end
abbrev pub added_at : List Place → List ℤ → End → ℤ → List ℤ
added_at (place ∷ places) (pull ∷ pulls) end amount = (pull +ℤ (amount *ℤ one_at place end)) ∷ added_at places pulls end amount
added_at [] pulls end amount = []
added_at (place ∷ places) [] end amount = []

-- the pulls at these places, with an amount more on a bound
abbrev pub added_by : List Place → List ℤ → Bound → ℤ → List ℤ
added_by (place ∷ places) (pull ∷ pulls) bound amount = (pull +ℤ (amount *ℤ unit_pull place bound)) ∷ added_by places pulls bound amount
added_by [] pulls bound amount = []
added_by (place ∷ places) [] bound amount = []

-- each is at most so great in size
abbrev pub AreWithin : ℕ → List ℤ → Type 0
AreWithin most numbers = AllByRecursion (λ number. unsigned_abs number ≤ most) numbers

-- The pulls and the sum over the limits are those of the flow that the lines tell, and the sum is not too great.
pub record IsTally (rules : Rules) (table : TableView) (items : List FlowItem) (tally : Tally) : Type 0 where
  pub pulls : tally.pulls ≡ map (pull (whole_problem rules table).bounds (amounts_of items (whole_problem rules table).bounds)) (places table)
  pub limits : tally.limits ≡ inner_product (amounts_of items (whole_problem rules table).bounds) (map (λ priced. priced.bound.limit) (whole_problem rules table).bounds)
  pub small : unsigned_abs tally.limits ≤ 10 ^ 38
