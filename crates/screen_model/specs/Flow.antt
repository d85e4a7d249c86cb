-- To be believed: flows on bounds, the dual of the least cost. A flow over a list of bounds is a list of amounts, one for
-- each bound, at the bound's place: so much flows on it from its first end to its second, 0 where nothing does.
use Rattle.std.specs.Prelude.{◌<◌, ◌≤◌, ℤ, pos, neg_ℤ, ◌-ℤ◌, ◌≤ℤ◌, if◌then◌else◌, List, map, unsigned_abs}
use Rattle.std.specs.List.{AllZip}
use Rattle.screen_model.specs.declared.place.Place.{Place}
use Rattle.screen_model.specs.declared.place.End.{End}
use Rattle.screen_model.specs.declared.place.End.TheVariants.{Zero, At}
use Rattle.screen_model.specs.declared.bound.Bound.{Bound}
use Rattle.words.specs.Lists.{inner_product}
use Rattle.screen_model.specs.Series.{is_same_place}
use Rattle.screen_model.specs.Obeys.{Priced}
use Rattle.screen_model.specs.Cost.{Problem}

-- 1 where the end is the reading at the place, and else 0
abbrev pub one_at : Place → End → ℤ
one_at p Zero = pos 0
one_at p (At q) = if is_same_place p q then pos 1 else pos 0

-- How an amount of 1 on a bound pulls at a reading: by 1 where the bound begins there, and by -1 where it ends there.
abbrev pub unit_pull : Place → Bound → ℤ
unit_pull p bound = one_at p bound.first -ℤ one_at p bound.second

-- How a flow pulls at a reading: what leaves it, on bounds that begin there, less what enters it, on bounds that
-- end there.
abbrev pub pull : List Priced → List ℤ → Place → ℤ
pull bounds flow p = inner_product flow (map (λ priced. unit_pull p priced.bound) bounds)

-- An amount is not below 0, and on a bound that has a price it is at most the price.
abbrev pub CanCarry : Priced → ℤ → Type 0
CanCarry priced amount = (pos 0 ≤ℤ amount) × (0 < priced.price → amount ≤ℤ pos priced.price)

-- There is an amount for each bound, one that the bound can carry, and a weight for each reading, and each reading
-- is pulled by at most its weight.
pub record IsAdmissible (problem : Problem) (flow : List ℤ) : Type 0 where
  pub amounts : AllZip CanCarry problem.bounds flow
  pub pulls : AllZip (λ p weight. unsigned_abs (pull problem.bounds flow p) ≤ weight) problem.places problem.weights

-- What every series that obeys costs at least, by an admissible flow: each amount counts against the limit of its
-- bound, and each pull against the value that was read.
abbrev pub dual_value : Problem → List ℤ → ℤ
dual_value problem flow =
    neg_ℤ (inner_product flow (map (λ priced. priced.bound.limit) problem.bounds))
    -ℤ inner_product problem.values (map (pull problem.bounds flow) problem.places)
