-- To be believed: what the two bounds on a rise say together.
use Rattle.std.specs.Prelude.{◌↔◌, ℕ, ℤ, ◌-ℤ◌, ◌≤ℤ◌, List}
use Rattle.screen_model.specs.declared.bound.Side.TheVariants.{Up, Down}
use Rattle.screen_model.specs.declared.place.End.TheVariants.{At}
use Rattle.screen_model.specs.declared.place.Place.{Place}
use Rattle.screen_model.specs.Obeys.{Keeps}
use Rattle.screen_model.specs.Series.{value_at}
use Rattle.pair_bounds.specs.Pairs.{limit_on, rise_bound}

-- how far the value at one place lies above that at another
abbrev pub rise_between : List Place → List ℤ → Place → Place → ℤ
rise_between places series from to = value_at places series (At to) -ℤ value_at places series (At from)

-- Both bounds are kept exactly where the rise is at least the one number and at most the other.
abbrev pub RisesAreLimited : Type 0
RisesAreLimited = (places : List Place) (series : List ℤ) (number : ℕ) (from to : Place) (least most : ℤ)
    → (Keeps places series (rise_bound number from to (limit_on Up least most) Up) × Keeps places series (rise_bound number from to (limit_on Down least most) Down))
    ↔ ((least ≤ℤ rise_between places series from to) × (rise_between places series from to ≤ℤ most))
