-- For proofs: names of bounds by their numbers.
use Rattle.std.specs.Prelude.{ℕ, ◌/◌, List, [], ◌∷◌, ◌++◌, Option, Some, None, slice_get}
use Rattle.screen_model.specs.declared.bound.Bound.{Bound}
use Rattle.screen_model.specs.declared.bound.BoundName.{BoundName}

abbrev pub name_if_there : Option Bound → List BoundName
name_if_there (Some bound) = bound.name ∷ []
name_if_there None = []

-- the name of the bound of a number, if there is one
abbrev pub names_at : List Bound → ℕ → List BoundName
names_at bounds number = name_if_there (slice_get bounds number)

-- the names of the bounds of arcs by the arcs' numbers
abbrev pub names_on : List Bound → List ℕ → List BoundName
names_on bounds [] = []
names_on bounds (number ∷ numbers) = names_at bounds (number / 2) ++ names_on bounds numbers
