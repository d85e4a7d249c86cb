-- To be believed: a series, a whole number of units for each reading, in the order of the readings' places.
use Rattle.std.specs.Prelude.{ℤ, pos, List, [], ◌∷◌, Bool, ◌&&◌, ◌==◌, if◌then◌else◌, Contains}
use Rattle.screen_model.specs.declared.place.Place.{Place}
use Rattle.screen_model.specs.declared.place.End.{End}
use Rattle.screen_model.specs.declared.place.End.TheVariants.{Zero, At}

abbrev pub is_same_place : Place → Place → Bool
is_same_place p q = (p.row == q.row) && (p.col == q.col)

-- the value of the reading at a place, 0 where no reading is there
abbrev pub reading_at : List Place → List ℤ → Place → ℤ
reading_at (q ∷ places) (x ∷ series) p = if is_same_place p q then x else reading_at places series p
reading_at [] series p = pos 0
reading_at (q ∷ places) [] p = pos 0

-- the value at an end of a bound, which is 0 at Zero in every series
abbrev pub value_at : List Place → List ℤ → End → ℤ
value_at places series Zero = pos 0
value_at places series (At p) = reading_at places series p

-- the end is Zero or the reading at one of the places
abbrev pub IsEnd : List Place → End → Type 0
IsEnd places Zero = Unit {0}
IsEnd places (At p) = Contains places p
