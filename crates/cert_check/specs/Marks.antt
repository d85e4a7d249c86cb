-- For proofs: marks at the ends of bounds.
use Rattle.std.specs.Prelude.{Bool, List, ◌∷◌, map}
use Rattle.screen_model.specs.declared.place.End.{End}
use Rattle.screen_model.specs.declared.place.End.TheVariants.{At, Zero}
use Rattle.screen_model.specs.declared.place.Place.{Place}
use Rattle.cert_check.specs.Cycle.{is_among}

-- Zero, and the readings at these places
abbrev pub ends_of : List Place → List End
ends_of places = Zero ∷ map At places

-- which of the ends are among others
abbrev pub marks_of : List End → List End → List Bool
marks_of others ends = map (is_among others) ends
