-- Bounds of small networks: the ranges of readings that stand in column 2, a second apart, from row 1 on.
use Rattle.std.proofs.Common.{◌≡◌, ℕ, suc, ◌^◌, ◌<◌, ℤ, pos, List, length, get_or, refl}
use Rattle.screen_model.specs.declared.place.Place.{Place}
use Rattle.screen_model.specs.declared.place.End.{End}
use Rattle.screen_model.specs.declared.place.End.TheVariants.{Zero, At}
use Rattle.screen_model.specs.declared.bound.Bound.{Bound}
use Rattle.screen_model.specs.declared.bound.Side.TheVariants.{Up}
use Rattle.screen_model.specs.Obeys.{Priced}
use Rattle.flow_core.specs.Layout.{HasBound, IsRanged}

-- the place of the reading in a row
abbrev pub in_row : ℕ → Place
in_row row = record { row = row; col = 2 }

-- a bound between two ends
abbrev pub between : End → End → ℤ → Bound
between first second limit = record { name = record { rule = 1; from_row = 1; to_row = 1; col = 2; side = Up }; first = first; second = second; limit = limit }

abbrev pub at_most : ℕ → Bound
at_most row = between Zero (At (in_row row)) (pos (10 ^ 15))

abbrev pub at_least : ℕ → Bound
at_least row = between (At (in_row row)) Zero (pos (10 ^ 15))

abbrev pub free : Bound → Priced
free bound = record { bound = bound; price = 0 }

has : (bounds : List Priced) (k : ℕ) (bound : Bound) → k < length bounds → get_or bounds k (free bound) ≡ free bound → HasBound bounds bound.first bound.second bound.limit
has bounds k bound below at = (k, free bound, below, at, (refl, refl, refl, refl))

-- two bounds that stand one after the other are the range of a reading
pub ranged_by : (bounds : List Priced) (k row : ℕ) → k < length bounds → suc k < length bounds → get_or bounds k (free (at_most row)) ≡ free (at_most row) → get_or bounds (suc k) (free (at_least row)) ≡ free (at_least row)
    → IsRanged bounds (in_row row)
ranged_by bounds k row below next high low = (has bounds k (at_most row) below high, has bounds (suc k) (at_least row) next low)
