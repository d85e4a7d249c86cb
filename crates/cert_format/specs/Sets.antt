-- To be believed: the set lines of a series, and the series of set lines.
use Rattle.std.specs.Prelude.{◌≡◌, ℤ, if◌then◌else◌, List, [], ◌∷◌, length}
use Rattle.std.specs.Ordering.{int_eq}
use Rattle.words.specs.Lists.{Distinct}
use Rattle.screen_model.specs.declared.place.Place.{Place}
use Rattle.screen_model.specs.Series.{is_same_place}
use Rattle.cert_format.specs.declared.cert.SetLine.{SetLine}

-- ---- the series of set lines

-- the value of the reading at a place after these set lines
abbrev pub value_set : Place → ℤ → List SetLine → ℤ
value_set place value [] = value
value_set place value (line ∷ sets) = value_set place (if is_same_place line.place place then line.value else value) sets

-- the values of the readings at these places after these set lines
abbrev pub series_set : List Place → List ℤ → List SetLine → List ℤ
series_set (place ∷ places) (value ∷ values) sets = value_set place value sets ∷ series_set places values sets
series_set [] values sets = []
series_set (place ∷ places) [] sets = []

-- ---- the set lines of a series

-- a set line more, where the value is another one
abbrev pub with_set : Place → ℤ → ℤ → List SetLine → List SetLine
with_set place value x sets = if int_eq x value then sets else record { place = place; value = x } ∷ sets

-- the readings that a series changes, in their order, each with its new value
abbrev pub sets_of : List Place → List ℤ → List ℤ → List SetLine
sets_of (place ∷ places) (value ∷ values) (x ∷ series) = with_set place value x (sets_of places values series)
sets_of [] values series = []
sets_of (place ∷ places) [] series = []
sets_of (place ∷ places) (value ∷ values) [] = []

-- The set lines of a series give the series again, where no two readings share a place.
abbrev pub SetsTellSeries : Type 0
SetsTellSeries = (places : List Place) (values series : List ℤ) → Distinct places → length values ≡ length places → length series ≡ length places
    → series_set places values (sets_of places values series) ≡ series
