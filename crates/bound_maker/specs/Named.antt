-- For proofs: what a search for the bound with a name answers.
use Rattle.std.specs.Prelude.{◌≡◌, ◌≢◌, ℕ, List, Option, Contains, MatchOption}
use Rattle.std.specs.List.{AllByRecursion}
use Rattle.screen_model.specs.declared.bound.Bound.{Bound}
use Rattle.screen_model.specs.declared.bound.BoundName.{BoundName}
use Rattle.rule_file.specs.declared.rules.SpeedRule.{SpeedRule}
use Rattle.bound_maker.specs.declared.reading.Reading.{Reading}
use Rattle.bound_maker.specs.Readings.{all_pairs}

-- no bound of the list has the name
abbrev pub HasNone : List Bound → BoundName → Type 0
HasNone bounds name = AllByRecursion (λ (bound : Bound). bound.name ≢ name) bounds

-- the bound of the list that has the name, or nothing where none has it
abbrev pub Finds : List Bound → BoundName → Option Bound → Type 0
Finds bounds name found = MatchOption found (HasNone bounds name) (λ bound. Contains bounds bound × (bound.name ≡ name))

-- none of the readings is in the row
abbrev pub AreElsewhere : ℕ → List Reading → Type 0
AreElsewhere row readings = AllByRecursion (λ (reading : Reading). reading.stamp.row ≢ row) readings

-- none of the readings is that of the one row that the name tells
abbrev pub AreUnnamed : BoundName → List Reading → Type 0
AreUnnamed name readings = AllByRecursion (λ (reading : Reading). reading.stamp.row ≡ name.from_row → name.from_row ≡ name.to_row → ⊥) readings

-- the reading is that of the one row that the name tells
pub record IsNamed (name : BoundName) (readings : List Reading) (reading : Reading) : Type 0 where
  pub member : Contains readings reading
  pub row_is : reading.stamp.row ≡ name.from_row
  pub one : name.from_row ≡ name.to_row

-- of a speed rule all pairs of readings are looked at
abbrev pub each_pair : SpeedRule → List Reading → List (Reading × Reading)
each_pair rule readings = all_pairs readings
