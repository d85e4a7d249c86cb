-- For proofs: where the repairs of all columns stand, when some rows were written and others are held.
use Rattle.std.specs.Prelude.{◌≡◌, ℕ, ◌^◌, ◌<◌, ◌≤◌, ℤ, ◌<ℤ◌, List, [], ◌∷◌, length, take, drop, slice_get, Option, Some, None}
use Rattle.std.specs.List.{AllByRecursion}
use Rattle.rule_file.specs.declared.rules.Rules.{Rules}
use Rattle.rule_file.specs.declared.rules.SpeedRule.{SpeedRule}
use Rattle.rule_file.specs.Limits.{IsUnits}
use Rattle.series_rows.specs.Header.{HeaderView}
use Rattle.series_rows.specs.Row.{RowView, Rise, columns}
use Rattle.series_rows.specs.declared.cell.RowReading.{RowReading}
use Rattle.order_window.specs.declared.key.Key.{Key}
use Rattle.online_values.specs.Results.{Speed, result}
use Rattle.online_values.specs.Sensor.{speed_of}
use Rattle.online_repair.specs.Rows.{keys_in}
use Rattle.online_repair.specs.Sensors.{AreTracksOf, place_in}
use Rattle.online_repair.specs.Tracks.{IsBeyond, IsNear, RisesFrom}
use Rattle.online_repair.specs.declared.track.Track.{Track}

-- the result for the latest of these readings, which stand latest first
abbrev pub last_result : Speed → List Key → List Key → Option Key
last_result speed [] later = None
last_result speed (last ∷ earlier) later = Some (record { value = result speed earlier last later; ticks = last.ticks })

-- the first of the rows that are held, up to `next`, lie within the window after the latest of these readings, and no others
abbrev pub IsWindowed : ℤ → List Key → ℕ → List RowView → Type 0
IsWindowed span [] next held = next ≡ 0
IsWindowed span (last ∷ earlier) next held = AllByRecursion (IsNear span last.ticks) (take next held) × AllByRecursion (IsBeyond span last.ticks) (drop next held)

-- A track, when the rows before were written, which stand latest first, and these are held.
pub record IsStanding (rules : Rules) (rule : SpeedRule) (col : ℕ) (before held : List RowView) (track : Track) : Type 0 where
  pub within : track.next ≤ length held
  pub keys_are : track.sensor.keys ≡ keys_in col (take track.next held)
  pub windowed : IsWindowed rule.window (keys_in col before) track.next held
  pub last_is : track.sensor.last ≡ last_result (speed_of rule rules.format.decimals) (keys_in col before) (keys_in col held)

pub record AreStanding (rules : Rules) (header : HeaderView) (before held : List RowView) (tracks : List Track) : Type 0 where
  pub of_rules : AreTracksOf rules header tracks
  pub stands : (col i : ℕ) (rule : SpeedRule) (track : Track) → place_in col tracks ≡ Some i → slice_get rules.speeds i ≡ Some rule → slice_get tracks i ≡ Some track → IsStanding rules rule col before held track

-- a row of a file: its readings are small, and their columns go up
pub record IsSound (row : RowView) : Type 0 where
  pub units : AllByRecursion (λ (reading : RowReading). IsUnits reading.value) row.readings
  pub rise : Rise 0 (columns row.readings) (length row.fields)

-- each row is earlier than the one before it in the list
abbrev pub FallsFrom : ℤ → List RowView → Type 0
FallsFrom ticks [] = Unit {0}
FallsFrom ticks (row ∷ rows) = (row.ticks <ℤ ticks) × FallsFrom row.ticks rows

-- the oldest row that is held, with those before it, which stand latest first, and those after it
pub record AreAbout (hold : ℕ) (before : List RowView) (oldest : RowView) (rest : List RowView) : Type 0 where
  pub falls : FallsFrom oldest.ticks before
  pub rises : RisesFrom oldest.ticks rest
  pub sound : IsSound oldest
  pub sound_rest : AllByRecursion IsSound rest
  pub few : length rest < hold
  pub hold_fits : hold < 2 ^ 32
