-- For proofs: the repair of a column, while the rows that are held are looked at.
use Rattle.std.specs.Prelude.{◌≡◌, ℕ, ◌^◌, ◌<◌, ◌≤◌, ◌⊎◌, ℤ, ◌-ℤ◌, ◌≤ℤ◌, ◌<ℤ◌, List, [], ◌∷◌, length, take, drop, Option, Some, None, if◌then◌else◌}
use Rattle.std.specs.List.{AllByRecursion}
use Rattle.rule_file.specs.Limits.{IsUnits}
use Rattle.series_rows.specs.Row.{RowView}
use Rattle.order_window.specs.declared.key.Key.{Key}
use Rattle.online_repair.specs.Output.{is_small}
use Rattle.online_repair.specs.Rows.{keys_in}
use Rattle.online_repair.specs.declared.track.Track.{Track}

-- each row is later than the one before, and the first later than a time
abbrev pub RisesFrom : ℤ → List RowView → Type 0
RisesFrom ticks [] = Unit {0}
RisesFrom ticks (row ∷ rows) = (ticks <ℤ row.ticks) × RisesFrom row.ticks rows

-- the rows that are held, as far as a column is concerned that is repaired at a time before them
pub record AreHeld (col : ℕ) (ticks : ℤ) (room : ℕ) (held : List RowView) : Type 0 where
  pub rise : RisesFrom ticks held
  pub units : AllByRecursion (λ (key : Key). IsUnits key.value) (keys_in col held)
  pub few : length held < room
  pub room_fits : room < 2 ^ 32

-- the row lies no further than so many ticks past a time
abbrev pub IsNear : ℤ → ℤ → RowView → Type 0
IsNear span ticks row = (row.ticks -ℤ ticks) ≤ℤ span

abbrev pub IsBeyond : ℤ → ℤ → RowView → Type 0
IsBeyond span ticks row = span <ℤ (row.ticks -ℤ ticks)

-- The rows up to `next` were looked at for the window after a time: they lie in it, and its keys are their readings.
pub record IsLooking (col : ℕ) (ticks : ℤ) (track : Track) (held : List RowView) : Type 0 where
  pub span_is : track.span ≡ track.sensor.speed.span
  pub within : track.next ≤ length held
  pub keys_are : track.sensor.keys ≡ keys_in col (take track.next held)
  pub near : AllByRecursion (IsNear track.span ticks) (take track.next held)

-- and those from `next` on lie beyond it
pub record IsLooked (col : ℕ) (ticks : ℤ) (track : Track) (held : List RowView) : Type 0 where
  pub looking : IsLooking col ticks track held
  pub beyond : AllByRecursion (IsBeyond track.span ticks) (drop track.next held)

-- what stays of a track while rows are looked at
pub record IsLike (old new : Track) : Type 0 where
  pub col : new.col ≡ old.col
  pub span : new.span ≡ old.span
  pub seen : new.seen ≡ old.seen
  pub speed : new.sensor.speed ≡ old.sensor.speed
  pub room : new.sensor.room ≡ old.sensor.room
  pub last : new.sensor.last ≡ old.sensor.last

-- the last result is of an earlier time
abbrev pub IsEarlier : ℤ → Option Key → Type 0
IsEarlier ticks None = Unit {0}
IsEarlier ticks (Some last) = last.ticks <ℤ ticks

-- A reading is repaired next, whose row was the oldest that was held: it is the first in the window, or nothing is there.
pub record IsLeaving (col : ℕ) (own : Key) (track : Track) (held : List RowView) : Type 0 where
  pub span_is : track.span ≡ track.sensor.speed.span
  pub within : track.next ≤ length held
  pub keys_are : (track.sensor.keys ≡ own ∷ keys_in col (take track.next held)) ⊎ ((track.sensor.keys ≡ []) × (track.next ≡ 0))
  pub near : AllByRecursion (IsNear track.span own.ticks) (take track.next held)
  pub last : IsEarlier own.ticks track.sensor.last

-- after a result that is small it is the last one
abbrev pub last_after : Option Key → ℤ → ℤ → Option Key
last_after last ticks value = if is_small value then Some (record { value = value; ticks = ticks }) else last

-- a reading may come into a window, if there is one: its value is small, and it is later than all that are there, and near
abbrev pub Fits : ℤ → List Key → ℤ → Option ℤ → Type 0
Fits span keys ticks None = Unit {0}
Fits span keys ticks (Some value) = IsUnits value × AllByRecursion (λ (other : Key). (other.ticks <ℤ ticks) × ((ticks -ℤ other.ticks) ≤ℤ span)) keys
