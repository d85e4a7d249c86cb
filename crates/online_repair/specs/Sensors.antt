-- For proofs: the repairs of all columns, between the rows that were written and those that are held.
use Rattle.std.specs.Prelude.{◌≡◌, ℕ, ℤ, ◌-◌, ◌-ℤ◌, ◌<ℤ◌, List, [], ◌∷◌, map, slice_get, slice_set, int_le, int_lt, ◌&&◌, Bool, false, Option, Some, None}
use Rattle.std.specs.List.{AllZip, position}
use Rattle.rule_file.specs.declared.rules.Rules.{Rules}
use Rattle.rule_file.specs.declared.rules.SpeedRule.{SpeedRule}
use Rattle.series_rows.specs.Header.{HeaderView, column_of}
use Rattle.series_rows.specs.Row.{RowView}
use Rattle.series_rows.specs.declared.cell.RowReading.{RowReading}
use Rattle.order_window.specs.Window.{Window}
use Rattle.order_window.specs.declared.key.Key.{Key}
use Rattle.online_values.specs.Results.{Speed, clamped_after, greatest_step, least_step, median_before, successors}
use Rattle.online_values.specs.Sensor.{speed_of, window_in}
use Rattle.online_repair.specs.Rows.{is_column, keys_in}
use Rattle.online_repair.specs.Tracks.{AreHeld, IsLeaving, IsLike, IsLooked, last_after}
use Rattle.online_repair.specs.declared.track.Track.{Track}

-- the place of the track of a column, if there is one
abbrev pub place_in : ℕ → List Track → Option ℕ
place_in col tracks = position (λ (track : Track). is_column col track.col) tracks

-- the columns of the tracks, which stay
abbrev pub cols : List Track → List (Option ℕ)
cols tracks = map (λ (track : Track). track.col) tracks

-- a track is that of a rule
pub record IsTrackOf (rules : Rules) (header : HeaderView) (rule : SpeedRule) (track : Track) : Type 0 where
  pub col : track.col ≡ column_of header rule.sensor
  pub span : track.span ≡ rule.window
  pub speed : track.sensor.speed ≡ speed_of rule rules.format.decimals
  pub room : track.sensor.room ≡ rules.format.hold

abbrev pub AreTracksOf : Rules → HeaderView → List Track → Type 0
AreTracksOf rules header tracks = AllZip (IsTrackOf rules header) rules.speeds tracks

-- the time of the latest of these readings, which stand latest first
abbrev pub latest : List Key → Option ℤ
latest [] = None
latest (last ∷ earlier) = Some last.ticks

-- each track has seen the accepted rows, which stand latest first
abbrev pub HaveSeen : List RowView → List Track → Type 0
HaveSeen rows tracks = (col i : ℕ) (track : Track) → place_in col tracks ≡ Some i → slice_get tracks i ≡ Some track → track.seen ≡ latest (keys_in col rows)

-- a track that has seen nothing
pub record IsNew (track : Track) : Type 0 where
  pub seen : track.seen ≡ None
  pub next : track.next ≡ 0
  pub keys : track.sensor.keys ≡ []
  pub last : track.sensor.last ≡ None

-- the last reading that a track has seen is of an earlier time
abbrev pub IsTimeBefore : ℤ → Option ℤ → Type 0
IsTimeBefore now None = Unit {0}
IsTimeBefore now (Some before) = before <ℤ now

abbrev pub WasSeenBefore : ℤ → Track → Type 0
WasSeenBefore now track = IsTimeBefore now track.seen

-- so are the tracks that columns have
abbrev pub WereSeenBefore : ℤ → List Track → Type 0
WereSeenBefore now tracks = (col i : ℕ) (track : Track) → place_in col tracks ≡ Some i → slice_get tracks i ≡ Some track → WasSeenBefore now track

-- no whole step leads from a time to a later one within the window
abbrev pub lacks_step_after : Speed → Option ℤ → ℤ → Bool
lacks_step_after speed None now = false
lacks_step_after speed (Some before) now = int_le (now -ℤ before) speed.span && int_lt (greatest_step speed (now -ℤ before)) (least_step speed (now -ℤ before))

abbrev pub lacks_step_of : Option Track → ℤ → Bool
lacks_step_of None now = false
lacks_step_of (Some track) now = lacks_step_after track.sensor.speed track.seen now

abbrev pub lacks_step_at : Option ℕ → List Track → ℤ → Bool
lacks_step_at None tracks now = false
lacks_step_at (Some i) tracks now = lacks_step_of (slice_get tracks i) now

-- the tracks after a reading was accepted, and after those of a row
abbrev pub see_track : ℤ → Track → Track
see_track ticks track = record { col = track.col; span = track.span; sensor = track.sensor; seen = Some ticks; next = track.next }

abbrev pub seen_of : ℤ → ℕ → Option Track → List Track → List Track
seen_of ticks i None tracks = tracks
seen_of ticks i (Some track) tracks = slice_set tracks i (see_track ticks track)

abbrev pub seen_at : ℤ → Option ℕ → List Track → List Track
seen_at ticks None tracks = tracks
seen_at ticks (Some i) tracks = seen_of ticks i (slice_get tracks i) tracks

abbrev pub all_seen : ℤ → List RowReading → List Track → List Track
all_seen ticks [] tracks = tracks
all_seen ticks (reading ∷ readings) tracks = all_seen ticks readings (seen_at ticks (place_in reading.col tracks) tracks)

-- a track after the oldest row has left those that are held
abbrev pub passed : Track → Track
passed track = record { col = track.col; span = track.span; sensor = track.sensor; seen = track.seen; next = track.next - 1 }

abbrev pub key_of : RowReading → ℤ → Key
key_of reading ticks = record { value = reading.value; ticks = ticks }

-- the track at a place, if there is one, may repair a reading of the row that has left
abbrev pub IsReadyOf : Option Track → ℕ → Key → List RowView → Type 0
IsReadyOf None col own held = Unit {0}
IsReadyOf (Some track) col own held = AreHeld col own.ticks track.sensor.room held × IsLeaving col own track held

abbrev pub IsReadyAt : Option ℕ → List Track → ℕ → Key → List RowView → Type 0
IsReadyAt None tracks col own held = Unit {0}
IsReadyAt (Some i) tracks col own held = IsReadyOf (slice_get tracks i) col own held

abbrev pub IsReady : List Track → List RowView → ℤ → RowReading → Type 0
IsReady tracks held ticks reading = IsReadyAt (place_in reading.col tracks) tracks reading.col (key_of reading ticks) held

-- the track has repaired a reading to this value
pub record RepairsTo (col : ℕ) (own : Key) (held : List RowView) (old new : Track) (value : ℤ) : Type 0 where
  pub value_is : value ≡ clamped_after old.sensor.speed old.sensor.last own (median_before old.sensor.speed own (successors old.sensor.speed own (keys_in col held)))
  pub looked : IsLooked col own.ticks new held
  pub kept : IsLike (record old { sensor = record old.sensor { last = last_after old.sensor.last own.ticks value } }) new

abbrev pub RepairsOf : Option Track → ℕ → List Track → List Track → ℕ → Key → List RowView → ℤ → Type 0
RepairsOf None i old new col own held value = (value ≡ own.value) × (new ≡ old)
RepairsOf (Some track) i old new col own held value = (after : Track) × (new ≡ slice_set old i after) × RepairsTo col own held track after value

-- a reading of the row that has left was repaired to this value, by the track of its column, if there is one
abbrev pub Repairs : Option ℕ → List Track → List Track → ℕ → Key → List RowView → ℤ → Type 0
Repairs None old new col own held value = (value ≡ own.value) × (new ≡ old)
Repairs (Some i) old new col own held value = RepairsOf (slice_get old i) i old new col own held value

-- and so were the readings of the row, one after the other
abbrev pub RepairsRow : ℤ → List RowView → List RowReading → List Track → List Track → List ℤ → Type 0
RepairsRow ticks held [] old new values = (new ≡ old) × (values ≡ [])
RepairsRow ticks held (reading ∷ readings) old new values =
    (middle : List Track) × (value : ℤ) × (others : List ℤ) × Repairs (place_in reading.col old) old middle reading.col (key_of reading ticks) held value
    × RepairsRow ticks held readings middle new others × (values ≡ value ∷ others)

-- the window of the track of a column
pub record IsWindowOf (col : ℕ) (tracks : List Track) (window : Window) : Type 0 where
  pub place : ℕ
  pub track : Track
  pub place_is : place_in col tracks ≡ Some place
  pub track_is : slice_get tracks place ≡ Some track
  pub window_is : window ≡ window_in track.sensor
