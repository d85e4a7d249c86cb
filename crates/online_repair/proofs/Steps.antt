-- The readings to which no whole step leads, by the tracks and by the rows that were accepted.
use Rattle.std.proofs.Common.{◌≡◌, ℕ, zero, suc, ◌<◌, Bool, cond, ℤ, List, [], ◌∷◌, length, reverse, refl, sym, ap, ◌∙◌, arith}
use Rattle.std.specs.Prelude.{Option, Some, None, slice_get}
use Rattle.std.specs.List.{find}
use Rattle.rule_file.specs.declared.rules.Rules.{Rules}
use Rattle.rule_file.specs.declared.rules.SpeedRule.{SpeedRule}
use Rattle.series_rows.specs.Header.{HeaderView}
use Rattle.series_rows.specs.Row.{RowView}
use Rattle.series_rows.specs.declared.cell.RowReading.{RowReading}
use Rattle.order_window.specs.declared.key.Key.{Key}
use Rattle.online_values.specs.Results.{Speed}
use Rattle.online_values.specs.Sensor.{speed_of}
use Rattle.online_repair.specs.Accepted.{lacks_step, lacks_step_by, without_step}
use Rattle.online_repair.specs.Rows.{keys_in, rule_in}
use Rattle.online_repair.specs.Sensors.{AreTracksOf, HaveSeen, IsTrackOf, lacks_step_after, lacks_step_at, lacks_step_of, latest, place_in}
use Rattle.online_repair.specs.declared.track.Track.{Track}
use Rattle.online_repair.proofs.Rules.{no_rule, place_inside, rule_at, rule_of_track}

step_latest : (speed : Speed) (keys : List Key) (now : ℤ) → lacks_step_after speed (latest keys) now ≡ lacks_step speed keys now
step_latest speed [] now = refl
step_latest speed (last ∷ earlier) now = refl

some_not_none : (a : Track) → Some a ≡ None → ⊥
some_not_none a e = cc

pub is_some : (tracks : List Track) (i : ℕ) → i < length tracks → slice_get tracks i ≡ None → ⊥
is_some [] i h at = omega (arith, h)
is_some (track ∷ tracks) zero h at = some_not_none track at
is_some (track ∷ tracks) (suc i) h at = is_some tracks i (let g : i < length tracks = omega (arith, h) in g) at

lacks_track : (rules : Rules) (header : HeaderView) (before : List RowView) (tracks : List Track) (col i : ℕ) (now : ℤ) (track : Option Track) → AreTracksOf rules header tracks → HaveSeen (reverse before) tracks → place_in col tracks ≡ Some i → slice_get tracks i ≡ track
    → lacks_step_of track now ≡ lacks_step_by (rule_in rules header col) rules.format.decimals col before now
lacks_track rules header before tracks col i now None all seen place at = absurd (is_some tracks i (place_inside col tracks i place) at)
lacks_track rules header before tracks col i now (Some track) all seen place at =
    let found = rule_of_track (IsTrackOf rules header) rules.speeds tracks i track all at in
    let d = rules.format.decimals in
    ap (λ (speed : Speed). lacks_step_after speed track.seen now) found.is.speed
    ∙ ap (λ (last : Option ℤ). lacks_step_after (speed_of found.rule d) last now) (seen col i track place at)
    ∙ step_latest (speed_of found.rule d) (keys_in col (reverse before)) now
    ∙ sym (ap (λ (rule : Option SpeedRule). lacks_step_by rule d col before now) (rule_at rules header col i tracks all place ∙ found.at))

lacks_place : (rules : Rules) (header : HeaderView) (before : List RowView) (tracks : List Track) (col : ℕ) (now : ℤ) (place : Option ℕ) → AreTracksOf rules header tracks → HaveSeen (reverse before) tracks → place_in col tracks ≡ place
    → lacks_step_at place tracks now ≡ lacks_step_by (rule_in rules header col) rules.format.decimals col before now
lacks_place rules header before tracks col now None all seen e =
    sym (ap (λ (rule : Option SpeedRule). lacks_step_by rule rules.format.decimals col before now) (no_rule rules header col tracks all e))
lacks_place rules header before tracks col now (Some i) all seen e = lacks_track rules header before tracks col i now (slice_get tracks i) all seen e refl

pub lacks_is : (rules : Rules) (header : HeaderView) (before : List RowView) (tracks : List Track) (col : ℕ) (now : ℤ) → AreTracksOf rules header tracks → HaveSeen (reverse before) tracks
    → lacks_step_at (place_in col tracks) tracks now ≡ lacks_step_by (rule_in rules header col) rules.format.decimals col before now
lacks_is rules header before tracks col now all seen = lacks_place rules header before tracks col now (place_in col tracks) all seen refl

pub find_alike : (P Q : RowReading → Bool) (readings : List RowReading) → ((reading : RowReading) → P reading ≡ Q reading) → find P readings ≡ find Q readings
find_alike P Q [] same = refl
find_alike P Q (reading ∷ readings) same =
    ap (λ (b : Bool). cond b (Some reading) (find P readings)) (same reading)
    ∙ ap (λ (other : Option RowReading). cond (Q reading) (Some reading) other) (find_alike P Q readings same)

-- what `without_step` of the tracks answers is the column of the reading that the definition names
pub without_is : (rules : Rules) (header : HeaderView) (before : List RowView) (row : RowView) (tracks : List Track) → AreTracksOf rules header tracks → HaveSeen (reverse before) tracks
    → find (λ (reading : RowReading). lacks_step_at (place_in reading.col tracks) tracks row.ticks) row.readings ≡ without_step rules header before row
without_is rules header before row tracks all seen =
    find_alike (λ (reading : RowReading). lacks_step_at (place_in reading.col tracks) tracks row.ticks) (λ (reading : RowReading). lacks_step_by (rule_in rules header reading.col) rules.format.decimals reading.col before row.ticks) row.readings
    (λ reading. lacks_is rules header before tracks reading.col row.ticks all seen)
