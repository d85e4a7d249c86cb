-- A row that has left those that are held: its readings are ready to be repaired.
use Rattle.std.proofs.Common.{◌≡◌, ℕ, zero, suc, ◌-◌, ◌<◌, ◌==◌, Bool, true, false, cond, ◌⊎◌, inl, inr, ℤ, ◌-ℤ◌, ◌≤ℤ◌, ◌<ℤ◌, List, [], ◌∷◌, length, map, take, refl, sym, ap, ◌∙◌, subst, arith}
use Rattle.std.specs.Prelude.{Option, Some, None, slice_get}
use Rattle.std.specs.List.{AllByRecursion}
use Rattle.std.proofs.lemmas.Bool.Decides.{nat_tests}
use Rattle.std.proofs.lemmas.Int.{ints}
use Rattle.words.proofs.Lists.{all_weaker}
use Rattle.rule_file.specs.declared.rules.Rules.{Rules}
use Rattle.rule_file.specs.declared.rules.SpeedRule.{SpeedRule}
use Rattle.rule_file.specs.Limits.{IsUnits}
use Rattle.series_rows.specs.Header.{HeaderView}
use Rattle.series_rows.specs.Row.{RowView, Rise, columns}
use Rattle.series_rows.specs.declared.cell.RowReading.{RowReading}
use Rattle.order_window.specs.declared.key.Key.{Key}
use Rattle.online_values.specs.Results.{Speed}
use Rattle.online_values.specs.Sensor.{speed_of}
use Rattle.online_repair.specs.Rows.{keys_in, reading_in, with_key}
use Rattle.online_repair.specs.Sensors.{IsReady, IsReadyAt, IsReadyOf, IsTrackOf, key_of, passed, place_in}
use Rattle.online_repair.specs.Standing.{AreAbout, AreStanding, FallsFrom, IsSound, IsStanding, IsWindowed, last_result}
use Rattle.online_repair.specs.Tracks.{AreHeld, IsEarlier, IsLeaving, IsNear, RisesFrom}
use Rattle.online_repair.specs.declared.track.Track.{Track}
use Rattle.online_repair.proofs.Rules.{place_passed, rule_of_track, slice_get_passed, slice_get_passed_none}

-- ---- the readings of a sound row

same_col : (a b : ℕ) → a ≡ b → (a == b) ≡ true
same_col a b e = grind (arith, nat_tests)

other_col : (a b : ℕ) → (a ≡ b → ⊥) → (a == b) ≡ false
other_col a b e = grind (arith, nat_tests)

not_less : (a b : ℕ) → a < b → a ≡ b → ⊥
not_less a b h e = omega (arith, h, e)

-- a reading of the row is the one in its column
abbrev pub IsIn : List RowReading → RowReading → Type 0
IsIn readings reading = reading_in reading.col readings ≡ Some reading.value

found_later : (first : RowReading) (readings : List RowReading) (reading : RowReading) → first.col < reading.col → IsIn readings reading → IsIn (first ∷ readings) reading
found_later first readings reading h is =
    ap (λ (b : Bool). cond b (Some first.value) (reading_in reading.col readings)) (other_col first.col reading.col (not_less first.col reading.col h)) ∙ is

later_in : (first : RowReading) (readings rest : List RowReading) → AllByRecursion (λ (reading : RowReading). first.col < reading.col) rest → AllByRecursion (IsIn readings) rest → AllByRecursion (IsIn (first ∷ readings)) rest
later_in first readings [] later all = tt
later_in first readings (reading ∷ rest) later all = (found_later first readings reading later.0 all.0, later_in first readings rest later.1 all.1)

less_chain : (a b c : ℕ) → a < b → b < c → a < c
less_chain a b c g h = omega (arith, g, h)

chain_all : (before col : ℕ) (readings : List RowReading) → before < col → AllByRecursion (λ (reading : RowReading). col < reading.col) readings → AllByRecursion (λ (reading : RowReading). before < reading.col) readings
chain_all before col [] h all = tt
chain_all before col (reading ∷ readings) h all = (less_chain before col reading.col h all.0, chain_all before col readings h all.1)

pub later_columns : (before last : ℕ) (readings : List RowReading) → Rise before (columns readings) last → AllByRecursion (λ (reading : RowReading). before < reading.col) readings
later_columns before last [] rise = tt
later_columns before last (reading ∷ readings) rise = (rise.0, chain_all before reading.col readings rise.0 (later_columns reading.col last readings rise.2))

pub all_in : (before last : ℕ) (readings : List RowReading) → Rise before (columns readings) last → AllByRecursion (IsIn readings) readings
all_in before last [] rise = tt
all_in before last (first ∷ readings) rise = (
  ap (λ (b : Bool). cond b (Some first.value) (reading_in first.col readings)) (same_col first.col first.col refl),
  later_in first readings readings (later_columns first.col last readings rise.2) (all_in first.col last readings rise.2),
)

-- ---- the keys of sound rows

units_first : (b : Bool) (ticks value : ℤ) (other : Option ℤ) (keys : List Key) → IsUnits value → AllByRecursion (λ (key : Key). IsUnits key.value) (with_key ticks other keys) → AllByRecursion (λ (key : Key). IsUnits key.value) (with_key ticks (cond b (Some value) other) keys)
units_first true ticks value None keys units all = (units, all)
units_first true ticks value (Some other) keys units all = (units, all.1)
units_first false ticks value other keys units all = all

units_by : (col : ℕ) (ticks : ℤ) (readings : List RowReading) (keys : List Key) → AllByRecursion (λ (reading : RowReading). IsUnits reading.value) readings → AllByRecursion (λ (key : Key). IsUnits key.value) keys → AllByRecursion (λ (key : Key). IsUnits key.value) (with_key ticks (reading_in col readings) keys)
units_by col ticks [] keys units all = all
units_by col ticks (reading ∷ readings) keys units all = units_first (reading.col == col) ticks reading.value (reading_in col readings) keys units.0 (units_by col ticks readings keys units.1 all)

pub keys_units : (col : ℕ) (rows : List RowView) → AllByRecursion IsSound rows → AllByRecursion (λ (key : Key). IsUnits key.value) (keys_in col rows)
keys_units col [] sound = tt
keys_units col (row ∷ rows) sound = units_by col row.ticks row.readings (keys_in col rows) sound.0.units (keys_units col rows sound.1)

-- ---- a track whose row has left

earlier_by : (ticks now : ℤ) (value : Option ℤ) (keys : List Key) → ticks <ℤ now → AllByRecursion (λ (key : Key). key.ticks <ℤ now) keys → AllByRecursion (λ (key : Key). key.ticks <ℤ now) (with_key ticks value keys)
earlier_by ticks now None keys h all = all
earlier_by ticks now (Some value) keys h all = (h, all)

time_chain : (a b c : ℤ) → a <ℤ b → b <ℤ c → a <ℤ c
time_chain a b c g h = omega (arith, ints)

-- the keys of rows before are earlier
pub keys_earlier : (col : ℕ) (now : ℤ) (before : List RowView) → FallsFrom now before → AllByRecursion (λ (key : Key). key.ticks <ℤ now) (keys_in col before)
keys_earlier col now [] falls = tt
keys_earlier col now (row ∷ rows) falls =
    earlier_by row.ticks now (reading_in col row.readings) (keys_in col rows) falls.0
    (all_weaker (λ (key : Key). key.ticks <ℤ row.ticks) (λ (key : Key). key.ticks <ℤ now) (λ key h. time_chain key.ticks row.ticks now h falls.0) (keys_in col rows) (keys_earlier col row.ticks rows falls.1))

last_earlier : (speed : Speed) (before later : List Key) (now : ℤ) → AllByRecursion (λ (key : Key). key.ticks <ℤ now) before → IsEarlier now (last_result speed before later)
last_earlier speed [] later now all = tt
last_earlier speed (last ∷ before) later now all = all.0

closer : (span last own row : ℤ) → last <ℤ own → (row -ℤ last) ≤ℤ span → (row -ℤ own) ≤ℤ span
closer span last own row g h = omega (arith, ints)

near_own : (span : ℤ) (before : List Key) (own : Key) (next : ℕ) (oldest : RowView) (rest : List RowView) → AllByRecursion (λ (key : Key). key.ticks <ℤ own.ticks) before → IsWindowed span before next (oldest ∷ rest) → AllByRecursion (IsNear span own.ticks) (take (next - 1) rest)
near_own span [] own next oldest rest earlier windowed =
    let T : ℕ → Type 0 = λ n. AllByRecursion (IsNear span own.ticks) (take n rest) in
    let none : 0 ≡ next - 1 = omega (arith, windowed) in
    subst T none tt
near_own span (last ∷ before) own zero oldest rest earlier windowed =
    let T : ℕ → Type 0 = λ n. AllByRecursion (IsNear span own.ticks) (take n rest) in
    let none : 0 ≡ zero - 1 = omega arith in
    subst T none tt
near_own span (last ∷ before) own (suc next) oldest rest earlier windowed =
    let T : ℕ → Type 0 = λ n. AllByRecursion (IsNear span own.ticks) (take n rest) in
    let same : next ≡ suc next - 1 = omega arith in
    subst T same (all_weaker (IsNear span last.ticks) (IsNear span own.ticks) (λ row h. closer span last.ticks own.ticks row.ticks earlier.0 h) (take next rest) windowed.0.1)

abbrev key_at : ℤ → ℤ → Key
key_at value ticks = record { value = value; ticks = ticks }

keys_leaving : (col : ℕ) (own : Key) (next : ℕ) (oldest : RowView) (rest : List RowView) (keys : List Key) → reading_in col oldest.readings ≡ Some own.value → oldest.ticks ≡ own.ticks → keys ≡ keys_in col (take next (oldest ∷ rest))
    → (keys ≡ own ∷ keys_in col (take (next - 1) rest)) ⊎ ((keys ≡ []) × (next - 1 ≡ 0))
keys_leaving col own zero oldest rest keys reading ticks e = inr (e, omega arith)
keys_leaving col own (suc next) oldest rest keys reading ticks e =
    let same : next ≡ suc next - 1 = omega arith in
    let T : ℕ → Type 0 = λ n. keys ≡ own ∷ keys_in col (take n rest) in
    inl (subst T same (e ∙ ap (λ (value : Option ℤ). with_key oldest.ticks value (keys_in col (take next rest))) reading ∙ ap (λ (t : ℤ). key_at own.value t ∷ keys_in col (take next rest)) ticks))

leaving : (rules : Rules) (header : HeaderView) (rule : SpeedRule) (hold col : ℕ) (before rest : List RowView) (oldest : RowView) (own : Key) (track : Track) → AreAbout hold before oldest rest → IsTrackOf rules header rule track → IsStanding rules rule col before (oldest ∷ rest) track
    → reading_in col oldest.readings ≡ Some own.value → oldest.ticks ≡ own.ticks → IsLeaving col own (passed track) rest
leaving rules header rule hold col before rest oldest own track about of_rule stands reading ticks =
    let F : ℤ → Type 0 = λ t. AllByRecursion (λ (key : Key). key.ticks <ℤ t) (keys_in col before) in
    let earlier = subst F ticks (keys_earlier col oldest.ticks before about.falls) in
    let L : Option Key → Type 0 = λ last. IsEarlier own.ticks last in
    let S : ℤ → Type 0 = λ s. AllByRecursion (IsNear s own.ticks) (take (track.next - 1) rest) in
    record {
      span_is = of_rule.span ∙ sym (ap (λ (s : Speed). s.span) of_rule.speed);
      within = omega (arith, stands.within);
      keys_are = keys_leaving col own track.next oldest rest track.sensor.keys reading ticks stands.keys_are;
      near = subst S (sym of_rule.span) (near_own rule.window (keys_in col before) own track.next oldest rest earlier stands.windowed);
      last = subst L (sym stands.last_is) (last_earlier (speed_of rule rules.format.decimals) (keys_in col before) (keys_in col (oldest ∷ rest)) own.ticks earlier);
    }

-- ---- all readings of the row are ready

ready_track : (rules : Rules) (header : HeaderView) (col i : ℕ) (before rest : List RowView) (oldest : RowView) (own : Key) (tracks : List Track) (o : Option Track) → AreAbout rules.format.hold before oldest rest → AreStanding rules header before (oldest ∷ rest) tracks
    → reading_in col oldest.readings ≡ Some own.value → oldest.ticks ≡ own.ticks → place_in col tracks ≡ Some i → slice_get tracks i ≡ o → IsReadyOf (slice_get (map passed tracks) i) col own rest
ready_track rules header col i before rest oldest own tracks None about standing reading ticks place at =
    let R : Option Track → Type 0 = λ t. IsReadyOf t col own rest in
    subst R (sym (slice_get_passed_none tracks i at)) tt
ready_track rules header col i before rest oldest own tracks (Some track) about standing reading ticks place at =
    let R : Option Track → Type 0 = λ t. IsReadyOf t col own rest in
    let found = rule_of_track (IsTrackOf rules header) rules.speeds tracks i track standing.of_rules at in
    let stands = standing.stands col i found.rule track place found.at at in
    let rises : ℤ → Type 0 = λ t. RisesFrom t rest in
    let held : AreHeld col own.ticks track.sensor.room rest = record {
      rise = subst rises ticks about.rises;
      units = keys_units col rest about.sound_rest;
      few = omega (arith, about.few, found.is.room);
      room_fits = omega (arith, about.hold_fits, found.is.room);
    } in
    subst R (sym (slice_get_passed tracks i track at)) (held, leaving rules header found.rule rules.format.hold col before rest oldest own track about found.is stands reading ticks)

ready_place : (rules : Rules) (header : HeaderView) (col : ℕ) (before rest : List RowView) (oldest : RowView) (own : Key) (tracks : List Track) (o : Option ℕ) → AreAbout rules.format.hold before oldest rest → AreStanding rules header before (oldest ∷ rest) tracks
    → reading_in col oldest.readings ≡ Some own.value → oldest.ticks ≡ own.ticks → place_in col tracks ≡ o → IsReadyAt o (map passed tracks) col own rest
ready_place rules header col before rest oldest own tracks None about standing reading ticks place = tt
ready_place rules header col before rest oldest own tracks (Some i) about standing reading ticks place =
    ready_track rules header col i before rest oldest own tracks (slice_get tracks i) about standing reading ticks place refl

ready_reading : (rules : Rules) (header : HeaderView) (before rest : List RowView) (oldest : RowView) (tracks : List Track) (reading : RowReading) → AreAbout rules.format.hold before oldest rest → AreStanding rules header before (oldest ∷ rest) tracks → IsIn oldest.readings reading → IsReady (map passed tracks) rest oldest.ticks reading
ready_reading rules header before rest oldest tracks reading about standing is_in =
    let P : Option ℕ → Type 0 = λ o. IsReadyAt o (map passed tracks) reading.col (key_of reading oldest.ticks) rest in
    subst P (sym (place_passed reading.col tracks))
    (ready_place rules header reading.col before rest oldest (key_of reading oldest.ticks) tracks (place_in reading.col tracks) about standing is_in refl refl)

pub all_ready : (rules : Rules) (header : HeaderView) (before rest : List RowView) (oldest : RowView) (tracks : List Track) → AreAbout rules.format.hold before oldest rest → AreStanding rules header before (oldest ∷ rest) tracks → AllByRecursion (IsReady (map passed tracks) rest oldest.ticks) oldest.readings
all_ready rules header before rest oldest tracks about standing =
    all_weaker (IsIn oldest.readings) (IsReady (map passed tracks) rest oldest.ticks) (λ reading is_in. ready_reading rules header before rest oldest tracks reading about standing is_in) oldest.readings
    (all_in 0 (length oldest.fields) oldest.readings about.sound.rise)
