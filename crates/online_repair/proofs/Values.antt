-- The values of a row are those of the definition.
use Rattle.std.proofs.Common.{◌≡◌, ℕ, zero, suc, ◌<◌, ◌≤◌, ℤ, List, [], ◌∷◌, length, map, refl, sym, ap, ◌∙◌, subst, arith}
use Rattle.std.specs.Prelude.{Option, Some, None, slice_get}
use Rattle.std.specs.List.{AllByRecursion}
use Rattle.rule_file.specs.declared.rules.Rules.{Rules}
use Rattle.rule_file.specs.declared.rules.SpeedRule.{SpeedRule}
use Rattle.series_rows.specs.Header.{HeaderView}
use Rattle.series_rows.specs.Row.{RowView, Rise, columns}
use Rattle.series_rows.specs.declared.cell.RowReading.{RowReading}
use Rattle.order_window.specs.declared.key.Key.{Key}
use Rattle.online_values.specs.Results.{Speed, clamped_after, median_before, result, successors}
use Rattle.online_values.specs.Sensor.{speed_of}
use Rattle.online_repair.specs.Rows.{keys_in, reading_in, repaired, rule_in, with_key}
use Rattle.online_repair.specs.Sensors.{IsTrackOf, Repairs, RepairsOf, RepairsRow, key_of, passed, place_in}
use Rattle.online_repair.specs.Standing.{AreStanding, IsStanding, last_result}
use Rattle.online_repair.specs.declared.track.Track.{Track}
use Rattle.online_repair.proofs.Columns.{IsChanged, changed}
use Rattle.online_repair.proofs.Rules.{no_rule, place_inside, place_passed, rule_at, rule_of_track, slice_get_passed}
use Rattle.online_repair.proofs.Standing.{IsIn, later_columns}

-- ---- a track that was not touched

pub record IsSameAt (start now : List Track) (col : ℕ) : Type 0 where
  pub place : place_in col now ≡ place_in col start
  pub track : (i : ℕ) → place_in col start ≡ Some i → slice_get now i ≡ slice_get start i

pub same_itself : (tracks : List Track) (col : ℕ) → IsSameAt tracks tracks col
same_itself tracks col = record { place = refl; track = λ i place. refl }

pub same_changed : (start now next : List Track) (col other : ℕ) → IsSameAt start now other → IsChanged col now next → (col ≡ other → ⊥) → IsSameAt start next other
same_changed start now next col other same change differ = record {
  place = change.places other ∙ same.place;
  track = λ i place. change.tracks other i differ (same.place ∙ place) ∙ same.track i place;
}

-- ---- the value of a reading

pub core_value : (speed : Speed) (earlier : List Key) (own : Key) (later : List Key) → clamped_after speed (last_result speed earlier (own ∷ later)) own (median_before speed own (successors speed own later)) ≡ result speed earlier own later
core_value speed [] own later = refl
core_value speed (last ∷ earlier) own later = refl

abbrev key_at : ℤ → ℤ → Key
key_at value ticks = record { value = value; ticks = ticks }

pub own_first : (col : ℕ) (row : RowView) (rest : List RowView) (own : Key) → reading_in col row.readings ≡ Some own.value → row.ticks ≡ own.ticks → keys_in col (row ∷ rest) ≡ own ∷ keys_in col rest
own_first col row rest own reading ticks =
    ap (λ (value : Option ℤ). with_key row.ticks value (keys_in col rest)) reading ∙ ap (λ (t : ℤ). key_at own.value t ∷ keys_in col rest) ticks

some_none : (a : Track) → Some a ≡ None → ⊥
some_none a e = cc

past_end : (tracks : List Track) (i : ℕ) → slice_get tracks i ≡ None → length tracks ≤ i
past_end [] i e = omega arith
past_end (first ∷ tracks) zero e = absurd (some_none first e)
past_end (first ∷ tracks) (suc i) e = omega (arith, past_end tracks i e)

both_false : (i long : ℕ) → i < long → long ≤ i → ⊥
both_false i long g h = omega (arith, g, h)

pub track_value : (rules : Rules) (header : HeaderView) (rule : SpeedRule) (col : ℕ) (before rest : List RowView) (row : RowView) (own : Key) (track : Track) (value : ℤ) → IsTrackOf rules header rule track → IsStanding rules rule col before (row ∷ rest) track
    → reading_in col row.readings ≡ Some own.value → row.ticks ≡ own.ticks → value ≡ clamped_after track.sensor.speed track.sensor.last own (median_before track.sensor.speed own (successors track.sensor.speed own (keys_in col rest)))
    → value ≡ result (speed_of rule rules.format.decimals) (keys_in col before) own (keys_in col rest)
track_value rules header rule col before rest row own track value of_rule stands reading ticks is =
    let speed = speed_of rule rules.format.decimals in
    let next = keys_in col rest in
    is
    ∙ ap (λ (s : Speed). clamped_after s track.sensor.last own (median_before s own (successors s own next))) of_rule.speed
    ∙ ap (λ (last : Option Key). clamped_after speed last own (median_before speed own (successors speed own next))) (stands.last_is ∙ ap (λ (keys : List Key). last_result speed (keys_in col before) keys) (own_first col row rest own reading ticks))
    ∙ core_value speed (keys_in col before) own next

-- the value is the result by the rule of the column
pub record HasRuleAt (rules : Rules) (header : HeaderView) (col : ℕ) (before : List RowView) (own : Key) (rest : List RowView) (value : ℤ) : Type 0 where
  pub rule : SpeedRule
  pub rule_is : rule_in rules header col ≡ Some rule
  pub value_is : value ≡ result (speed_of rule rules.format.decimals) (keys_in col before) own (keys_in col rest)

value_track : (rules : Rules) (header : HeaderView) (col i : ℕ) (before rest : List RowView) (row : RowView) (reading : RowReading) (own : Key) (tracks now next : List Track) (value : ℤ) (o : Option Track)
    → AreStanding rules header before (row ∷ rest) tracks → IsSameAt (map passed tracks) now col → reading_in col row.readings ≡ Some own.value → row.ticks ≡ own.ticks → place_in col tracks ≡ Some i → slice_get tracks i ≡ o
    → RepairsOf (slice_get now i) i now next col own rest value → HasRuleAt rules header col before own rest value
value_track rules header col i before rest row reading own tracks now next value None standing same is_in ticks place at repairs = absurd (both_false i (length tracks) (place_inside col tracks i place) (past_end tracks i at))
value_track rules header col i before rest row reading own tracks now next value (Some track) standing same is_in ticks place at repairs =
    let R : Option Track → Type 0 = λ t. RepairsOf t i now next col own rest value in
    let to = subst R (same.track i (place_passed col tracks ∙ place) ∙ slice_get_passed tracks i track at) repairs in
    let found = rule_of_track (IsTrackOf rules header) rules.speeds tracks i track standing.of_rules at in
    let stands = standing.stands col i found.rule track place found.at at in
    record {
      rule = found.rule;
      rule_is = rule_at rules header col i tracks standing.of_rules place ∙ found.at;
      value_is = track_value rules header found.rule col before rest row own track value found.is stands is_in ticks to.2.value_is;
    }

value_place : (rules : Rules) (header : HeaderView) (before rest : List RowView) (row : RowView) (reading : RowReading) (tracks now next : List Track) (value : ℤ) (o : Option ℕ)
    → AreStanding rules header before (row ∷ rest) tracks → IsSameAt (map passed tracks) now reading.col → IsIn row.readings reading → place_in reading.col tracks ≡ o
    → Repairs o now next reading.col (key_of reading row.ticks) rest value → value ≡ repaired (rule_in rules header reading.col) rules.format.decimals before row rest reading
value_place rules header before rest row reading tracks now next value None standing same is_in place repairs =
    repairs.0 ∙ sym (ap (λ (rule : Option SpeedRule). repaired rule rules.format.decimals before row rest reading) (no_rule rules header reading.col tracks standing.of_rules place))
value_place rules header before rest row reading tracks now next value (Some i) standing same is_in place repairs =
    let found = (value_track rules header reading.col i before rest row reading (key_of reading row.ticks) tracks now next value (slice_get tracks i) standing same is_in refl place refl repairs) in
    found.value_is ∙ sym (ap (λ (rule : Option SpeedRule). repaired rule rules.format.decimals before row rest reading) found.rule_is)

pub value_of_reading : (rules : Rules) (header : HeaderView) (before rest : List RowView) (row : RowView) (reading : RowReading) (tracks now next : List Track) (value : ℤ)
    → AreStanding rules header before (row ∷ rest) tracks → IsSameAt (map passed tracks) now reading.col → IsIn row.readings reading
    → Repairs (place_in reading.col now) now next reading.col (key_of reading row.ticks) rest value → value ≡ repaired (rule_in rules header reading.col) rules.format.decimals before row rest reading
value_of_reading rules header before rest row reading tracks now next value standing same is_in repairs =
    let R : Option ℕ → Type 0 = λ o. Repairs o now next reading.col (key_of reading row.ticks) rest value in
    value_place rules header before rest row reading tracks now next value (place_in reading.col tracks) standing same is_in refl
    (subst R (same.place ∙ place_passed reading.col tracks) repairs)

-- ---- the values of the row

not_less : (a b : ℕ) → a < b → a ≡ b → ⊥
not_less a b h e = omega (arith, h, e)

all_same_changed : (start now next : List Track) (col : ℕ) (readings : List RowReading) → IsChanged col now next → AllByRecursion (λ (reading : RowReading). col < reading.col) readings → AllByRecursion (λ (reading : RowReading). IsSameAt start now reading.col) readings → AllByRecursion (λ (reading : RowReading). IsSameAt start next reading.col) readings
all_same_changed start now next col [] change later all = tt
all_same_changed start now next col (reading ∷ readings) change later all =
    (same_changed start now next col reading.col all.0 change (not_less col reading.col later.0), all_same_changed start now next col readings change later.1 all.1)

pub values_from : (rules : Rules) (header : HeaderView) (before rest : List RowView) (row : RowView) (tracks now new : List Track) (readings : List RowReading) (values : List ℤ) (first last : ℕ)
    → AreStanding rules header before (row ∷ rest) tracks → AllByRecursion (λ (reading : RowReading). IsSameAt (map passed tracks) now reading.col) readings → AllByRecursion (IsIn row.readings) readings → Rise first (columns readings) last
    → RepairsRow row.ticks rest readings now new values → values ≡ map (λ (reading : RowReading). repaired (rule_in rules header reading.col) rules.format.decimals before row rest reading) readings
values_from rules header before rest row tracks now new [] values first last standing same all_in rise repairs = repairs.1
values_from rules header before rest row tracks now new (reading ∷ readings) values first last standing same all_in rise (middle, value, others, here, later, is) =
    let change = changed reading.col now middle (key_of reading row.ticks) rest value here in
    let same_later = all_same_changed (map passed tracks) now middle reading.col readings change (later_columns reading.col last readings rise.2) same.1 in
    is
    ∙ ap (λ (v : ℤ). v ∷ others) (value_of_reading rules header before rest row reading tracks now middle value standing same.0 all_in.0 here)
    ∙ ap (λ (vs : List ℤ). repaired (rule_in rules header reading.col) rules.format.decimals before row rest reading ∷ vs)
    (values_from rules header before rest row tracks middle new readings others reading.col last standing same_later all_in.1 rise.2 later)
