-- Where the tracks stand after the oldest row was repaired.
use Rattle.std.proofs.Common.{◌≡◌, ℕ, zero, suc, ◌-◌, ◌<◌, ◌==◌, Bool, true, false, cond, ℤ, List, [], ◌∷◌, set, take, drop, refl, sym, ap, ◌∙◌, subst, arith}
use Rattle.std.specs.Prelude.{Option, Some, None, slice_get}
use Rattle.std.specs.List.{AllByRecursion, AllZip}
use Rattle.std.proofs.lemmas.Bool.Decides.{nat_tests}
use Rattle.rule_file.specs.declared.rules.Rules.{Rules}
use Rattle.rule_file.specs.declared.rules.SpeedRule.{SpeedRule}
use Rattle.series_rows.specs.Header.{HeaderView}
use Rattle.series_rows.specs.Row.{RowView, Rise, columns}
use Rattle.series_rows.specs.declared.cell.RowReading.{RowReading}
use Rattle.order_window.specs.declared.key.Key.{Key}
use Rattle.online_values.specs.Sensor.{speed_of}
use Rattle.online_repair.specs.Output.{is_small}
use Rattle.online_repair.specs.Rows.{keys_in, reading_in, with_key}
use Rattle.online_repair.specs.Sensors.{AreTracksOf, IsTrackOf, Repairs, RepairsOf, RepairsRow, RepairsTo, key_of, passed, place_in}
use Rattle.online_repair.specs.Standing.{IsStanding, IsWindowed, last_result}
use Rattle.online_repair.specs.Tracks.{IsBeyond, IsNear}
use Rattle.online_repair.specs.declared.track.Track.{Track}
use Rattle.online_repair.proofs.Columns.{changed}
use Rattle.online_repair.proofs.Rules.{no_track, same_track}
use Rattle.online_repair.proofs.Standing.{later_columns}
use Rattle.online_repair.proofs.Values.{IsSameAt, own_first, same_changed, same_itself, track_value}

pub same_chain : (a b c : List Track) (col : ℕ) → IsSameAt a b col → IsSameAt b c col → IsSameAt a c col
same_chain a b c col first second = record {
  place = second.place ∙ first.place;
  track = λ i place. second.track i (first.place ∙ place) ∙ first.track i place;
}

-- ---- a column without a reading

same_equal : (old new : List Track) (col : ℕ) → new ≡ old → IsSameAt old new col
same_equal old new col e =
    let S : List Track → Type 0 = λ ts. IsSameAt old ts col in
    subst S (sym e) (same_itself old col)

pub untouched : (ticks : ℤ) (rest : List RowView) (readings : List RowReading) (now new : List Track) (values : List ℤ) (col : ℕ) → AllByRecursion (λ (reading : RowReading). reading.col ≡ col → ⊥) readings → RepairsRow ticks rest readings now new values → IsSameAt now new col
untouched ticks rest [] now new values col others repairs = same_equal now new col repairs.0
untouched ticks rest (reading ∷ readings) now new values col others (middle, value, more, here, later, is) =
    same_chain now middle new col
    (same_changed now now middle reading.col col (same_itself now col) (changed reading.col now middle (key_of reading ticks) rest value here) others.0)
    (untouched ticks rest readings middle new more col others.1 later)

differ_col : (a b : ℕ) → (a == b) ≡ false → a ≡ b → ⊥
differ_col a b test e = grind (arith, nat_tests)

equal_col : (a b : ℕ) → (a == b) ≡ true → a ≡ b
equal_col a b test = grind (arith, nat_tests)

some_not_none : (v : ℤ) → Some v ≡ None → ⊥
some_not_none v e = cc

same_value : (a b : ℤ) → Some a ≡ Some b → a ≡ b
same_value a b e = cc

none_split : (b : Bool) (value : ℤ) (other : Option ℤ) → cond b (Some value) other ≡ None → (b ≡ false) × (other ≡ None)
none_split true value other e = absurd (some_not_none value e)
none_split false value other e = (refl, e)

pub no_reading : (col : ℕ) (readings : List RowReading) → reading_in col readings ≡ None → AllByRecursion (λ (reading : RowReading). reading.col ≡ col → ⊥) readings
no_reading col [] e = tt
no_reading col (reading ∷ readings) e =
    let parts = none_split (reading.col == col) reading.value (reading_in col readings) e in
    (differ_col reading.col col parts.0, no_reading col readings parts.1)

-- ---- a column with a reading

abbrev pub key_at : ℤ → ℤ → Key
key_at value ticks = record { value = value; ticks = ticks }

-- the track of a column was repaired, and not touched before or after
pub record IsDone (now new : List Track) (col : ℕ) (own : Key) (rest : List RowView) : Type 0 where
  pub start : List Track
  pub end : List Track
  pub value : ℤ
  pub before : IsSameAt now start col
  pub repairs : Repairs (place_in col start) start end col own rest value
  pub small : is_small value ≡ true
  pub after : IsSameAt end new col

abbrev pub AreSmall : List ℤ → Type 0
AreSmall values = AllByRecursion (λ (value : ℤ). is_small value ≡ true) values

not_less : (a b : ℕ) → a < b → b ≡ a → ⊥
not_less a b h e = omega (arith, h, e)

others_later : (col : ℕ) (readings : List RowReading) → AllByRecursion (λ (reading : RowReading). col < reading.col) readings → AllByRecursion (λ (reading : RowReading). reading.col ≡ col → ⊥) readings
others_later col [] all = tt
others_later col (reading ∷ readings) all = (not_less col reading.col all.0, others_later col readings all.1)

done_by : (ticks : ℤ) (rest : List RowView) (first : RowReading) (readings : List RowReading) (now middle new : List Track) (value : ℤ) (more : List ℤ) (col last : ℕ) (v : ℤ) (b : Bool) → (first.col == col) ≡ b → cond b (Some first.value) (reading_in col readings) ≡ Some v
    → Rise first.col (columns readings) last → Repairs (place_in first.col now) now middle first.col (key_of first ticks) rest value → RepairsRow ticks rest readings middle new more → is_small value ≡ true
    → (reading_in col readings ≡ Some v → IsDone middle new col (key_at v ticks) rest) → IsDone now new col (key_at v ticks) rest
done_by ticks rest first readings now middle new value more col last v true test e rise here later small go =
    let same = equal_col first.col col test in
    let R : ℕ → Type 0 = λ c. Repairs (place_in c now) now middle c (key_of first ticks) rest value in
    let K : ℤ → Type 0 = λ z. Repairs (place_in col now) now middle col (key_at z ticks) rest value in
    let C : ℕ → Type 0 = λ c. AllByRecursion (λ (reading : RowReading). reading.col ≡ c → ⊥) readings in
    record {
      start = now;
      end = middle;
      value = value;
      before = same_itself now col;
      repairs = subst K (same_value first.value v e) (subst R same here);
      small = small;
      after = untouched ticks rest readings middle new more col (subst C same (others_later first.col readings (later_columns first.col last readings rise))) later;
    }
done_by ticks rest first readings now middle new value more col last v false test e rise here later small go =
    let done = go e in
    record {
      start = done.start;
      end = done.end;
      value = done.value;
      before = same_chain now middle done.start col (same_changed now now middle first.col col (same_itself now col) (changed first.col now middle (key_of first ticks) rest value here) (differ_col first.col col test)) done.before;
      repairs = done.repairs;
      small = done.small;
      after = done.after;
    }

none_value : (v : ℤ) → None ≡ Some v → ⊥
none_value v e = cc

pub done : (ticks : ℤ) (rest : List RowView) (readings : List RowReading) (now new : List Track) (values : List ℤ) (col before last : ℕ) (v : ℤ) → reading_in col readings ≡ Some v → Rise before (columns readings) last → AreSmall values → RepairsRow ticks rest readings now new values → IsDone now new col (key_at v ticks) rest
done ticks rest [] now new values col before last v e rise small repairs = absurd (none_value v e)
done ticks rest (first ∷ readings) now new values col before last v e rise small (middle, value, more, here, later, is) =
    let S : List ℤ → Type 0 = λ vs. AreSmall vs in
    let smalls = subst S is small in
    done_by ticks rest first readings now middle new value more col last v (first.col == col) refl e rise.2 here later smalls.0
    (λ found. done ticks rest readings middle new more col first.col last v found rise.2 smalls.1 later)

-- ---- the tracks are still those of the rules

zip_set : (R : SpeedRule → Track → Type 0) (speeds : List SpeedRule) (tracks : List Track) (i : ℕ) (track after : Track) → AllZip R speeds tracks → slice_get tracks i ≡ Some track → ((rule : SpeedRule) → R rule track → R rule after) → AllZip R speeds (set tracks i after)
zip_set R [] [] i track after all at keeps = absurd (no_track track at)
zip_set R [] (other ∷ tracks) i track after all at keeps = absurd all
zip_set R (rule ∷ speeds) [] i track after all at keeps = absurd all
zip_set R (rule ∷ speeds) (other ∷ tracks) zero track after all at keeps =
    let P : Track → Type 0 = λ t. R rule t in
    (keeps rule (subst P (same_track other track at) all.0), all.1)
zip_set R (rule ∷ speeds) (other ∷ tracks) (suc i) track after all at keeps = (all.0, zip_set R speeds tracks i track after all.1 at keeps)

keeps_rule : (rules : Rules) (header : HeaderView) (rule : SpeedRule) (col : ℕ) (own : Key) (rest : List RowView) (track after : Track) (value : ℤ) → RepairsTo col own rest track after value → IsTrackOf rules header rule track → IsTrackOf rules header rule after
keeps_rule rules header rule col own rest track after value to is = record {
  col = to.kept.col ∙ is.col;
  span = to.kept.span ∙ is.span;
  speed = to.kept.speed ∙ is.speed;
  room = to.kept.room ∙ is.room;
}

rules_of : (rules : Rules) (header : HeaderView) (o : Option Track) (i : ℕ) (now next : List Track) (col : ℕ) (own : Key) (rest : List RowView) (value : ℤ) → AreTracksOf rules header now → slice_get now i ≡ o → RepairsOf o i now next col own rest value → AreTracksOf rules header next
rules_of rules header None i now next col own rest value all at repairs =
    let A : List Track → Type 0 = λ ts. AreTracksOf rules header ts in
    subst A (sym repairs.1) all
rules_of rules header (Some track) i now next col own rest value all at repairs =
    let A : List Track → Type 0 = λ ts. AreTracksOf rules header ts in
    subst A (sym repairs.1) (zip_set (IsTrackOf rules header) rules.speeds now i track repairs.0 all at (λ rule is. keeps_rule rules header rule col own rest track repairs.0 value repairs.2 is))

rules_by : (rules : Rules) (header : HeaderView) (o : Option ℕ) (now next : List Track) (col : ℕ) (own : Key) (rest : List RowView) (value : ℤ) → AreTracksOf rules header now → Repairs o now next col own rest value → AreTracksOf rules header next
rules_by rules header None now next col own rest value all repairs =
    let A : List Track → Type 0 = λ ts. AreTracksOf rules header ts in
    subst A (sym repairs.1) all
rules_by rules header (Some i) now next col own rest value all repairs = rules_of rules header (slice_get now i) i now next col own rest value all refl repairs

pub rules_after : (rules : Rules) (header : HeaderView) (ticks : ℤ) (rest : List RowView) (readings : List RowReading) (now new : List Track) (values : List ℤ) → AreTracksOf rules header now → RepairsRow ticks rest readings now new values → AreTracksOf rules header new
rules_after rules header ticks rest [] now new values all repairs =
    let A : List Track → Type 0 = λ ts. AreTracksOf rules header ts in
    subst A (sym repairs.0) all
rules_after rules header ticks rest (reading ∷ readings) now new values all (middle, value, more, here, later, is) =
    rules_after rules header ticks rest readings middle new more (rules_by rules header (place_in reading.col now) now middle reading.col (key_of reading ticks) rest value all here) later

-- ---- how a track stands then

zero_or : (next : ℕ) → 0 ≡ zero - 1
zero_or next = omega arith

one_less : (next : ℕ) → next ≡ suc next - 1
one_less next = omega arith

none_left : (next : ℕ) → next ≡ 0 → next - 1 ≡ 0
none_left next e = omega (arith, e)

windowed_passed : (span : ℤ) (before : List Key) (next : ℕ) (row : RowView) (rest : List RowView) → IsWindowed span before next (row ∷ rest) → IsWindowed span before (next - 1) rest
windowed_passed span [] next row rest windowed = none_left next windowed
windowed_passed span (last ∷ before) zero row rest windowed =
    let W : ℕ → Type 0 = λ n. IsWindowed span (last ∷ before) n rest in
    subst W (zero_or 0) (tt, windowed.1.1)
windowed_passed span (last ∷ before) (suc next) row rest windowed =
    let W : ℕ → Type 0 = λ n. IsWindowed span (last ∷ before) n rest in
    subst W (one_less next) (windowed.0.1, windowed.1)

keys_passed : (col next : ℕ) (row : RowView) (rest : List RowView) (keys : List Key) → reading_in col row.readings ≡ None → keys ≡ keys_in col (take next (row ∷ rest)) → keys ≡ keys_in col (take (next - 1) rest)
keys_passed col zero row rest keys none e = e ∙ ap (λ (n : ℕ). keys_in col (take n rest)) (zero_or 0)
keys_passed col (suc next) row rest keys none e =
    e ∙ ap (λ (value : Option ℤ). with_key row.ticks value (keys_in col (take next rest))) none ∙ ap (λ (n : ℕ). keys_in col (take n rest)) (one_less next)

pub none_first : (col : ℕ) (row : RowView) (rest : List RowView) → reading_in col row.readings ≡ None → keys_in col (row ∷ rest) ≡ keys_in col rest
none_first col row rest none = ap (λ (value : Option ℤ). with_key row.ticks value (keys_in col rest)) none

pub passed_stands : (rules : Rules) (rule : SpeedRule) (col : ℕ) (before rest : List RowView) (row : RowView) (track : Track) → reading_in col row.readings ≡ None → IsStanding rules rule col before (row ∷ rest) track → IsStanding rules rule col (row ∷ before) rest (passed track)
passed_stands rules rule col before rest row track none stands =
    let speed = speed_of rule rules.format.decimals in
    let W : List Key → Type 0 = λ keys. IsWindowed rule.window keys (track.next - 1) rest in
    record {
      within = omega (arith, stands.within);
      keys_are = keys_passed col track.next row rest track.sensor.keys none stands.keys_are;
      windowed = subst W (sym (none_first col row before none)) (windowed_passed rule.window (keys_in col before) track.next row rest stands.windowed);
      last_is = stands.last_is
          ∙ ap (λ (keys : List Key). last_result speed (keys_in col before) keys) (none_first col row rest none)
          ∙ ap (λ (keys : List Key). last_result speed keys (keys_in col rest)) (sym (none_first col row before none));
    }

pub repaired_stands : (rules : Rules) (header : HeaderView) (rule : SpeedRule) (col : ℕ) (before rest : List RowView) (row : RowView) (own : Key) (track after : Track) (value : ℤ) → IsTrackOf rules header rule track → IsStanding rules rule col before (row ∷ rest) track
    → reading_in col row.readings ≡ Some own.value → row.ticks ≡ own.ticks → is_small value ≡ true → RepairsTo col own rest (passed track) after value → IsStanding rules rule col (row ∷ before) rest after
repaired_stands rules header rule col before rest row own track after value of_rule stands reading ticks small to =
    let speed = speed_of rule rules.format.decimals in
    let span_is = to.kept.span ∙ of_rule.span in
    let W : List Key → Type 0 = λ keys. IsWindowed rule.window keys after.next rest in
    let S : ℤ → Type 0 = λ s. AllByRecursion (IsNear s own.ticks) (take after.next rest) × AllByRecursion (IsBeyond s own.ticks) (drop after.next rest) in
    let value_is = track_value rules header rule col before rest row own track value of_rule stands reading ticks to.value_is in
    record {
      within = to.looked.looking.within;
      keys_are = to.looked.looking.keys_are;
      windowed = subst W (sym (own_first col row before own reading ticks)) (subst S span_is (to.looked.looking.near, to.looked.beyond));
      last_is = to.kept.last
          ∙ ap (λ (b : Bool). cond b (Some (key_at value own.ticks)) track.sensor.last) small
          ∙ ap (λ (v : ℤ). Some (key_at v own.ticks)) value_is
          ∙ ap (λ (keys : List Key). last_result speed keys (keys_in col rest)) (sym (own_first col row before own reading ticks));
    }
