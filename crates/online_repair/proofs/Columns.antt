-- The track of a column, and the tracks after one of them has repaired a reading.
use Rattle.std.proofs.Common.{◌≡◌, ℕ, zero, suc, ◌<◌, Bool, true, false, cond, ℤ, List, [], ◌∷◌, length, get_or, set, drop, refl, sym, ap, ◌∙◌, subst, arith, length-set}
use Rattle.std.specs.Prelude.{Option, Some, None, nat_lt, slice_get, slice_set}
use Rattle.std.specs.List.{AllByRecursion, position_or_len}
use Rattle.std.proofs.lemmas.Bool.Decides.{nat_tests}
use Rattle.std.proofs.lemmas.List.Folds.{position_or_len-set}
use Rattle.std.proofs.lemmas.List.Quantifiers.{position-Some}
use Rattle.std.proofs.lemmas.Option.{slice_get_read, get_or_from_slice_get}
use Rattle.series_rows.specs.Row.{RowView, Rise, columns}
use Rattle.series_rows.specs.declared.cell.RowReading.{RowReading}
use Rattle.order_window.specs.declared.key.Key.{Key}
use Rattle.online_values.specs.Results.{clamped_after, median_before, successors}
use Rattle.online_repair.specs.Rows.{is_column, keys_in}
use Rattle.online_repair.specs.Sensors.{IsReady, IsReadyAt, IsReadyOf, Repairs, RepairsOf, RepairsTo, key_of, place_in}
use Rattle.online_repair.specs.Tracks.{AreHeld, IsLeaving, IsLike, IsLooked, last_after}
use Rattle.online_repair.specs.declared.track.Track.{Track}

abbrev is_of : ℕ → Track → Bool
is_of col track = is_column col track.col

pub place_below : (col : ℕ) (tracks : List Track) (i : ℕ) (d : Track) → place_in col tracks ≡ Some i → i < length tracks
place_below col tracks i d e = (position-Some (is_of col) tracks i d e).0

pub place_column : (col : ℕ) (tracks : List Track) (i : ℕ) (d : Track) → place_in col tracks ≡ Some i → is_column col (get_or tracks i d).col ≡ true
place_column col tracks i d e = (position-Some (is_of col) tracks i d e).1

-- ---- one track is another one of the same column

pub place_set : (col : ℕ) (tracks : List Track) (i : ℕ) (track d : Track) → track.col ≡ (get_or tracks i d).col → place_in col (set tracks i track) ≡ place_in col tracks
place_set col tracks i track d e =
    let test = is_of col in
    let first : position_or_len test (set tracks i track) ≡ position_or_len test tracks = position_or_len-set test tracks i track d (ap (is_column col) e) in
    let long : length (set tracks i track) ≡ length tracks = length-set tracks i track in
    ap (λ (n : ℕ). cond (nat_lt n (length (set tracks i track))) (Some n) None) first
    ∙ ap (λ (n : ℕ). cond (nat_lt (position_or_len test tracks) n) (Some (position_or_len test tracks)) None) long

same_place : (a b : ℕ) → Some a ≡ Some b → a ≡ b
same_place a b e = cc

-- ---- the call of a track

pub repairs_at : (col i : ℕ) (old : List Track) (track after : Track) (own read : Key) (held : List RowView) (value : ℤ) → read ≡ own → place_in col old ≡ Some i → slice_get old i ≡ Some track
    → value ≡ clamped_after track.sensor.speed track.sensor.last read (median_before track.sensor.speed read (successors track.sensor.speed read (keys_in col held)))
    → IsLooked col read.ticks after held → IsLike (record track { sensor = record track.sensor { last = last_after track.sensor.last read.ticks value } }) after
    → Repairs (place_in col old) old (slice_set old i after) col own held value
repairs_at col i old track after own read held value e place at value_is looked kept =
    let P : Option ℕ → Type 0 = λ o. Repairs o old (slice_set old i after) col own held value in
    let T : Option Track → Type 0 = λ o. RepairsOf o i old (slice_set old i after) col own held value in
    let K : Key → Type 0 = λ key. RepairsTo col key held track after value in
    let to : RepairsTo col read held track after value = record { value_is = value_is; looked = looked; kept = kept } in
    subst P (sym place) (subst T (sym at) (after, refl, subst K e to))

pub record MayRepair (col : ℕ) (own : Key) (track : Track) (held : List RowView) : Type 0 where
  pub rows : AreHeld col own.ticks track.sensor.room held
  pub leaving : IsLeaving col own track held

pub ready_at : (col i : ℕ) (tracks : List Track) (track : Track) (own read : Key) (held : List RowView) → read ≡ own → place_in col tracks ≡ Some i → slice_get tracks i ≡ Some track → IsReadyAt (place_in col tracks) tracks col own held → MayRepair col read track held
ready_at col i tracks track own read held e place at ready =
    let P : Option ℕ → Type 0 = λ o. IsReadyAt o tracks col own held in
    let T : Option Track → Type 0 = λ o. IsReadyOf o col own held in
    let K : Key → Type 0 = λ key. MayRepair col key track held in
    let parts = subst T at (subst P place ready) in
    subst K (sym e) (record { rows = parts.0; leaving = parts.1 })

pub track_at : (col i : ℕ) (tracks : List Track) (track : Track) → place_in col tracks ≡ Some i → track ≡ get_or tracks i track → slice_get tracks i ≡ Some track
track_at col i tracks track place is = slice_get_read tracks (length tracks) i track refl (place_below col tracks i track place) is

-- ---- the other readings of the row

pub slice_get-set_other : (tracks : List Track) (i j : ℕ) (track : Track) → (i ≡ j → ⊥) → slice_get (set tracks i track) j ≡ slice_get tracks j
slice_get-set_other [] i j track differ = refl
slice_get-set_other (first ∷ tracks) zero zero track differ = absurd (differ refl)
slice_get-set_other (first ∷ tracks) zero (suc j) track differ = refl
slice_get-set_other (first ∷ tracks) (suc i) zero track differ = refl
slice_get-set_other (first ∷ tracks) (suc i) (suc j) track differ = slice_get-set_other tracks i j track (λ e. differ (ap suc e))

false_true : false ≡ true → ⊥
false_true e = cc

same_column : (a b : ℕ) (o : Option ℕ) → is_column a o ≡ true → is_column b o ≡ true → a ≡ b
same_column a b None e f = absurd (false_true e)
same_column a b (Some c) e f = grind (arith, nat_tests)

ready_by : (o : Option ℕ) (old new : List Track) (col : ℕ) (own : Key) (held : List RowView) → ((i : ℕ) → o ≡ Some i → slice_get new i ≡ slice_get old i) → IsReadyAt o old col own held → IsReadyAt o new col own held
ready_by None old new col own held same ready = tt
ready_by (Some i) old new col own held same ready =
    let R : Option Track → Type 0 = λ o. IsReadyOf o col own held in
    subst R (sym (same i refl)) ready

-- the tracks are those before, but for the one of a column
pub record IsChanged (col : ℕ) (old new : List Track) : Type 0 where
  pub places : (other : ℕ) → place_in other new ≡ place_in other old
  pub tracks : (other i : ℕ) → (col ≡ other → ⊥) → place_in other old ≡ Some i → slice_get new i ≡ slice_get old i

pub unchanged : (col : ℕ) (old new : List Track) → new ≡ old → IsChanged col old new
unchanged col old new e = record {
  places = λ other. ap (place_in other) e;
  tracks = λ other i differ place. ap (λ (ts : List Track). slice_get ts i) e;
}

other_column : (other i j : ℕ) (old : List Track) (d : Track) → i ≡ j → place_in other old ≡ Some j → is_column other (get_or old i d).col ≡ true
other_column other i j old d e place =
    let C : ℕ → Type 0 = λ k. is_column other (get_or old k d).col ≡ true in
    subst C (sym e) (place_column other old j d place)

pub set_changed : (col i : ℕ) (old : List Track) (track after : Track) → place_in col old ≡ Some i → slice_get old i ≡ Some track → after.col ≡ track.col → IsChanged col old (slice_set old i after)
set_changed col i old track after place at same =
    let here = get_or_from_slice_get old i track after at in
    record {
      places = λ other. place_set other old i after after (same ∙ ap (λ (t : Track). t.col) (sym here));
      tracks = λ other j differ place_j.
          slice_get-set_other old i j after (λ e. differ (same_column col other (get_or old i after).col (place_column col old i after place) (other_column other i j old after e place_j)));
    }

changed_of : (o : Option Track) (col i : ℕ) (old new : List Track) (own : Key) (held : List RowView) (value : ℤ) → place_in col old ≡ Some i → slice_get old i ≡ o → RepairsOf o i old new col own held value → IsChanged col old new
changed_of None col i old new own held value place at repairs = unchanged col old new repairs.1
changed_of (Some track) col i old new own held value place at repairs =
    let C : List Track → Type 0 = λ ts. IsChanged col old ts in
    subst C (sym repairs.1) (set_changed col i old track repairs.0 place at repairs.2.kept.col)

changed_by : (o : Option ℕ) (col : ℕ) (old new : List Track) (own : Key) (held : List RowView) (value : ℤ) → place_in col old ≡ o → Repairs o old new col own held value → IsChanged col old new
changed_by None col old new own held value place repairs = unchanged col old new repairs.1
changed_by (Some i) col old new own held value place repairs = changed_of (slice_get old i) col i old new own held value place refl repairs

pub changed : (col : ℕ) (old new : List Track) (own : Key) (held : List RowView) (value : ℤ) → Repairs (place_in col old) old new col own held value → IsChanged col old new
changed col old new own held value repairs = changed_by (place_in col old) col old new own held value refl repairs

ready_after : (col : ℕ) (old new : List Track) (held : List RowView) (ticks : ℤ) (reading : RowReading) → IsChanged col old new → (col ≡ reading.col → ⊥) → IsReady old held ticks reading → IsReady new held ticks reading
ready_after col old new held ticks reading change differ ready =
    let P : Option ℕ → Type 0 = λ o. IsReadyAt o new reading.col (key_of reading ticks) held in
    subst P (sym (change.places reading.col)) (ready_by (place_in reading.col old) old new reading.col (key_of reading ticks) held (λ i place. change.tracks reading.col i differ place) ready)

not_less : (a b : ℕ) → a < b → a ≡ b → ⊥
not_less a b h e = omega (arith, h, e)

pub all_ready_after : (col : ℕ) (old new : List Track) (held : List RowView) (ticks : ℤ) (readings : List RowReading) → IsChanged col old new → AllByRecursion (λ (reading : RowReading). col < reading.col) readings → AllByRecursion (IsReady old held ticks) readings → AllByRecursion (IsReady new held ticks) readings
all_ready_after col old new held ticks [] change later ready = tt
all_ready_after col old new held ticks (reading ∷ readings) change later ready =
    (ready_after col old new held ticks reading change (λ e. not_less col reading.col later.0 e) ready.0, all_ready_after col old new held ticks readings change later.1 ready.1)

-- ---- the columns of a row go up

less_chain : (a b c : ℕ) → a < b → b < c → a < c
less_chain a b c g h = omega (arith, g, h)

chain_all : (before col : ℕ) (readings : List RowReading) → before < col → AllByRecursion (λ (reading : RowReading). col < reading.col) readings → AllByRecursion (λ (reading : RowReading). before < reading.col) readings
chain_all before col [] h all = tt
chain_all before col (reading ∷ readings) h all = (less_chain before col reading.col h all.0, chain_all before col readings h all.1)

pub later_columns : (before last : ℕ) (readings : List RowReading) → Rise before (columns readings) last → AllByRecursion (λ (reading : RowReading). before < reading.col) readings
later_columns before last [] rise = tt
later_columns before last (reading ∷ readings) rise =
    (rise.0, chain_all before reading.col readings rise.0 (later_columns reading.col last readings rise.2))

pub columns_after : (before last : ℕ) (readings : List RowReading) (i : ℕ) (d : RowReading) → Rise before (columns readings) last → i < length readings → AllByRecursion (λ (reading : RowReading). (get_or readings i d).col < reading.col) (drop (suc i) readings)
columns_after before last [] i d rise h = absurd (omega (arith, h))
columns_after before last (reading ∷ readings) zero d rise h = later_columns reading.col last readings rise.2
columns_after before last (reading ∷ readings) (suc i) d rise h = columns_after reading.col last readings i d rise.2 (omega (arith, h))
