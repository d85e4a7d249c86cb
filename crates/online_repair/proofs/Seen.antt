-- The tracks after the readings of a row were accepted.
use Rattle.std.proofs.Common.{◌≡◌, ℕ, zero, suc, ◌==◌, Bool, true, false, cond, ℤ, List, [], ◌∷◌, set, refl, sym, ap, ◌∙◌, subst, arith}
use Rattle.std.specs.Prelude.{Option, Some, None, slice_get}
use Rattle.std.specs.List.{AllZip}
use Rattle.std.proofs.lemmas.Bool.Decides.{nat_tests}
use Rattle.rule_file.specs.declared.rules.Rules.{Rules}
use Rattle.rule_file.specs.declared.rules.SpeedRule.{SpeedRule}
use Rattle.series_rows.specs.Header.{HeaderView}
use Rattle.series_rows.specs.Row.{RowView}
use Rattle.series_rows.specs.declared.cell.RowReading.{RowReading}
use Rattle.order_window.specs.declared.key.Key.{Key}
use Rattle.online_repair.specs.Rows.{keys_in, reading_in, with_key}
use Rattle.online_repair.specs.Sensors.{AreTracksOf, HaveSeen, IsTrackOf, all_seen, latest, place_in, see_track, seen_at, seen_of}
use Rattle.online_repair.specs.Standing.{AreStanding, IsStanding}
use Rattle.online_repair.specs.declared.track.Track.{Track}
use Rattle.online_repair.proofs.Columns.{IsChanged, set_changed, unchanged}
use Rattle.online_repair.proofs.Rules.{no_track, place_inside, same_track}
use Rattle.online_repair.proofs.Steps.{is_some}

-- ---- after one reading

changed_of : (ticks : ℤ) (col i : ℕ) (tracks : List Track) (track : Option Track) → place_in col tracks ≡ Some i → slice_get tracks i ≡ track → IsChanged col tracks (seen_of ticks i track tracks)
changed_of ticks col i tracks None place at = unchanged col tracks tracks refl
changed_of ticks col i tracks (Some track) place at = set_changed col i tracks track (see_track ticks track) place at refl

changed_at : (ticks : ℤ) (col : ℕ) (tracks : List Track) (place : Option ℕ) → place_in col tracks ≡ place → IsChanged col tracks (seen_at ticks place tracks)
changed_at ticks col tracks None e = unchanged col tracks tracks refl
changed_at ticks col tracks (Some i) e = changed_of ticks col i tracks (slice_get tracks i) e refl

seen_changed : (ticks : ℤ) (col : ℕ) (tracks : List Track) → IsChanged col tracks (seen_at ticks (place_in col tracks) tracks)
seen_changed ticks col tracks = changed_at ticks col tracks (place_in col tracks) refl

get_set_same : (tracks : List Track) (i : ℕ) (track after : Track) → slice_get tracks i ≡ Some track → slice_get (set tracks i after) i ≡ Some after
get_set_same [] i track after at = absurd (no_track track at)
get_set_same (other ∷ tracks) zero track after at = refl
get_set_same (other ∷ tracks) (suc i) track after at = get_set_same tracks i track after at

seen_own : (ticks : ℤ) (col i : ℕ) (tracks : List Track) (track : Track) → place_in col tracks ≡ Some i → slice_get tracks i ≡ Some track → slice_get (seen_at ticks (place_in col tracks) tracks) i ≡ Some (see_track ticks track)
seen_own ticks col i tracks track place at =
    ap (λ (o : Option ℕ). slice_get (seen_at ticks o tracks) i) place
    ∙ ap (λ (o : Option Track). slice_get (seen_of ticks i o tracks) i) at
    ∙ get_set_same tracks i track (see_track ticks track) at

-- ---- after all

abbrev pub seen_by : ℤ → Option ℤ → Track → Track
seen_by ticks None track = track
seen_by ticks (Some value) track = see_track ticks track

pub record IsSeen (ticks : ℤ) (col : ℕ) (readings : List RowReading) (old new : List Track) : Type 0 where
  pub places : (other : ℕ) → place_in other new ≡ place_in other old
  pub track : (i : ℕ) (track : Track) → place_in col old ≡ Some i → slice_get old i ≡ Some track → slice_get new i ≡ Some (seen_by ticks (reading_in col readings) track)

seen_twice : (ticks : ℤ) (value : Option ℤ) (track : Track) → seen_by ticks value (see_track ticks track) ≡ see_track ticks track
seen_twice ticks None track = refl
seen_twice ticks (Some value) track = refl

same_number : (a b : ℕ) → (a == b) ≡ true → a ≡ b
same_number a b e = grind (arith, nat_tests)

other_number : (a b : ℕ) → (a == b) ≡ false → a ≡ b → ⊥
other_number a b e f = grind (arith, nat_tests)

track_by : (ticks : ℤ) (col : ℕ) (reading : RowReading) (readings : List RowReading) (tracks new : List Track) (i : ℕ) (track : Track) (b : Bool) → (reading.col == col) ≡ b → IsSeen ticks col readings (seen_at ticks (place_in reading.col tracks) tracks) new
    → place_in col tracks ≡ Some i → slice_get tracks i ≡ Some track → slice_get new i ≡ Some (seen_by ticks (cond b (Some reading.value) (reading_in col readings)) track)
track_by ticks col reading readings tracks new i track true e seen place at =
    let own_place = ap (λ (c : ℕ). place_in c tracks) (same_number reading.col col e) ∙ place in
    let change = seen_changed ticks reading.col tracks in
    seen.track i (see_track ticks track) (change.places col ∙ place) (seen_own ticks reading.col i tracks track own_place at)
    ∙ ap (λ (t : Track). Some t) (seen_twice ticks (reading_in col readings) track)
track_by ticks col reading readings tracks new i track false e seen place at =
    let change = seen_changed ticks reading.col tracks in
    seen.track i track (change.places col ∙ place) (change.tracks col i (other_number reading.col col e) place ∙ at)

pub all_seen_is : (ticks : ℤ) (col : ℕ) (readings : List RowReading) (tracks : List Track) → IsSeen ticks col readings tracks (all_seen ticks readings tracks)
all_seen_is ticks col [] tracks = record { places = λ other. refl; track = λ i track place at. at }
all_seen_is ticks col (reading ∷ readings) tracks =
    let rest = all_seen_is ticks col readings (seen_at ticks (place_in reading.col tracks) tracks) in
    record {
      places = λ other. rest.places other ∙ (seen_changed ticks reading.col tracks).places other;
      track = λ i track place at. track_by ticks col reading readings tracks (all_seen ticks readings (seen_at ticks (place_in reading.col tracks) tracks)) i track (reading.col == col) refl rest place at;
    }

-- ---- the track of a column, before

pub record WasSeen (ticks : ℤ) (col i : ℕ) (readings : List RowReading) (old : List Track) (track : Track) : Type 0 where
  pub was : Track
  pub place : place_in col old ≡ Some i
  pub at : slice_get old i ≡ Some was
  pub is : track ≡ seen_by ticks (reading_in col readings) was

was_by : (ticks : ℤ) (col i : ℕ) (readings : List RowReading) (old new : List Track) (track : Track) (o : Option Track) → IsSeen ticks col readings old new → place_in col old ≡ Some i → slice_get old i ≡ o → slice_get new i ≡ Some track → WasSeen ticks col i readings old track
was_by ticks col i readings old new track None seen place at new_at = absurd (is_some old i (place_inside col old i place) at)
was_by ticks col i readings old new track (Some was) seen place at new_at = record {
  was = was;
  place = place;
  at = at;
  is = same_track track (seen_by ticks (reading_in col readings) was) (sym new_at ∙ seen.track i was place at);
}

was_seen : (ticks : ℤ) (col i : ℕ) (readings : List RowReading) (tracks : List Track) (track : Track) → place_in col (all_seen ticks readings tracks) ≡ Some i → slice_get (all_seen ticks readings tracks) i ≡ Some track → WasSeen ticks col i readings tracks track
was_seen ticks col i readings tracks track place at =
    let seen = all_seen_is ticks col readings tracks in
    was_by ticks col i readings tracks (all_seen ticks readings tracks) track (slice_get tracks i) seen (sym (seen.places col) ∙ place) refl at

-- ---- what they have seen

latest_by : (ticks : ℤ) (value : Option ℤ) (track : Track) (keys : List Key) → track.seen ≡ latest keys → (seen_by ticks value track).seen ≡ latest (with_key ticks value keys)
latest_by ticks None track keys e = e
latest_by ticks (Some value) track keys e = refl

pub have_seen : (row : RowView) (rows : List RowView) (tracks : List Track) → HaveSeen rows tracks → HaveSeen (row ∷ rows) (all_seen row.ticks row.readings tracks)
have_seen row rows tracks seen col i track place at =
    let before = was_seen row.ticks col i row.readings tracks track place at in
    ap (λ (t : Track). t.seen) before.is
    ∙ latest_by row.ticks (reading_in col row.readings) before.was (keys_in col rows) (seen col i before.was before.place before.at)

-- ---- that they stand

stands_by : (rules : Rules) (rule : SpeedRule) (col : ℕ) (before held : List RowView) (ticks : ℤ) (value : Option ℤ) (track : Track) → IsStanding rules rule col before held track → IsStanding rules rule col before held (seen_by ticks value track)
stands_by rules rule col before held ticks None track stands = stands
stands_by rules rule col before held ticks (Some value) track stands = record { within = stands.within; keys_are = stands.keys_are; windowed = stands.windowed; last_is = stands.last_is }

zip_set : (R : SpeedRule → Track → Type 0) (speeds : List SpeedRule) (tracks : List Track) (i : ℕ) (track after : Track) → slice_get tracks i ≡ Some track → ((rule : SpeedRule) → R rule track → R rule after) → AllZip R speeds tracks → AllZip R speeds (set tracks i after)
zip_set R speeds [] i track after at keeps all = absurd (no_track track at)
zip_set R [] (other ∷ tracks) i track after at keeps all = absurd all
zip_set R (rule ∷ speeds) (other ∷ tracks) zero track after at keeps all =
    let P : Track → Type 0 = λ t. R rule t in
    (keeps rule (subst P (same_track other track at) all.0), all.1)
zip_set R (rule ∷ speeds) (other ∷ tracks) (suc i) track after at keeps all = (all.0, zip_set R speeds tracks i track after at keeps all.1)

rules_of : (rules : Rules) (header : HeaderView) (ticks : ℤ) (i : ℕ) (tracks : List Track) (track : Option Track) → slice_get tracks i ≡ track → AreTracksOf rules header tracks → AreTracksOf rules header (seen_of ticks i track tracks)
rules_of rules header ticks i tracks None at all = all
rules_of rules header ticks i tracks (Some track) at all =
    zip_set (IsTrackOf rules header) rules.speeds tracks i track (see_track ticks track) at (λ rule is. record { col = is.col; span = is.span; speed = is.speed; room = is.room }) all

rules_at : (rules : Rules) (header : HeaderView) (ticks : ℤ) (tracks : List Track) (place : Option ℕ) → AreTracksOf rules header tracks → AreTracksOf rules header (seen_at ticks place tracks)
rules_at rules header ticks tracks None all = all
rules_at rules header ticks tracks (Some i) all = rules_of rules header ticks i tracks (slice_get tracks i) refl all

pub rules_seen : (rules : Rules) (header : HeaderView) (ticks : ℤ) (readings : List RowReading) (tracks : List Track) → AreTracksOf rules header tracks → AreTracksOf rules header (all_seen ticks readings tracks)
rules_seen rules header ticks [] tracks all = all
rules_seen rules header ticks (reading ∷ readings) tracks all =
    rules_seen rules header ticks readings (seen_at ticks (place_in reading.col tracks) tracks) (rules_at rules header ticks tracks (place_in reading.col tracks) all)

pub seen_standing : (rules : Rules) (header : HeaderView) (before held : List RowView) (ticks : ℤ) (readings : List RowReading) (tracks : List Track) → AreStanding rules header before held tracks → AreStanding rules header before held (all_seen ticks readings tracks)
seen_standing rules header before held ticks readings tracks standing = record {
  of_rules = rules_seen rules header ticks readings tracks standing.of_rules;
  stands = λ col i rule track place at_rule at.
      let was = was_seen ticks col i readings tracks track place at in
      let S : Track → Type 0 = λ t. IsStanding rules rule col before held t in
      subst S (sym was.is) (stands_by rules rule col before held ticks (reading_in col readings) was.was (standing.stands col i rule was.was was.place at_rule was.at));
}
