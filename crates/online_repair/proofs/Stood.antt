-- All tracks stand as they are to after the oldest row was repaired.
use Rattle.std.proofs.Common.{◌≡◌, ℕ, zero, suc, ℤ, List, [], ◌∷◌, length, map, set, refl, sym, ap, ◌∙◌, subst}
use Rattle.std.specs.Prelude.{Option, Some, None, slice_get}
use Rattle.rule_file.specs.declared.rules.Rules.{Rules}
use Rattle.rule_file.specs.declared.rules.SpeedRule.{SpeedRule}
use Rattle.series_rows.specs.Header.{HeaderView}
use Rattle.series_rows.specs.Row.{RowView}
use Rattle.order_window.specs.declared.key.Key.{Key}
use Rattle.online_repair.specs.Rows.{reading_in}
use Rattle.online_repair.specs.Sensors.{IsTrackOf, Repairs, RepairsOf, RepairsRow, passed, place_in}
use Rattle.online_repair.specs.Standing.{AreStanding, IsSound, IsStanding}
use Rattle.online_repair.specs.declared.track.Track.{Track}
use Rattle.online_repair.proofs.After.{AreSmall, done, key_at, no_reading, passed_stands, repaired_stands, rules_after, untouched}
use Rattle.online_repair.proofs.Columns.{changed}
use Rattle.online_repair.proofs.Rules.{no_track, place_passed, rule_of_track, same_rule, same_track, slice_get_passed, slice_get_passed_none, tracks_passed}

get_set_same : (tracks : List Track) (i : ℕ) (track after : Track) → slice_get tracks i ≡ Some track → slice_get (set tracks i after) i ≡ Some after
get_set_same [] i track after at = absurd (no_track track at)
get_set_same (other ∷ tracks) zero track after at = refl
get_set_same (other ∷ tracks) (suc i) track after at = get_set_same tracks i track after at

-- the track of a column, before
pub record WasTrack (rules : Rules) (header : HeaderView) (before rest : List RowView) (row : RowView) (tracks : List Track) (col i : ℕ) (rule : SpeedRule) : Type 0 where
  pub track : Track
  pub at : slice_get (map passed tracks) i ≡ Some (passed track)
  pub of_rule : IsTrackOf rules header rule track
  pub stands : IsStanding rules rule col before (row ∷ rest) track

was_by : (rules : Rules) (header : HeaderView) (before rest : List RowView) (row : RowView) (tracks now : List Track) (col i : ℕ) (rule : SpeedRule) (after : Track) (o : Option Track) → AreStanding rules header before (row ∷ rest) tracks → place_in col tracks ≡ Some i → slice_get rules.speeds i ≡ Some rule
    → slice_get tracks i ≡ o → (slice_get (map passed tracks) i ≡ None → ⊥) → WasTrack rules header before rest row tracks col i rule
was_by rules header before rest row tracks now col i rule after None standing place at_rule at some = absurd (some (slice_get_passed_none tracks i at))
was_by rules header before rest row tracks now col i rule after (Some track) standing place at_rule at some =
    let found = rule_of_track (IsTrackOf rules header) rules.speeds tracks i track standing.of_rules at in
    let R : SpeedRule → Type 0 = λ r. IsTrackOf rules header r track in
    record {
      track = track;
      at = slice_get_passed tracks i track at;
      of_rule = subst R (same_rule found.rule rule (sym found.at ∙ at_rule)) found.is;
      stands = standing.stands col i rule track place at_rule at;
    }

none_is : (o : Option Track) (track : Track) → o ≡ Some track → o ≡ None → ⊥
none_is o track e f = no_track track (sym f ∙ e)

stood_none : (rules : Rules) (header : HeaderView) (before rest : List RowView) (row : RowView) (tracks new : List Track) (values : List ℤ) (col i : ℕ) (rule : SpeedRule) (after : Track) → AreStanding rules header before (row ∷ rest) tracks → RepairsRow row.ticks rest row.readings (map passed tracks) new values
    → reading_in col row.readings ≡ None → place_in col new ≡ Some i → slice_get rules.speeds i ≡ Some rule → slice_get new i ≡ Some after → IsStanding rules rule col (row ∷ before) rest after
stood_none rules header before rest row tracks new values col i rule after standing repairs none place at_rule at =
    let same = untouched row.ticks rest row.readings (map passed tracks) new values col (no_reading col row.readings none) repairs in
    let place_before = sym same.place ∙ place in
    let at_before = sym (same.track i place_before) ∙ at in
    let was = was_by rules header before rest row tracks new col i rule after (slice_get tracks i) standing (sym (place_passed col tracks) ∙ place_before) at_rule refl (none_is (slice_get (map passed tracks) i) after at_before) in
    let S : Track → Type 0 = λ t. IsStanding rules rule col (row ∷ before) rest t in
    subst S (same_track (passed was.track) after (sym was.at ∙ at_before)) (passed_stands rules rule col before rest row was.track none was.stands)

start_none : (col i : ℕ) (start end : List Track) (own : Key) (rest : List RowView) (value : ℤ) (after : Track) → slice_get start i ≡ None → RepairsOf (slice_get start i) i start end col own rest value → slice_get end i ≡ Some after → ⊥
start_none col i start end own rest value after none repairs at =
    let T : Option Track → Type 0 = λ o. RepairsOf o i start end col own rest value in
    let same = (subst T none repairs).1 in
    no_track after (sym none ∙ ap (λ (ts : List Track). slice_get ts i) (sym same) ∙ at)

stood_some : (rules : Rules) (header : HeaderView) (before rest : List RowView) (row : RowView) (tracks new : List Track) (values : List ℤ) (col i : ℕ) (rule : SpeedRule) (after : Track) (v : ℤ) → AreStanding rules header before (row ∷ rest) tracks → IsSound row → AreSmall values → RepairsRow row.ticks rest row.readings (map passed tracks) new values
    → reading_in col row.readings ≡ Some v → place_in col new ≡ Some i → slice_get rules.speeds i ≡ Some rule → slice_get new i ≡ Some after → IsStanding rules rule col (row ∷ before) rest after
stood_some rules header before rest row tracks new values col i rule after v standing sound small repairs reading place at_rule at =
    let was_done = done row.ticks rest row.readings (map passed tracks) new values col 0 (length row.fields) v reading sound.rise small repairs in
    let place_end = sym was_done.after.place ∙ place in
    let at_end = sym (was_done.after.track i place_end) ∙ at in
    let place_start = sym ((changed col was_done.start was_done.end (key_at v row.ticks) rest was_done.value was_done.repairs).places col) ∙ place_end in
    let place_before = sym was_done.before.place ∙ place_start in
    let same_start = was_done.before.track i place_before in
    let R : Option ℕ → Type 0 = λ o. Repairs o was_done.start was_done.end col (key_at v row.ticks) rest was_done.value in
    let repairs_i = subst R place_start was_done.repairs in
    let was = was_by rules header before rest row tracks new col i rule after (slice_get tracks i) standing (sym (place_passed col tracks) ∙ place_before) at_rule refl
    (λ none. start_none col i was_done.start was_done.end (key_at v row.ticks) rest was_done.value after (same_start ∙ none) repairs_i at_end) in
    let T : Option Track → Type 0 = λ o. RepairsOf o i was_done.start was_done.end col (key_at v row.ticks) rest was_done.value in
    let at_start = same_start ∙ was.at in
    let to = subst T at_start repairs_i in
    let end_is = ap (λ (ts : List Track). slice_get ts i) to.1 ∙ get_set_same was_done.start i (passed was.track) to.0 at_start in
    let S : Track → Type 0 = λ t. IsStanding rules rule col (row ∷ before) rest t in
    subst S (same_track to.0 after (sym end_is ∙ at_end))
    (repaired_stands rules header rule col before rest row (key_at v row.ticks) was.track to.0 was_done.value was.of_rule was.stands reading refl was_done.small to.2)

stood_by : (rules : Rules) (header : HeaderView) (before rest : List RowView) (row : RowView) (tracks new : List Track) (values : List ℤ) (col i : ℕ) (rule : SpeedRule) (after : Track) (o : Option ℤ) → AreStanding rules header before (row ∷ rest) tracks → IsSound row → AreSmall values → RepairsRow row.ticks rest row.readings (map passed tracks) new values
    → reading_in col row.readings ≡ o → place_in col new ≡ Some i → slice_get rules.speeds i ≡ Some rule → slice_get new i ≡ Some after → IsStanding rules rule col (row ∷ before) rest after
stood_by rules header before rest row tracks new values col i rule after None standing sound small repairs reading place at_rule at = stood_none rules header before rest row tracks new values col i rule after standing repairs reading place at_rule at
stood_by rules header before rest row tracks new values col i rule after (Some v) standing sound small repairs reading place at_rule at = stood_some rules header before rest row tracks new values col i rule after v standing sound small repairs reading place at_rule at

pub standing_after : (rules : Rules) (header : HeaderView) (before rest : List RowView) (row : RowView) (tracks new : List Track) (values : List ℤ) → AreStanding rules header before (row ∷ rest) tracks → IsSound row → AreSmall values → RepairsRow row.ticks rest row.readings (map passed tracks) new values
    → AreStanding rules header (row ∷ before) rest new
standing_after rules header before rest row tracks new values standing sound small repairs = record {
  of_rules = rules_after rules header row.ticks rest row.readings (map passed tracks) new values (tracks_passed rules header rules.speeds tracks standing.of_rules) repairs;
  stands = λ col i rule after place at_rule at. stood_by rules header before rest row tracks new values col i rule after (reading_in col row.readings) standing sound small repairs refl place at_rule at;
}
