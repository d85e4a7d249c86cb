-- What the tracks have seen stays while rows are repaired.
use Rattle.std.proofs.Common.{◌≡◌, ℕ, zero, suc, ℤ, List, [], ◌∷◌, map, set, refl, sym, ap, ◌∙◌}
use Rattle.std.specs.Prelude.{Option, Some, None, slice_get}
use Rattle.series_rows.specs.Row.{RowView}
use Rattle.series_rows.specs.declared.cell.RowReading.{RowReading}
use Rattle.order_window.specs.declared.key.Key.{Key}
use Rattle.online_repair.specs.Sensors.{HaveSeen, Repairs, RepairsOf, RepairsRow, key_of, passed, place_in}
use Rattle.online_repair.specs.declared.track.Track.{Track}
use Rattle.online_repair.proofs.Columns.{changed}
use Rattle.online_repair.proofs.Rules.{no_track, place_passed, same_track}

abbrev marks : List Track → List (Option ℤ)
marks tracks = map (λ (track : Track). track.seen) tracks

marks_passed : (tracks : List Track) → marks (map passed tracks) ≡ marks tracks
marks_passed [] = refl
marks_passed (track ∷ tracks) = ap (λ (ms : List (Option ℤ)). track.seen ∷ ms) (marks_passed tracks)

marks_set : (tracks : List Track) (i : ℕ) (track after : Track) → slice_get tracks i ≡ Some track → after.seen ≡ track.seen → marks (set tracks i after) ≡ marks tracks
marks_set [] i track after at e = refl
marks_set (other ∷ tracks) zero track after at e =
    ap (λ (m : Option ℤ). m ∷ marks tracks) (e ∙ ap (λ (t : Track). t.seen) (sym (same_track other track at)))
marks_set (other ∷ tracks) (suc i) track after at e = ap (λ (ms : List (Option ℤ)). other.seen ∷ ms) (marks_set tracks i track after at e)

marks_of : (o : Option Track) (i : ℕ) (old new : List Track) (col : ℕ) (own : Key) (held : List RowView) (value : ℤ) → slice_get old i ≡ o → RepairsOf o i old new col own held value → marks new ≡ marks old
marks_of None i old new col own held value at repairs = ap marks repairs.1
marks_of (Some track) i old new col own held value at repairs = ap marks repairs.1 ∙ marks_set old i track repairs.0 at repairs.2.kept.seen

marks_by : (o : Option ℕ) (old new : List Track) (col : ℕ) (own : Key) (held : List RowView) (value : ℤ) → Repairs o old new col own held value → marks new ≡ marks old
marks_by None old new col own held value repairs = ap marks repairs.1
marks_by (Some i) old new col own held value repairs = marks_of (slice_get old i) i old new col own held value refl repairs

record AreMarked (old new : List Track) : Type 0 where
  places : (col : ℕ) → place_in col new ≡ place_in col old
  marked : marks new ≡ marks old

row_marked : (ticks : ℤ) (held : List RowView) (readings : List RowReading) (old new : List Track) (values : List ℤ) → RepairsRow ticks held readings old new values → AreMarked old new
row_marked ticks held [] old new values repairs = record { places = λ col. ap (place_in col) repairs.0; marked = ap marks repairs.0 }
row_marked ticks held (reading ∷ readings) old new values repairs =
    let change = changed reading.col old repairs.0 (key_of reading ticks) held repairs.1 repairs.3 in
    let rest = row_marked ticks held readings repairs.0 new repairs.2 repairs.4 in
    record {
      places = λ col. rest.places col ∙ change.places col;
      marked = rest.marked ∙ marks_by (place_in reading.col old) old repairs.0 reading.col (key_of reading ticks) held repairs.1 repairs.3;
    }

-- the track of which a mark is
record HasMark (tracks : List Track) (i : ℕ) (mark : Option ℤ) : Type 0 where
  track : Track
  at : slice_get tracks i ≡ Some track
  mark_is : track.seen ≡ mark

no_mark : (m : Option ℤ) → None ≡ Some m → ⊥
no_mark m e = cc

same_mark : (a b : Option ℤ) → Some a ≡ Some b → a ≡ b
same_mark a b e = cc

mark_of : (tracks : List Track) (i : ℕ) (mark : Option ℤ) → slice_get (marks tracks) i ≡ Some mark → HasMark tracks i mark
mark_of [] i mark at = absurd (no_mark mark at)
mark_of (track ∷ tracks) zero mark at = record { track = track; at = refl; mark_is = same_mark track.seen mark at }
mark_of (track ∷ tracks) (suc i) mark at =
    let rest = mark_of tracks i mark at in
    record { track = rest.track; at = rest.at; mark_is = rest.mark_is }

mark_at : (tracks : List Track) (i : ℕ) (track : Track) → slice_get tracks i ≡ Some track → slice_get (marks tracks) i ≡ Some track.seen
mark_at [] i track at = absurd (no_track track at)
mark_at (other ∷ tracks) zero track at = ap (λ (t : Track). Some t.seen) (same_track other track at)
mark_at (other ∷ tracks) (suc i) track at = mark_at tracks i track at

marked_seen : (old new : List Track) (rows : List RowView) → AreMarked old new → HaveSeen rows old → HaveSeen rows new
marked_seen old new rows same seen col i track place at =
    let mark = sym (ap (λ (ms : List (Option ℤ)). slice_get ms i) same.marked) ∙ mark_at new i track at in
    let was = mark_of old i track.seen mark in
    sym was.mark_is ∙ seen col i was.track (sym (same.places col) ∙ place) was.at

pub seen_written : (ticks : ℤ) (held : List RowView) (readings : List RowReading) (old new : List Track) (values : List ℤ) (rows : List RowView) → RepairsRow ticks held readings (map passed old) new values → HaveSeen rows old → HaveSeen rows new
seen_written ticks held readings old new values rows repairs seen =
    let all = row_marked ticks held readings (map passed old) new values repairs in
    marked_seen old new rows (record { places = λ col. all.places col ∙ place_passed col old; marked = all.marked ∙ marks_passed old }) seen
