-- A row is held, after those that it makes ready were written.
use Rattle.std.proofs.Common.{◌≡◌, ℕ, ◌+◌, ◌<◌, ◌≤◌, ◌^◌, ◌&&◌, Bool, true, false, cond, ◌⊎◌, inl, inr, ℤ, pos, ◌-ℤ◌, ◌≤ℤ◌, ◌<ℤ◌, List, [], ◌∷◌, ◌++◌, length, refl, sym, ap, ◌∙◌, subst, arith, append-nil, append_assoc, length-append}
use Rattle.std.specs.Prelude.{Result, Ok, Err, int_le, int_lt, nat_le}
use Rattle.std.specs.List.{AllByRecursion}
use Rattle.std.proofs.lemmas.Bool.Decides.{nat_tests}
use Rattle.std.proofs.lemmas.Int.{ints}
use Rattle.circular_buffer.specs.Buffer.{Buffer}
use Rattle.words.proofs.Lists.{all_push}
use Rattle.rule_file.specs.declared.rules.Rules.{Rules}
use Rattle.series_rows.specs.Header.{HeaderView}
use Rattle.series_rows.specs.Row.{RowView}
use Rattle.series_rows.specs.Texts.{row_text_with}
use Rattle.online_values.proofs.Steps.{true_less}
use Rattle.online_repair.specs.Accepted.{greatest_window}
use Rattle.online_repair.specs.Engines.{AreRows, IsSame, IsStopped, IsWritten, KeepSeen, Stands, WritesRows, due_part, is_full_at, rest_part}
use Rattle.online_repair.specs.Rows.{repaired_row}
use Rattle.online_repair.specs.Sensors.{HaveSeen, all_seen}
use Rattle.online_repair.specs.Shown.{AreSmallRows}
use Rattle.online_repair.specs.Standing.{AreStanding, FallsFrom, IsSound}
use Rattle.online_repair.specs.Storing.{ArePast, Fall, IsStored, MayStore, onto, rows_text}
use Rattle.online_repair.specs.Tracks.{RisesFrom}
use Rattle.online_repair.specs.declared.engine.Engine.{Engine}
use Rattle.online_repair.specs.declared.fault.OnlineFault.{OnlineFault}
use Rattle.online_repair.specs.declared.track.Track.{Track}
use Rattle.online_repair.proofs.Beyond.{pushed_stands, window_within}
use Rattle.online_repair.proofs.Greatest.{window_some}
use Rattle.online_repair.proofs.Round.{due_whole}
use Rattle.online_repair.proofs.Seen.{have_seen, seen_standing}

-- ---- all rows that are due were written

pub record AreWritten (rules : Rules) (header : HeaderView) (before due rest : List RowView) (old new : Engine) (text now : List ℕ) : Type 0 where
  pub stands : Stands rules header (onto due before) new
  pub held : new.held.items ≡ rest
  pub same : IsSame old new
  pub text_is : now ≡ text ++ rows_text rules header before due rest
  pub seen : KeepSeen old new
  pub small : AreSmallRows rules header before due rest

ok_err : (done : Unit {0}) (fault : OnlineFault) → ◌≡◌ {A = Result (Unit {0}) OnlineFault} (Ok done) (Err fault) → ⊥
ok_err done fault e = cc

one_written : (rules : Rules) (header : HeaderView) (before : List RowView) (row : RowView) (due rest : List RowView) (old middle new : Engine) (text more now : List ℕ) → IsWritten rules header before row (due ++ rest) old middle text more → AreWritten rules header (row ∷ before) due rest middle new more now
    → AreWritten rules header before (row ∷ due) rest old new text now
one_written rules header before row due rest old middle new text more now is others = record {
  stands = others.stands;
  held = others.held;
  same = record { most = others.same.most ∙ is.same.most; capacity = others.same.capacity ∙ is.same.capacity };
  text_is = others.text_is
      ∙ ap (λ (bytes : List ℕ). bytes ++ rows_text rules header (row ∷ before) due rest) is.text_is
      ∙ append_assoc text (row_text_with rules row (repaired_row rules header before row (due ++ rest))) (rows_text rules header (row ∷ before) due rest);
  seen = λ rows seen. others.seen rows (is.seen rows seen);
  small = (is.small, others.small);
}

written_by : (rules : Rules) (header : HeaderView) (before : List RowView) (row : RowView) (due rest : List RowView) (done : Unit) (old new : Engine) (text now : List ℕ)
    → ((middle : Engine) (more : List ℕ) → WritesRows rules header (row ∷ before) due rest (Ok done) middle new more now → AreWritten rules header (row ∷ before) due rest middle new more now)
    → ((middle : Engine) × (more : List ℕ) × IsWritten rules header before row (due ++ rest) old middle text more × WritesRows rules header (row ∷ before) due rest (Ok done) middle new more now) ⊎ IsStopped rules header before row (due ++ rest) (Ok done) text now
    → AreWritten rules header before (row ∷ due) rest old new text now
written_by rules header before row due rest done old new text now others (inl w) = one_written rules header before row due rest old w.0 new text w.1 now w.2 (others w.0 w.1 w.3)
written_by rules header before row due rest done old new text now others (inr stopped) = absurd (ok_err done stopped.fault stopped.result_is)

pub are_written : (rules : Rules) (header : HeaderView) (before due rest : List RowView) (done : Unit) (old new : Engine) (text now : List ℕ) → WritesRows rules header before due rest (Ok done) old new text now → AreWritten rules header before due rest old new text now
are_written rules header before [] rest done old new text now w = record { stands = w.stands; held = w.held; same = w.same; text_is = w.text_is ∙ sym (append-nil text); seen = w.seen; small = tt }
are_written rules header before (row ∷ due) rest done old new text now w =
    written_by rules header before row due rest done old new text now (λ middle more. are_written rules header (row ∷ before) due rest done middle new more now) w

-- ---- those that were written are past and fall

past_by : (b : Bool) (most now : ℤ) (row : RowView) (due : List RowView) → int_lt most (now -ℤ row.ticks) ≡ b → ArePast most now due → ArePast most now (cond b (row ∷ due) [])
past_by true most now row due e past = (true_less most (now -ℤ row.ticks) e, past)
past_by false most now row due e past = tt

pub due_past : (most now : ℤ) (rows : List RowView) → ArePast most now (due_part most now rows)
due_past most now [] = tt
due_past most now (row ∷ rows) = past_by (int_lt most (now -ℤ row.ticks)) most now row (due_part most now rows) refl (due_past most now rows)

pub past_onto : (most now : ℤ) (due before : List RowView) → ArePast most now due → ArePast most now before → ArePast most now (onto due before)
past_onto most now [] before past old = old
past_onto most now (row ∷ due) before past old = past_onto most now due (row ∷ before) past.1 (past.0, old)

fall_onto : (row : RowView) (rows before : List RowView) → FallsFrom row.ticks before → RisesFrom row.ticks rows → Fall (onto rows (row ∷ before))
fall_onto row [] before falls rises = falls
fall_onto row (next ∷ rows) before falls rises = fall_onto next rows (row ∷ before) (rises.0, falls) rises.1

rises_by : (b : Bool) (ticks : ℤ) (row : RowView) (due : List RowView) → ticks <ℤ row.ticks → RisesFrom row.ticks due → RisesFrom ticks (cond b (row ∷ due) [])
rises_by true ticks row due h rises = (h, rises)
rises_by false ticks row due h rises = tt

due_rises : (most now ticks : ℤ) (rows : List RowView) → RisesFrom ticks rows → RisesFrom ticks (due_part most now rows)
due_rises most now ticks [] rises = tt
due_rises most now ticks (row ∷ rows) rises = rises_by (int_lt most (now -ℤ row.ticks)) ticks row (due_part most now rows) rises.0 (due_rises most now row.ticks rows rises.1)

fall_by : (b : Bool) (row : RowView) (due before : List RowView) → FallsFrom row.ticks before → Fall before → RisesFrom row.ticks due → Fall (onto (cond b (row ∷ due) []) before)
fall_by true row due before falls fall rises = fall_onto row due before falls rises
fall_by false row due before falls fall rises = fall

pub due_fall : (hold : ℕ) (most now : ℤ) (before items : List RowView) → AreRows hold before items → Fall before → Fall (onto (due_part most now items) before)
due_fall hold most now before [] rows fall = fall
due_fall hold most now before (row ∷ items) rows fall =
    fall_by (int_lt most (now -ℤ row.ticks)) row (due_part most now items) before rows.falls fall (due_rises most now row.ticks items rows.rises)

past_earlier : (most now ticks : ℤ) → pos 0 ≤ℤ most → most <ℤ (now -ℤ ticks) → ticks <ℤ now
past_earlier most now ticks g h = omega (arith, ints)

falls_past : (most now : ℤ) (rows : List RowView) → pos 0 ≤ℤ most → ArePast most now rows → Fall rows → FallsFrom now rows
falls_past most now [] g past fall = tt
falls_past most now (row ∷ rows) g past fall = (past_earlier most now row.ticks g past.0, fall)

-- ---- those that stay

all_by : (P : RowView → Type 0) (b : Bool) (row : RowView) (rows rest : List RowView) → P row → AllByRecursion P rows → AllByRecursion P rest → AllByRecursion P (cond b rest (row ∷ rows))
all_by P true row rows rest here all more = more
all_by P false row rows rest here all more = (here, all)

rest_all : (P : RowView → Type 0) (most now : ℤ) (rows : List RowView) → AllByRecursion P rows → AllByRecursion P (rest_part most now rows)
rest_all P most now [] all = tt
rest_all P most now (row ∷ rows) all = all_by P (int_lt most (now -ℤ row.ticks)) row rows (rest_part most now rows) all.0 all.1 (rest_all P most now rows all.1)

rest_shorter : (most now : ℤ) (rows : List RowView) → length (rest_part most now rows) ≤ length rows
rest_shorter most now rows = omega (arith, ap length (due_whole most now rows), length-append (due_part most now rows) (rest_part most now rows))

not_le : (a b : ℕ) → nat_le a b ≡ false → b < a
not_le a b e = grind (arith, nat_tests)

and_false : (a b : Bool) → (a && b) ≡ false → b ≡ true → a ≡ false
and_false true true e f = e
and_false true false e f = sym f
and_false false b e f = refl

le_of_not_less : (a b : ℤ) → int_lt a b ≡ false → int_le b a ≡ true
le_of_not_less a b e = grind (arith, ints)

room_by : (b : Bool) (hold : ℕ) (most now : ℤ) (row : RowView) (rows rest : List RowView) → int_lt most (now -ℤ row.ticks) ≡ b → length rest ≤ length rows → length (row ∷ rows) ≤ hold → is_full_at hold most (row ∷ rows) now ≡ false → length (cond b rest (row ∷ rows)) < hold
room_by true hold most now row rows rest e shorter few full = omega (arith, shorter, few)
room_by false hold most now row rows rest e shorter few full =
    not_le hold (length (row ∷ rows)) (and_false (nat_le hold (length (row ∷ rows))) (int_le (now -ℤ row.ticks) most) full (le_of_not_less most (now -ℤ row.ticks) e))

pub rest_room : (hold : ℕ) (most now : ℤ) (items : List RowView) → 1 ≤ hold → length items ≤ hold → is_full_at hold most items now ≡ false → length (rest_part most now items) < hold
rest_room hold most now [] least few full = omega (arith, least)
rest_room hold most now (row ∷ rows) least few full = room_by (int_lt most (now -ℤ row.ticks)) hold most now row rows (rest_part most now rows) refl (rest_shorter most now rows) few full

-- ---- the row is held

rises_push : (ticks : ℤ) (rows : List RowView) (row : RowView) → RisesFrom ticks rows → ticks <ℤ row.ticks → AllByRecursion (λ (other : RowView). other.ticks <ℤ row.ticks) rows → RisesFrom ticks (rows ++ row ∷ [])
rises_push ticks [] row rises h all = (h, tt)
rises_push ticks (next ∷ rows) row rises h all = (rises.0, rises_push next.ticks rows row rises.1 all.0 all.1)

rows_push : (hold : ℕ) (before rest : List RowView) (row : RowView) → AreRows hold before rest → FallsFrom row.ticks before → AllByRecursion (λ (other : RowView). other.ticks <ℤ row.ticks) rest → IsSound row → length rest < hold → hold < 2 ^ 32 → AreRows hold before (rest ++ row ∷ [])
rows_push hold before [] row rows falls later sound few fits = record { falls = falls; rises = tt; sound = sound; sound_rest = tt; few = few; hold_fits = fits }
rows_push hold before (oldest ∷ rest) row rows falls later sound few fits = record {
  falls = rows.falls;
  rises = rises_push oldest.ticks rest row rows.rises later.0 later.1;
  sound = rows.sound;
  sound_rest = all_push IsSound rest row rows.sound_rest sound;
  few = omega (arith, few, length-append rest (row ∷ []));
  hold_fits = fits;
}

pub length_onto : (due before : List RowView) → length (onto due before) ≡ length due + length before
length_onto [] before = omega arith
length_onto (row ∷ due) before = omega (arith, length_onto due (row ∷ before))

pub standing_push : (rules : Rules) (header : HeaderView) (before held : List RowView) (row : RowView) (tracks : List Track) → ArePast (greatest_window rules.speeds) row.ticks before → AreStanding rules header before held tracks → AreStanding rules header before (held ++ row ∷ []) tracks
standing_push rules header before held row tracks past standing = record {
  of_rules = standing.of_rules;
  stands = λ col i rule track place at_rule at.
      pushed_stands rules rule col (greatest_window rules.speeds) before held row track (window_within rules.speeds i rule at_rule) past (standing.stands col i rule track place at_rule at);
}

-- before it was accepted, and after
pub started : (rules : Rules) (header : HeaderView) (before : List RowView) (row : RowView) (old new : Engine) → Stands rules header before old → new.tracks.items ≡ all_seen row.ticks row.readings old.tracks.items → new.held ≡ old.held → new.written ≡ old.written → Stands rules header before new
started rules header before row old new stands tracks held written =
    let items = ap (λ (h : Buffer RowView). h.items) held in
    let A : List RowView → Type 0 = λ hs. AreStanding rules header before hs new.tracks.items in
    let T : List Track → Type 0 = λ ts. AreStanding rules header before old.held.items ts in
    let R : List RowView → Type 0 = λ hs. AreRows rules.format.hold before hs in
    record {
      tracks = subst A (sym items) (subst T (sym tracks) (seen_standing rules header before old.held.items row.ticks row.readings old.tracks.items stands.tracks));
      rows = subst R (sym items) stands.rows;
      written_is = written ∙ stands.written_is;
      few = omega (arith, stands.few, ap length items);
    }

pub is_stored : (rules : Rules) (header : HeaderView) (before : List RowView) (row : RowView) (old start middle new : Engine) (text now : List ℕ) → MayStore rules header before row old → IsSame old start → start.tracks.items ≡ all_seen row.ticks row.readings old.tracks.items
    → AreWritten rules header before (due_part old.most row.ticks old.held.items) (rest_part old.most row.ticks old.held.items) start middle text now
    → new.tracks.items ≡ middle.tracks.items → new.held.items ≡ middle.held.items ++ row ∷ [] → new.held.capacity ≡ middle.held.capacity → new.most ≡ middle.most → new.written ≡ middle.written
    → IsStored rules header before (due_part old.most row.ticks old.held.items) (rest_part old.most row.ticks old.held.items) row old new text now
is_stored rules header before row old start middle new text now may same begun are tracks held capacity most written =
    let due = due_part old.most row.ticks old.held.items in
    let rest = rest_part old.most row.ticks old.held.items in
    let held_is = held ∙ ap (λ (hs : List RowView). hs ++ row ∷ []) are.held in
    let past = past_onto old.most row.ticks due before (due_past old.most row.ticks old.held.items) may.past in
    let P : ℤ → Type 0 = λ m. ArePast m row.ticks (onto due before) in
    let Z : ℤ → Type 0 = λ m. pos 0 ≤ℤ m in
    let zero_least = subst Z (sym may.most_is) (window_some rules.speeds) in
    let falls = falls_past old.most row.ticks (onto due before) zero_least past (due_fall rules.format.hold old.most row.ticks before old.held.items may.stands.rows may.fall) in
    let A : List RowView → Type 0 = λ hs. AreStanding rules header (onto due before) hs middle.tracks.items in
    let B : List RowView → Type 0 = λ hs. AreStanding rules header (onto due before) hs new.tracks.items in
    let T : List Track → Type 0 = λ ts. AreStanding rules header (onto due before) (rest ++ row ∷ []) ts in
    let R : List RowView → Type 0 = λ hs. AreRows rules.format.hold (onto due before) hs in
    let rows = rows_push rules.format.hold (onto due before) rest row (subst R are.held are.stands.rows) falls (rest_all (λ (other : RowView). other.ticks <ℤ row.ticks) old.most row.ticks old.held.items may.later) may.sound
    (rest_room rules.format.hold old.most row.ticks old.held.items may.hold_least may.held_fits may.not_full) may.hold_fits in
    record {
      stands = record {
        tracks = subst B (sym held_is) (subst T (sym tracks) (standing_push rules header (onto due before) rest row middle.tracks.items (subst P may.most_is past) (subst A are.held are.stands.tracks)));
        rows = subst R (sym held_is) rows;
        written_is = written ∙ are.stands.written_is;
        few = omega (arith, may.few, ap length held_is, length-append rest (row ∷ []), length_onto due before, ap length (due_whole old.most row.ticks old.held.items), length-append due rest);
      };
      held = held_is;
      same = record { most = most ∙ are.same.most ∙ same.most; capacity = capacity ∙ are.same.capacity ∙ same.capacity };
      text_is = are.text_is;
      small = are.small;
      seen = λ rows seen.
          let H : List Track → Type 0 = λ ts. HaveSeen (row ∷ rows) ts in
          subst H (sym tracks) (are.seen (row ∷ rows) (subst H (sym begun) (have_seen row rows old.tracks.items seen)));
    }
