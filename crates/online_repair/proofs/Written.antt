-- The oldest row is written.
use Rattle.std.proofs.Common.{◌≡◌, ℕ, suc, ◌+◌, ◌≤◌, ℤ, List, [], ◌∷◌, ◌++◌, length, map, sym, ap, ◌∙◌, subst, arith, add-one}
use Rattle.circular_buffer.specs.Buffer.{Buffer}
use Rattle.series_rows.specs.declared.limits.TheConstants.{MOST_ENDLESS_ROWS}
use Rattle.rule_file.specs.declared.rules.Rules.{Rules}
use Rattle.series_rows.specs.Header.{HeaderView}
use Rattle.series_rows.specs.Row.{RowView}
use Rattle.series_rows.specs.Texts.{row_text_with}
use Rattle.series_rows.specs.declared.cell.RowReading.{RowReading}
use Rattle.online_repair.specs.Engines.{AreRows, IsWritten, Leaves}
use Rattle.online_repair.specs.Rows.{repaired_row}
use Rattle.online_repair.specs.Sensors.{RepairsRow, passed}
use Rattle.online_repair.specs.Standing.{AreAbout, AreStanding}
use Rattle.online_repair.specs.declared.engine.Engine.{Engine}
use Rattle.online_repair.specs.declared.track.Track.{Track}
use Rattle.online_repair.proofs.After.{AreSmall}
use Rattle.online_repair.proofs.Large.{all_small}
use Rattle.online_repair.proofs.Standing.{all_in}
use Rattle.online_repair.proofs.Stood.{standing_after}
use Rattle.online_repair.proofs.Values.{IsSameAt, same_itself, values_from}
use Rattle.online_repair.proofs.Marks.{seen_written}
use Rattle.std.specs.List.{AllByRecursion}

all_same : (tracks : List Track) (readings : List RowReading) → AllByRecursion (λ (reading : RowReading). IsSameAt tracks tracks reading.col) readings
all_same tracks [] = tt
all_same tracks (reading ∷ readings) = (same_itself tracks reading.col, all_same tracks readings)

pub values_are : (rules : Rules) (header : HeaderView) (before : List RowView) (row : RowView) (engine : Engine) (new : List Track) (values : List ℤ) → Leaves rules header before row engine → RepairsRow row.ticks engine.held.items row.readings (map passed engine.tracks.items) new values → values ≡ repaired_row rules header before row engine.held.items
values_are rules header before row engine new values leaves repairs =
    values_from rules header before engine.held.items row engine.tracks.items (map passed engine.tracks.items) new row.readings values 0 (length row.fields) leaves.tracks (all_same (map passed engine.tracks.items) row.readings)
    (all_in 0 (length row.fields) row.readings leaves.about.sound.rise) leaves.about.sound.rise repairs

rows_after : (hold : ℕ) (before : List RowView) (row : RowView) (rest : List RowView) → AreAbout hold before row rest → AreRows hold (row ∷ before) rest
rows_after hold before row [] about = tt
rows_after hold before row (next ∷ rest) about = record {
  falls = (about.rises.0, about.falls);
  rises = about.rises.1;
  sound = about.sound_rest.0;
  sound_rest = about.sound_rest.1;
  few = omega (arith, about.few);
  hold_fits = about.hold_fits;
}

pub is_written : (rules : Rules) (header : HeaderView) (before : List RowView) (row : RowView) (old new : Engine) (values stored : List ℤ) (text now : List ℕ) → Leaves rules header before row old → RepairsRow row.ticks old.held.items row.readings (map passed old.tracks.items) new.tracks.items values → AreSmall values
    → new.held ≡ old.held → new.most ≡ old.most → new.written ≡ old.written + 1 → length before + suc (length old.held.items) ≤ MOST_ENDLESS_ROWS → stored ≡ values → now ≡ text ++ row_text_with rules row stored → IsWritten rules header before row old.held.items old new text now
is_written rules header before row old new values stored text now leaves repairs small held most written few e text_is =
    let are = values_are rules header before row old new.tracks.items values leaves repairs in
    let T : List RowView → Type 0 = λ items. AreStanding rules header (row ∷ before) items new.tracks.items in
    let R : List RowView → Type 0 = λ items. AreRows rules.format.hold (row ∷ before) items in
    let S : List ℤ → Type 0 = λ vs. AreSmall vs in
    let items = ap (λ (h : Buffer RowView). h.items) held in
    record {
      stands = record {
        tracks = subst T (sym items) (standing_after rules header before old.held.items row old.tracks.items new.tracks.items values leaves.tracks leaves.about.sound small repairs);
        rows = subst R (sym items) (rows_after rules.format.hold before row old.held.items leaves.about);
        written_is = written ∙ ap (λ (n : ℕ). n + 1) leaves.written_is ∙ add-one (length before);
        few = omega (arith, few, ap length items);
      };
      held = items;
      small = all_small (repaired_row rules header before row old.held.items) (subst S are small);
      text_is = text_is ∙ ap (λ (vs : List ℤ). text ++ row_text_with rules row vs) (e ∙ are);
      same = record { most = most; capacity = ap (λ (h : Buffer RowView). h.capacity) held };
      seen = λ rows seen. seen_written row.ticks old.held.items row.readings old.tracks.items new.tracks.items values rows repairs seen;
    }
