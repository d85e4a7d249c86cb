-- An engine that has accepted nothing.
use Rattle.std.proofs.Common.{◌≡◌, ℕ, zero, suc, ◌≤◌, List, [], ◌∷◌, length, take, sym, ap, ◌∙◌, subst, arith}
use Rattle.std.specs.Prelude.{Some, slice_get}
use Rattle.std.specs.List.{AllByRecursion}
use Rattle.circular_buffer.specs.Buffer.{Buffer, buffer}
use Rattle.rule_file.specs.declared.rules.Rules.{Rules}
use Rattle.rule_file.specs.declared.rules.SpeedRule.{SpeedRule}
use Rattle.series_rows.specs.Header.{HeaderView}
use Rattle.series_rows.specs.Row.{RowView}
use Rattle.series_rows.specs.declared.limits.TheConstants.{MOST_ENDLESS_ROWS}
use Rattle.online_repair.specs.Accepted.{greatest_window}
use Rattle.online_repair.specs.Engines.{AreRows}
use Rattle.online_repair.specs.Keeping.{KeepsRows}
use Rattle.online_repair.specs.Rows.{keys_in}
use Rattle.online_repair.specs.Sensors.{AreTracksOf, HaveSeen, IsNew}
use Rattle.online_repair.specs.Shown.{AreShown}
use Rattle.online_repair.specs.Standing.{AreStanding, IsStanding}
use Rattle.online_repair.specs.declared.engine.Engine.{Engine}
use Rattle.online_repair.specs.declared.track.Track.{Track}
use Rattle.online_repair.proofs.Rules.{no_track, same_track}

new_at : (tracks : List Track) (i : ℕ) (track : Track) → AllByRecursion IsNew tracks → slice_get tracks i ≡ Some track → IsNew track
new_at [] i track all at = absurd (no_track track at)
new_at (other ∷ tracks) zero track all at = subst IsNew (same_track other track at) all.0
new_at (other ∷ tracks) (suc i) track all at = new_at tracks i track all.1 at

keys_none : (col n : ℕ) → n ≡ 0 → keys_in col (take n []) ≡ []
keys_none col n e = ap (λ (k : ℕ). keys_in col (take k [])) e

new_stands : (rules : Rules) (rule : SpeedRule) (col : ℕ) (track : Track) → IsNew track → IsStanding rules rule col [] [] track
new_stands rules rule col track new = record {
  within = omega (arith, new.next);
  keys_are = new.keys ∙ sym (keys_none col track.next new.next);
  windowed = new.next;
  last_is = new.last;
}

pub keeps_none : (rules : Rules) (header : HeaderView) (engine : Engine) → engine.most ≡ greatest_window rules.speeds → AreTracksOf rules header engine.tracks.items → HaveSeen [] engine.tracks.items → AllByRecursion IsNew engine.tracks.items → engine.held ≡ buffer [] rules.format.hold → engine.written ≡ 0
    → KeepsRows rules header [] engine
keeps_none rules header engine most tracks seen new held_is written =
    let items = ap (λ (h : Buffer RowView). h.items) held_is in
    let limits = rules.format.limits in
    let A : List RowView → Type 0 = λ hs. AreStanding rules header [] hs engine.tracks.items in
    let R : List RowView → Type 0 = λ hs. AreRows rules.format.hold [] hs in
    let W : List RowView → Type 0 = λ hs. AreShown rules header [] hs in
    let few : 0 ≤ MOST_ENDLESS_ROWS = omega arith in
    record {
      before = [];
      joined = sym items;
      held_is = items;
      stands = record {
        tracks = subst A (sym items) (record {
          of_rules = tracks;
          stands = λ col i rule track place at_rule at. new_stands rules rule col track (new_at engine.tracks.items i track new at);
        });
        rows = subst R (sym items) tt;
        written_is = written;
        few = omega (arith, ap length items, few);
      };
      most_is = most;
      room_is = ap (λ (h : Buffer RowView). h.capacity) held_is;
      fall = tt;
      past = λ now all. tt;
      held_fits = omega (arith, ap length items);
      hold_least = limits.hold_least;
      hold_fits = omega (arith, limits.hold_most);
      seen = seen;
      shown = subst W (sym items) (record { ready = tt; small = tt; waiting = tt });
    }
