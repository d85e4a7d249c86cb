-- What is kept after a row was accepted.
use Rattle.std.proofs.Common.{◌≡◌, ℕ, false, ℤ, ◌-ℤ◌, ◌<ℤ◌, List, [], ◌∷◌, ◌++◌, length, reverse, sym, ap, ◌∙◌, subst, arith, length-append}
use Rattle.std.specs.Prelude.{Option, None, Result, Ok, Err, option_map}
use Rattle.std.specs.List.{find}
use Rattle.std.proofs.lemmas.List.{reverse-append}
use Rattle.std.proofs.lemmas.Int.{ints}
use Rattle.words.proofs.Lists.{all_weaker, all_of_append}
use Rattle.rule_file.specs.declared.rules.Rules.{Rules}
use Rattle.series_rows.specs.Header.{HeaderView}
use Rattle.series_rows.specs.Row.{RowView}
use Rattle.series_rows.specs.declared.cell.RowReading.{RowReading}
use Rattle.online_repair.specs.Accepted.{held}
use Rattle.online_repair.specs.Engines.{due_part, is_full_at, rest_part}
use Rattle.online_repair.specs.Keeping.{Accepts, AcceptsBy, Holds, IsNext, KeepsRows}
use Rattle.online_repair.specs.Sensors.{HaveSeen, lacks_step_at, place_in}
use Rattle.online_repair.specs.Storing.{ArePast, IsStored, StoresOf, onto}
use Rattle.online_repair.specs.declared.engine.Engine.{Engine}
use Rattle.online_repair.specs.declared.fault.OnlineFault.{OnlineFault}
use Rattle.online_repair.specs.declared.track.Track.{Track}
use Rattle.online_repair.proofs.Round.{due_whole}
use Rattle.online_repair.proofs.Stored.{due_fall, due_past, past_onto, rest_room}
use Rattle.online_repair.specs.Output.{texts}
use Rattle.online_repair.specs.Shown.{AreShown, AreSmallRows}
use Rattle.online_repair.specs.Storing.{rows_text}
use Rattle.online_repair.proofs.Accepting.{IsLikeEngine, joined_by, keep, keep_held, held_push, not_refused, reverse_onto}
use Rattle.online_repair.proofs.Stopped.{stops}
use Rattle.online_repair.proofs.Texts.{one_more}

later_past : (most a b ticks : ℤ) → a <ℤ b → most <ℤ (a -ℤ ticks) → most <ℤ (b -ℤ ticks)
later_past most a b ticks h g = omega (arith, ints)

-- one row more, by the engine's greatest window
record IsMore (rules : Rules) (header : HeaderView) (before items : List RowView) (row : RowView) (most : ℤ) : Type 0 where
  shown : AreShown rules header (onto (due_part most row.ticks items) before) (rest_part most row.ticks items ++ row ∷ [])
  text_is : texts rules header false [] (reverse before ++ items ++ row ∷ []) ≡ texts rules header false [] (reverse before ++ items) ++ rows_text rules header before (due_part most row.ticks items) (rest_part most row.ticks items)

row_more : (rules : Rules) (header : HeaderView) (accepted : List RowView) (row : RowView) (engine : Engine) → (keeps : KeepsRows rules header accepted engine) → IsNext accepted row → AreSmallRows rules header keeps.before (due_part engine.most row.ticks engine.held.items) (rest_part engine.most row.ticks engine.held.items)
    → IsMore rules header keeps.before engine.held.items row engine.most
row_more rules header accepted row engine keeps next small =
    let items = engine.held.items in
    let P : ℤ → Type 0 = λ m. ArePast m row.ticks keeps.before in
    let S : ℤ → Type 0 = λ m. AreSmallRows rules header keeps.before (due_part m row.ticks items) (rest_part m row.ticks items) in
    let M : ℤ → Type 0 = λ m. IsMore rules header keeps.before items row m in
    let more = one_more rules header keeps.before items row keeps.shown keeps.stands.rows (subst P keeps.most_is (keeps.past row.ticks next.later)) (subst S keeps.most_is small) in
    subst M (sym keeps.most_is) (record { shown = more.shown; text_is = more.text_is })

pub keeps_next : (rules : Rules) (header : HeaderView) (accepted : List RowView) (row : RowView) (engine same new : Engine) (text now : List ℕ) → (keeps : KeepsRows rules header accepted engine) → IsNext accepted row → is_full_at engine.held.capacity engine.most engine.held.items row.ticks ≡ false
    → IsLikeEngine engine same → IsStored rules header keeps.before (due_part engine.most row.ticks engine.held.items) (rest_part engine.most row.ticks engine.held.items) row same new text now → KeepsRows rules header (accepted ++ row ∷ []) new
keeps_next rules header accepted row engine same new text now keeps next full like stored =
    let most = engine.most in
    let items = engine.held.items in
    let due = due_part most row.ticks items in
    let rest = rest_part most row.ticks items in
    let most_same = stored.same.most ∙ like.most in
    let not_full = ap (λ (hold : ℕ). is_full_at hold most items row.ticks) (sym keeps.room_is) ∙ full in
    let past_here = past_onto most row.ticks due keeps.before (due_past most row.ticks items) (keeps.past row.ticks next.later) in
    let small = stored.small in
    let V : List RowView → Type 0 = λ hs. AreShown rules header (onto due keeps.before) hs in
    let H : List Track → Type 0 = λ ts. HaveSeen (reverse accepted) ts in
    let N : List RowView → Type 0 = λ rows. HaveSeen rows new.tracks.items in
    record {
      before = onto due keeps.before;
      joined = ap (λ (rs : List RowView). rs ++ row ∷ []) keeps.joined
          ∙ joined_by (reverse keeps.before) items due rest row (due_whole most row.ticks items)
          ∙ ap (λ (rs : List RowView). rs ++ (rest ++ row ∷ [])) (sym (reverse_onto due keeps.before))
          ∙ ap (λ (rs : List RowView). reverse (onto due keeps.before) ++ rs) (sym stored.held);
      held_is = stored.held
          ∙ ap (λ (rs : List RowView). rs ++ row ∷ []) (sym (keep_held rules.format.hold most row.ticks keeps.before items keeps.stands.rows))
          ∙ ap (λ (rs : List RowView). keep most row.ticks rs ++ row ∷ []) keeps.held_is
          ∙ sym (held_push most accepted row)
          ∙ ap (λ (m : ℤ). held m (accepted ++ row ∷ [])) (sym most_same);
      stands = stored.stands;
      most_is = most_same ∙ keeps.most_is;
      room_is = stored.same.capacity ∙ like.capacity ∙ keeps.room_is;
      fall = due_fall rules.format.hold most row.ticks keeps.before items keeps.stands.rows keeps.fall;
      past = λ time all.
          let later = (all_of_append (λ (other : RowView). other.ticks <ℤ time) accepted (row ∷ []) all).1.0 in
          let P : ℤ → Type 0 = λ m. ArePast m time (onto due keeps.before) in
          subst P (sym most_same) (all_weaker (λ (other : RowView). most <ℤ (row.ticks -ℤ other.ticks)) (λ (other : RowView). most <ℤ (time -ℤ other.ticks)) (λ other h. later_past most row.ticks time other.ticks later h) (onto due keeps.before) past_here);
      held_fits = omega (arith, ap length stored.held, length-append rest (row ∷ []), rest_room rules.format.hold most row.ticks items keeps.hold_least keeps.held_fits not_full);
      hold_least = keeps.hold_least;
      hold_fits = keeps.hold_fits;
      shown = subst V (sym stored.held) (row_more rules header accepted row engine keeps next small).shown;
      seen = subst N (sym (reverse-append accepted (row ∷ []))) (stored.seen (reverse accepted) (subst H (sym like.tracks) keeps.seen));
    }

pub holds_by : (rules : Rules) (header : HeaderView) (accepted : List RowView) (row : RowView) (engine same new : Engine) (text now : List ℕ) (result : Result (Unit {0}) OnlineFault) → (keeps : KeepsRows rules header accepted engine) → IsNext accepted row → is_full_at engine.held.capacity engine.most engine.held.items row.ticks ≡ false
    → IsLikeEngine engine same → StoresOf rules header keeps.before (due_part engine.most row.ticks engine.held.items) (rest_part engine.most row.ticks engine.held.items) row result same new text now
    → Holds rules header accepted keeps.before (due_part engine.most row.ticks engine.held.items) (rest_part engine.most row.ticks engine.held.items) row result new text now
holds_by rules header accepted row engine same new text now (Ok done) keeps next full like stores =
    let J : List RowView → Type 0 = λ rs. texts rules header false [] (rs ++ row ∷ []) ≡ texts rules header false [] rs ++ rows_text rules header keeps.before (due_part engine.most row.ticks engine.held.items) (rest_part engine.most row.ticks engine.held.items) in (
      keeps_next rules header accepted row engine same new text now keeps next full like stores,
      record {
        texts_are = subst J (sym keeps.joined) (row_more rules header accepted row engine keeps next stores.small).text_is;
        text_is = stores.text_is;
      },
    )
holds_by rules header accepted row engine same new text now (Err fault) keeps next full like stores = stops rules header accepted row engine stores.0 stores.1 fault text now keeps next stores.2

pub row_accepted : (rules : Rules) (header : HeaderView) (accepted : List RowView) (row : RowView) (engine same new : Engine) (text now : List ℕ) (result : Result (Unit {0}) OnlineFault) → (keeps : KeepsRows rules header accepted engine) → IsNext accepted row → is_full_at engine.held.capacity engine.most engine.held.items row.ticks ≡ false
    → None ≡ option_map (λ (reading : RowReading). reading.col) (find (λ (reading : RowReading). lacks_step_at (place_in reading.col engine.tracks.items) engine.tracks.items row.ticks) row.readings)
    → IsLikeEngine engine same → StoresOf rules header keeps.before (due_part engine.most row.ticks engine.held.items) (rest_part engine.most row.ticks engine.held.items) row result same new text now
    → Accepts rules header accepted row result engine keeps new text now
row_accepted rules header accepted row engine same new text now result keeps next full none like stores =
    let A : Option OnlineFault → Type 0 = λ o. AcceptsBy o rules header accepted keeps.before (due_part engine.most row.ticks engine.held.items) (rest_part engine.most row.ticks engine.held.items) row result new text now in
    subst A (sym (not_refused rules header accepted engine row keeps full none)) (holds_by rules header accepted row engine same new text now result keeps next full like stores)
