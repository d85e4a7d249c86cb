-- A row is accepted.
use Rattle.std.proofs.Common.{◌≡◌, ℕ, suc, ◌+◌, ◌||◌, Bool, true, false, cond, ℤ, ◌-ℤ◌, ◌≤ℤ◌, ◌<ℤ◌, List, [], ◌∷◌, ◌++◌, length, reverse, refl, sym, ap, ◌∙◌, subst, arith, append_assoc, append-nil, length-append}
use Rattle.std.specs.Prelude.{Option, Some, None, Result, Err, int_lt, option_map}
use Rattle.std.specs.List.{find, list_any}
use Rattle.std.proofs.lemmas.List.{length-reverse}
use Rattle.std.proofs.lemmas.Int.{ints}
use Rattle.words.proofs.Lists.{all_reverse, all_of_append, reverse_cons}
use Rattle.rule_file.specs.declared.rules.Rules.{Rules}
use Rattle.series_rows.specs.Header.{HeaderView}
use Rattle.series_rows.specs.Row.{RowView}
use Rattle.series_rows.specs.declared.cell.RowReading.{RowReading}
use Rattle.order_window.specs.declared.key.Key.{Key}
use Rattle.online_repair.specs.Accepted.{greatest_window, held, is_full, is_ready, refusal, without_step}
use Rattle.online_repair.specs.Engines.{AreRows, Stands, due_part, is_full_at, rest_part}
use Rattle.online_repair.specs.Keeping.{Accepts, AcceptsBy, AreBefore, IsNext, KeepsRows}
use Rattle.online_repair.specs.Rows.{keys_in, reading_in, with_key}
use Rattle.online_repair.specs.Sensors.{HaveSeen, IsTimeBefore, WereSeenBefore, lacks_step_at, latest, place_in}
use Rattle.online_repair.specs.Standing.{AreStanding}
use Rattle.online_repair.specs.Storing.{ArePast, MayStore, onto}
use Rattle.online_repair.specs.Tracks.{RisesFrom}
use Rattle.online_repair.specs.declared.engine.Engine.{Engine}
use Rattle.online_repair.specs.declared.fault.OnlineFault.{OnlineFault}
use Rattle.online_repair.specs.declared.fault.OnlineFault.TheVariants.{WindowFull, NoWholeStep}
use Rattle.online_repair.specs.declared.track.Track.{Track}
use Rattle.online_repair.proofs.Steps.{without_is}

-- ---- what was seen is earlier

before_by : (now ticks : ℤ) (value : Option ℤ) (keys : List Key) → ticks <ℤ now → IsTimeBefore now (latest keys) → IsTimeBefore now (latest (with_key ticks value keys))
before_by now ticks None keys h before = before
before_by now ticks (Some value) keys h before = h

latest_before : (now : ℤ) (col : ℕ) (rows : List RowView) → AreBefore now rows → IsTimeBefore now (latest (keys_in col rows))
latest_before now col [] all = tt
latest_before now col (row ∷ rows) all = before_by now row.ticks (reading_in col row.readings) (keys_in col rows) all.0 (latest_before now col rows all.1)

pub seen_before : (now : ℤ) (accepted : List RowView) (tracks : List Track) → HaveSeen (reverse accepted) tracks → AreBefore now accepted → WereSeenBefore now tracks
seen_before now accepted tracks seen all col i track place at =
    let B : Option ℤ → Type 0 = λ o. IsTimeBefore now o in
    subst B (sym (seen col i track place at)) (latest_before now col (reverse accepted) (all_reverse (λ (row : RowView). row.ticks <ℤ now) accepted all))

-- ---- the refusal

full_same : (hold : ℕ) (most : ℤ) (items : List RowView) (row : RowView) → is_full_at hold most items row.ticks ≡ is_full hold most items row
full_same hold most [] row = refl
full_same hold most (oldest ∷ items) row = refl

pub full_is : (rules : Rules) (header : HeaderView) (accepted : List RowView) (engine : Engine) (row : RowView) → KeepsRows rules header accepted engine → is_full_at engine.held.capacity engine.most engine.held.items row.ticks ≡ is_full rules.format.hold (greatest_window rules.speeds) (held (greatest_window rules.speeds) accepted) row
full_is rules header accepted engine row keeps =
    ap (λ (hold : ℕ). is_full_at hold engine.most engine.held.items row.ticks) keeps.room_is
    ∙ ap (λ (items : List RowView). is_full_at rules.format.hold engine.most items row.ticks) keeps.held_is
    ∙ ap (λ (most : ℤ). is_full_at rules.format.hold most (held most accepted) row.ticks) keeps.most_is
    ∙ full_same rules.format.hold (greatest_window rules.speeds) (held (greatest_window rules.speeds) accepted) row

pub refused_full : (rules : Rules) (header : HeaderView) (accepted : List RowView) (engine : Engine) (row : RowView) → KeepsRows rules header accepted engine → is_full_at engine.held.capacity engine.most engine.held.items row.ticks ≡ true → refusal rules header accepted row ≡ Some (WindowFull (suc (length accepted)))
refused_full rules header accepted engine row keeps full =
    let number = suc (length accepted) in
    ap (λ (b : Bool). cond b (Some (WindowFull number)) (option_map (λ (reading : RowReading). NoWholeStep number reading.col) (without_step rules header accepted row))) (sym (full_is rules header accepted engine row keeps) ∙ full)

not_refused_full : (rules : Rules) (header : HeaderView) (accepted : List RowView) (engine : Engine) (row : RowView) → KeepsRows rules header accepted engine → is_full_at engine.held.capacity engine.most engine.held.items row.ticks ≡ false → refusal rules header accepted row ≡ option_map (λ (reading : RowReading). NoWholeStep (suc (length accepted)) reading.col) (without_step rules header accepted row)
not_refused_full rules header accepted engine row keeps full =
    let number = suc (length accepted) in
    ap (λ (b : Bool). cond b (Some (WindowFull number)) (option_map (λ (reading : RowReading). NoWholeStep number reading.col) (without_step rules header accepted row))) (sym (full_is rules header accepted engine row keeps) ∙ full)

some_none_col : (a : ℕ) → Some a ≡ None → ⊥
some_none_col a e = cc

same_col : (a b : ℕ) → Some a ≡ Some b → a ≡ b
same_col a b e = cc

col_some : (number col : ℕ) (o : Option RowReading) → Some col ≡ option_map (λ (reading : RowReading). reading.col) o → option_map (λ (reading : RowReading). NoWholeStep number reading.col) o ≡ Some (NoWholeStep number col)
col_some number col None e = absurd (some_none_col col e)
col_some number col (Some reading) e = ap (λ (c : ℕ). Some (NoWholeStep number c)) (sym (same_col col reading.col e))

col_none : (number : ℕ) (o : Option RowReading) → None ≡ option_map (λ (reading : RowReading). reading.col) o → option_map (λ (reading : RowReading). NoWholeStep number reading.col) o ≡ None
col_none number None e = refl
col_none number (Some reading) e = absurd (some_none_col reading.col (sym e))

step_is : (rules : Rules) (header : HeaderView) (accepted : List RowView) (engine : Engine) (row : RowView) (answer : Option ℕ) → KeepsRows rules header accepted engine → answer ≡ option_map (λ (reading : RowReading). reading.col) (find (λ (reading : RowReading). lacks_step_at (place_in reading.col engine.tracks.items) engine.tracks.items row.ticks) row.readings)
    → answer ≡ option_map (λ (reading : RowReading). reading.col) (without_step rules header accepted row)
step_is rules header accepted engine row answer keeps e =
    e ∙ ap (λ (o : Option RowReading). option_map (λ (reading : RowReading). reading.col) o) (without_is rules header accepted row engine.tracks.items keeps.stands.tracks.of_rules keeps.seen)

pub refused_step : (rules : Rules) (header : HeaderView) (accepted : List RowView) (engine : Engine) (row : RowView) (col : ℕ) → KeepsRows rules header accepted engine → is_full_at engine.held.capacity engine.most engine.held.items row.ticks ≡ false
    → Some col ≡ option_map (λ (reading : RowReading). reading.col) (find (λ (reading : RowReading). lacks_step_at (place_in reading.col engine.tracks.items) engine.tracks.items row.ticks) row.readings)
    → refusal rules header accepted row ≡ Some (NoWholeStep (suc (length accepted)) col)
refused_step rules header accepted engine row col keeps full e =
    not_refused_full rules header accepted engine row keeps full
    ∙ col_some (suc (length accepted)) col (without_step rules header accepted row) (step_is rules header accepted engine row (Some col) keeps e)

pub not_refused : (rules : Rules) (header : HeaderView) (accepted : List RowView) (engine : Engine) (row : RowView) → KeepsRows rules header accepted engine → is_full_at engine.held.capacity engine.most engine.held.items row.ticks ≡ false
    → None ≡ option_map (λ (reading : RowReading). reading.col) (find (λ (reading : RowReading). lacks_step_at (place_in reading.col engine.tracks.items) engine.tracks.items row.ticks) row.readings)
    → refusal rules header accepted row ≡ None
not_refused rules header accepted engine row keeps full e =
    not_refused_full rules header accepted engine row keeps full
    ∙ col_none (suc (length accepted)) (without_step rules header accepted row) (step_is rules header accepted engine row None keeps e)

pub length_kept : (rules : Rules) (header : HeaderView) (accepted : List RowView) (engine : Engine) → KeepsRows rules header accepted engine → length accepted ≡ engine.written + length engine.held.items
length_kept rules header accepted engine keeps =
    omega (arith, ap length keeps.joined, length-append (reverse keeps.before) engine.held.items, length-reverse keeps.before, keeps.stands.written_is)

-- ---- those that are held, by the definition

abbrev pub keep : ℤ → ℤ → List RowView → List RowView
keep most now [] = []
keep most now (row ∷ rows) = cond (int_lt most (now -ℤ row.ticks)) (keep most now rows) (row ∷ keep most now rows)

or_assoc : (a b c : Bool) → (a || (b || c)) ≡ ((a || b) || c)
or_assoc true b c = refl
or_assoc false b c = refl

or_false : (a : Bool) → (a || false) ≡ a
or_false true = refl
or_false false = refl

pub any_push : (test : RowView → Bool) (rows : List RowView) (row : RowView) → list_any test (rows ++ row ∷ []) ≡ (list_any test rows || test row)
any_push test [] row = or_false (test row)
any_push test (other ∷ rows) row = ap (λ (b : Bool). test other || b) (any_push test rows row) ∙ or_assoc (test other) (list_any test rows) (test row)

held_by : (a b : Bool) (most now : ℤ) (first row : RowView) (rows all : List RowView) → int_lt most (now -ℤ first.ticks) ≡ b → all ≡ keep most now rows ++ row ∷ [] → cond (a || b) all (first ∷ all) ≡ keep most now (cond a rows (first ∷ rows)) ++ row ∷ []
held_by true b most now first row rows all e h = h
held_by false true most now first row rows all e h =
    h ∙ sym (ap (λ (c : Bool). cond c (keep most now rows) (first ∷ keep most now rows) ++ row ∷ []) e)
held_by false false most now first row rows all e h =
    ap (λ (rs : List RowView). first ∷ rs) h ∙ sym (ap (λ (c : Bool). cond c (keep most now rows) (first ∷ keep most now rows) ++ row ∷ []) e)

pub held_push : (most : ℤ) (rows : List RowView) (row : RowView) → held most (rows ++ row ∷ []) ≡ keep most row.ticks (held most rows) ++ row ∷ []
held_push most [] row = refl
held_push most (first ∷ rows) row =
    let all = held most (rows ++ row ∷ []) in
    ap (λ (b : Bool). cond b all (first ∷ all)) (any_push (λ (other : RowView). int_lt most (other.ticks -ℤ first.ticks)) rows row)
    ∙ held_by (is_ready most first rows) (int_lt most (row.ticks -ℤ first.ticks)) most row.ticks first row (held most rows) all refl (held_push most rows row)

less_false : (a b : ℤ) → int_lt a b ≡ false → b ≤ℤ a
less_false a b e = grind (arith, ints)

false_less : (a b : ℤ) → b ≤ℤ a → int_lt a b ≡ false
false_less a b h = grind (arith, ints)

nearer : (most now a b : ℤ) → a <ℤ b → (now -ℤ a) ≤ℤ most → (now -ℤ b) ≤ℤ most
nearer most now a b h g = omega (arith, ints)

keep_all : (most now ticks : ℤ) (rows : List RowView) → RisesFrom ticks rows → (now -ℤ ticks) ≤ℤ most → keep most now rows ≡ rows
keep_all most now ticks [] rises near = refl
keep_all most now ticks (row ∷ rows) rises near =
    let here = nearer most now ticks row.ticks rises.0 near in
    ap (λ (b : Bool). cond b (keep most now rows) (row ∷ keep most now rows)) (false_less most (now -ℤ row.ticks) here)
    ∙ ap (λ (rs : List RowView). row ∷ rs) (keep_all most now row.ticks rows rises.1 here)

keep_by : (b : Bool) (most now : ℤ) (row : RowView) (rows : List RowView) → int_lt most (now -ℤ row.ticks) ≡ b → RisesFrom row.ticks rows → keep most now rows ≡ rest_part most now rows → cond b (keep most now rows) (row ∷ keep most now rows) ≡ cond b (rest_part most now rows) (row ∷ rows)
keep_by true most now row rows e rises same = same
keep_by false most now row rows e rises same = ap (λ (rs : List RowView). row ∷ rs) (keep_all most now row.ticks rows rises (less_false most (now -ℤ row.ticks) e))

keep_rest : (most now ticks : ℤ) (rows : List RowView) → RisesFrom ticks rows → keep most now rows ≡ rest_part most now rows
keep_rest most now ticks [] rises = refl
keep_rest most now ticks (row ∷ rows) rises = keep_by (int_lt most (now -ℤ row.ticks)) most now row rows refl rises.1 (keep_rest most now row.ticks rows rises.1)

pub keep_held : (hold : ℕ) (most now : ℤ) (before items : List RowView) → AreRows hold before items → keep most now items ≡ rest_part most now items
keep_held hold most now before [] rows = refl
keep_held hold most now before (row ∷ items) rows = keep_by (int_lt most (now -ℤ row.ticks)) most now row items refl rows.rises (keep_rest most now row.ticks items rows.rises)

-- ---- the row may be held

-- an engine is like another one
pub record IsLikeEngine (old new : Engine) : Type 0 where
  pub tracks : new.tracks.items ≡ old.tracks.items
  pub most : new.most ≡ old.most
  pub items : new.held.items ≡ old.held.items
  pub capacity : new.held.capacity ≡ old.held.capacity
  pub written : new.written ≡ old.written

same_stands : (rules : Rules) (header : HeaderView) (before : List RowView) (old new : Engine) → IsLikeEngine old new → Stands rules header before old → Stands rules header before new
same_stands rules header before old new same stands =
    let A : List RowView → Type 0 = λ hs. AreStanding rules header before hs new.tracks.items in
    let T : List Track → Type 0 = λ ts. AreStanding rules header before old.held.items ts in
    let R : List RowView → Type 0 = λ hs. AreRows rules.format.hold before hs in
    record {
      tracks = subst A (sym same.items) (subst T (sym same.tracks) stands.tracks);
      rows = subst R (sym same.items) stands.rows;
      written_is = same.written ∙ stands.written_is;
      few = omega (arith, stands.few, ap length same.items);
    }

pub may_store : (rules : Rules) (header : HeaderView) (accepted : List RowView) (row : RowView) (engine same : Engine) → (keeps : KeepsRows rules header accepted engine) → IsNext accepted row → is_full_at engine.held.capacity engine.most engine.held.items row.ticks ≡ false
    → IsLikeEngine engine same → MayStore rules header keeps.before row same
may_store rules header accepted row engine same keeps next full like =
    let J : List RowView → Type 0 = λ rows. AreBefore row.ticks rows in
    let P : ℤ → Type 0 = λ m. ArePast m row.ticks keeps.before in
    record {
      stands = same_stands rules header keeps.before engine same like keeps.stands;
      most_is = like.most ∙ keeps.most_is;
      room_is = like.capacity ∙ keeps.room_is;
      fall = keeps.fall;
      past = subst P (sym like.most) (keeps.past row.ticks next.later);
      later = subst J (sym like.items) (all_of_append (λ (other : RowView). other.ticks <ℤ row.ticks) (reverse keeps.before) engine.held.items (subst J keeps.joined next.later)).1;
      sound = next.sound;
      few = omega (arith, next.few, length_kept rules header accepted engine keeps, keeps.stands.written_is, ap length like.items);
      hold_least = keeps.hold_least;
      hold_fits = keeps.hold_fits;
      held_fits = omega (arith, keeps.held_fits, ap length like.items);
      not_full = ap (λ (most : ℤ). is_full_at rules.format.hold most same.held.items row.ticks) like.most
          ∙ ap (λ (items : List RowView). is_full_at rules.format.hold engine.most items row.ticks) like.items
          ∙ ap (λ (hold : ℕ). is_full_at hold engine.most engine.held.items row.ticks) (sym keeps.room_is)
          ∙ full;
    }

-- ---- it is accepted

pub reverse_onto : (due before : List RowView) → reverse (onto due before) ≡ reverse before ++ due
reverse_onto [] before = sym (append-nil (reverse before))
reverse_onto (row ∷ due) before =
    reverse_onto due (row ∷ before) ∙ ap (λ (rs : List RowView). rs ++ due) (reverse_cons row before) ∙ append_assoc (reverse before) (row ∷ []) due

pub joined_by : (front items due rest : List RowView) (row : RowView) → due ++ rest ≡ items → (front ++ items) ++ row ∷ [] ≡ (front ++ due) ++ (rest ++ row ∷ [])
joined_by front items due rest row e =
    ap (λ (rs : List RowView). (front ++ rs) ++ row ∷ []) (sym e)
    ∙ ap (λ (rs : List RowView). rs ++ row ∷ []) (sym (append_assoc front due rest))
    ∙ append_assoc (front ++ due) rest (row ∷ [])

-- ---- the answers

pub full_refused : (rules : Rules) (header : HeaderView) (accepted : List RowView) (row : RowView) (engine new : Engine) (text : List ℕ) (number : ℕ) → (keeps : KeepsRows rules header accepted engine) → is_full_at engine.held.capacity engine.most engine.held.items row.ticks ≡ true
    → number ≡ suc (length accepted) → Accepts rules header accepted row (Err (WindowFull number)) engine keeps new text text
full_refused rules header accepted row engine new text number keeps full e =
    let A : Option OnlineFault → Type 0 = λ o. AcceptsBy o rules header accepted keeps.before (due_part engine.most row.ticks engine.held.items) (rest_part engine.most row.ticks engine.held.items) row (Err (WindowFull number)) new text text in
    let same : ◌≡◌ {A = Result (Unit {0}) OnlineFault} (Err (WindowFull number)) (Err (WindowFull (suc (length accepted)))) = ap (λ (n : ℕ). Err (WindowFull n)) e in
    subst A (sym (refused_full rules header accepted engine row keeps full)) (same, refl)

pub step_refused : (rules : Rules) (header : HeaderView) (accepted : List RowView) (row : RowView) (engine new : Engine) (text : List ℕ) (number col : ℕ) → (keeps : KeepsRows rules header accepted engine) → is_full_at engine.held.capacity engine.most engine.held.items row.ticks ≡ false
    → Some col ≡ option_map (λ (reading : RowReading). reading.col) (find (λ (reading : RowReading). lacks_step_at (place_in reading.col engine.tracks.items) engine.tracks.items row.ticks) row.readings)
    → number ≡ suc (length accepted) → Accepts rules header accepted row (Err (NoWholeStep number col)) engine keeps new text text
step_refused rules header accepted row engine new text number col keeps full lacks e =
    let A : Option OnlineFault → Type 0 = λ o. AcceptsBy o rules header accepted keeps.before (due_part engine.most row.ticks engine.held.items) (rest_part engine.most row.ticks engine.held.items) row (Err (NoWholeStep number col)) new text text in
    let same : ◌≡◌ {A = Result (Unit {0}) OnlineFault} (Err (NoWholeStep number col)) (Err (NoWholeStep (suc (length accepted)) col)) = ap (λ (n : ℕ). Err (NoWholeStep n col)) e in
    subst A (sym (refused_step rules header accepted engine row col keeps full lacks)) (same, refl)
