-- The text of the rows that are written, by the definition.
use Rattle.std.proofs.Common.{◌≡◌, ℕ, ◌||◌, Bool, true, false, cond, ℤ, ◌-ℤ◌, ◌≤ℤ◌, ◌<ℤ◌, List, [], ◌∷◌, ◌++◌, map, reverse, refl, sym, ap, ◌∙◌, subst, arith, append_assoc, append-nil}
use Rattle.std.specs.Prelude.{Option, Some, None, int_lt}
use Rattle.std.specs.Int.{int_max}
use Rattle.std.specs.List.{AllByRecursion, find, list_all, list_any}
use Rattle.std.proofs.lemmas.Int.{ints, int_max_is}
use Rattle.rule_file.specs.declared.rules.Rules.{Rules}
use Rattle.rule_file.specs.declared.rules.SpeedRule.{SpeedRule}
use Rattle.series_rows.specs.Header.{HeaderView, column_of}
use Rattle.series_rows.specs.Row.{RowView}
use Rattle.series_rows.specs.Texts.{row_text_with}
use Rattle.series_rows.specs.declared.cell.RowReading.{RowReading}
use Rattle.order_window.specs.declared.key.Key.{Key}
use Rattle.online_values.specs.Results.{Speed, result}
use Rattle.online_values.specs.Sensor.{speed_of}
use Rattle.std.proofs.lemmas.List.{reverse-reverse}
use Rattle.words.proofs.Lists.{all_reverse, reverse_cons}
use Rattle.online_repair.specs.Accepted.{greatest_window, is_ready}
use Rattle.online_repair.specs.Engines.{AreRows, due_part, rest_part}
use Rattle.online_repair.specs.Output.{is_small, texts}
use Rattle.online_repair.specs.Rows.{is_column, keys_in, reading_in, repaired, repaired_row, rule_in, with_key}
use Rattle.online_repair.specs.Shown.{AreReady, AreShown, AreSmallRows, AreWaiting}
use Rattle.online_repair.specs.Storing.{ArePast, onto, rows_text}
use Rattle.online_repair.specs.Tracks.{RisesFrom}
use Rattle.online_repair.proofs.Accepting.{any_push, joined_by, reverse_onto}
use Rattle.online_repair.proofs.Round.{due_whole}
use Rattle.online_repair.proofs.Stored.{due_past}
use Rattle.online_repair.proofs.Beyond.{IsFar, far_keys, keys_append, result_far, window_within}

-- ---- the texts of rows that are ready, and of those that wait

pub texts_ready : (rules : Rules) (header : HeaderView) (before rows rest : List RowView) → AreReady (greatest_window rules.speeds) rows rest → AreSmallRows rules header before rows rest
    → texts rules header false before (rows ++ rest) ≡ rows_text rules header before rows rest ++ texts rules header false (onto rows before) rest
texts_ready rules header before [] rest ready small = refl
texts_ready rules header before (row ∷ rows) rest ready small =
    let values = repaired_row rules header before row (rows ++ rest) in
    let more = texts rules header false (row ∷ before) (rows ++ rest) in
    let here = row_text_with rules row values in
    ap (λ (b : Bool). cond b (cond (list_all is_small values) (here ++ more) []) more) ready.0
    ∙ ap (λ (b : Bool). cond b (here ++ more) []) small.0
    ∙ ap (λ (bytes : List ℕ). here ++ bytes) (texts_ready rules header (row ∷ before) rows rest ready.1 small.1)
    ∙ sym (append_assoc here (rows_text rules header (row ∷ before) rows rest) (texts rules header false (onto rows (row ∷ before)) rest))

pub texts_waiting : (rules : Rules) (header : HeaderView) (before rows : List RowView) → AreWaiting (greatest_window rules.speeds) rows → texts rules header false before rows ≡ []
texts_waiting rules header before [] waiting = refl
texts_waiting rules header before (row ∷ rows) waiting =
    let values = repaired_row rules header before row rows in
    let more = texts rules header false (row ∷ before) rows in
    ap (λ (b : Bool). cond b (cond (list_all is_small values) (row_text_with rules row values ++ more) []) more) waiting.0
    ∙ texts_waiting rules header (row ∷ before) rows waiting.1

-- ---- a row that lies beyond the windows changes no values

far_by : (speed : Speed) (before : List Key) (own : Key) (later : List Key) (ticks : ℤ) (value : Option ℤ) → ((key : Key) → key.ticks ≡ ticks → IsFar speed key own × AllByRecursion (IsFar speed key) before)
    → result speed before own (later ++ with_key ticks value []) ≡ result speed before own later
far_by speed before own later ticks None far = ap (λ (keys : List Key). result speed before own keys) (append-nil later)
far_by speed before own later ticks (Some value) far =
    let key : Key = record { value = value; ticks = ticks } in
    let both = far key refl in
    result_far speed before own key later both.0 both.1

abbrev key_of : ℤ → ℤ → Key
key_of value ticks = record { value = value; ticks = ticks }

past_key : (most ticks : ℤ) (rows : List RowView) (key : Key) → key.ticks ≡ ticks → ArePast most ticks rows → ArePast most key.ticks rows
past_key most ticks rows key e past =
    let P : ℤ → Type 0 = λ t. ArePast most t rows in
    subst P (sym e) past

not_within : (speed : Speed) (most : ℤ) (key own : Key) → speed.span ≤ℤ most → most <ℤ (key.ticks -ℤ own.ticks) → IsFar speed key own
not_within speed most key own h g = grind (arith, ints)

own_past : (most now ticks other : ℤ) → other ≡ now → most <ℤ (now -ℤ ticks) → most <ℤ (other -ℤ ticks)
own_past most now ticks other e h = omega (arith, ints)

value_far : (rules : Rules) (rule : Option SpeedRule) (before : List RowView) (row : RowView) (later : List RowView) (far : RowView) (reading : RowReading) → ((r : SpeedRule) → rule ≡ Some r → r.window ≤ℤ greatest_window rules.speeds) → ArePast (greatest_window rules.speeds) far.ticks (row ∷ before)
    → repaired rule rules.format.decimals before row (later ++ far ∷ []) reading ≡ repaired rule rules.format.decimals before row later reading
value_far rules None before row later far reading within past = refl
value_far rules (Some rule) before row later far reading within past =
    let most = greatest_window rules.speeds in
    let speed = speed_of rule rules.format.decimals in
    let own = key_of reading.value row.ticks in
    let span = within rule refl in
    ap (λ (keys : List Key). result speed (keys_in reading.col before) own keys) (keys_append reading.col later (far ∷ []))
    ∙ far_by speed (keys_in reading.col before) own (keys_in reading.col later) far.ticks (reading_in reading.col far.readings) (λ key e. (
      not_within speed most key own span (own_past most far.ticks row.ticks key.ticks e past.0),
      far_keys speed most key reading.col before span (past_key most far.ticks before key e past.1),
    ))

no_speed : (a : SpeedRule) → None ≡ Some a → ⊥
no_speed a e = cc

some_speed : (a b : SpeedRule) → Some a ≡ Some b → a ≡ b
some_speed a b e = cc

max_second : (a b : ℤ) → b ≤ℤ int_max a b
max_second a b = omega (arith, ints, int_max_is a b)

tail_within : (first : SpeedRule) (speeds : List SpeedRule) → greatest_window speeds ≤ℤ greatest_window (first ∷ speeds)
tail_within first speeds = max_second first.window (greatest_window speeds)

found_by : (b : Bool) (first : SpeedRule) (others : Option SpeedRule) (rule : SpeedRule) (speeds : List SpeedRule) → ((r : SpeedRule) → others ≡ Some r → r.window ≤ℤ greatest_window (first ∷ speeds)) → first.window ≤ℤ greatest_window (first ∷ speeds) → cond b (Some first) others ≡ Some rule → rule.window ≤ℤ greatest_window (first ∷ speeds)
found_by true first others rule speeds rest here e =
    let W : SpeedRule → Type 0 = λ r. r.window ≤ℤ greatest_window (first ∷ speeds) in
    subst W (some_speed first rule e) here
found_by false first others rule speeds rest here e = rest rule e

le_trans_z : (a b c : ℤ) → a ≤ℤ b → b ≤ℤ c → a ≤ℤ c
le_trans_z a b c g h = omega (arith, ints)

found_within : (test : SpeedRule → Bool) (speeds : List SpeedRule) (rule : SpeedRule) → find test speeds ≡ Some rule → rule.window ≤ℤ greatest_window speeds
found_within test [] rule e = absurd (no_speed rule e)
found_within test (first ∷ speeds) rule e =
    found_by (test first) first (find test speeds) rule speeds
    (λ r at. le_trans_z r.window (greatest_window speeds) (greatest_window (first ∷ speeds)) (found_within test speeds r at) (tail_within first speeds))
    (window_within (first ∷ speeds) 0 first refl) e

pub reading_far : (rules : Rules) (header : HeaderView) (before : List RowView) (row : RowView) (later : List RowView) (far : RowView) (reading : RowReading) → ArePast (greatest_window rules.speeds) far.ticks (row ∷ before)
    → repaired (rule_in rules header reading.col) rules.format.decimals before row (later ++ far ∷ []) reading ≡ repaired (rule_in rules header reading.col) rules.format.decimals before row later reading
reading_far rules header before row later far reading past =
    value_far rules (rule_in rules header reading.col) before row later far reading (λ rule e. found_within (λ (r : SpeedRule). is_column reading.col (column_of header r.sensor)) rules.speeds rule e) past

values_far : (rules : Rules) (header : HeaderView) (before : List RowView) (row : RowView) (later : List RowView) (far : RowView) (readings : List RowReading) → ArePast (greatest_window rules.speeds) far.ticks (row ∷ before)
    → map (λ (reading : RowReading). repaired (rule_in rules header reading.col) rules.format.decimals before row (later ++ far ∷ []) reading) readings ≡ map (λ (reading : RowReading). repaired (rule_in rules header reading.col) rules.format.decimals before row later reading) readings
values_far rules header before row later far [] past = refl
values_far rules header before row later far (reading ∷ readings) past =
    ap (λ (v : ℤ). v ∷ map (λ (other : RowReading). repaired (rule_in rules header other.col) rules.format.decimals before row (later ++ far ∷ []) other) readings)
    (value_far rules (rule_in rules header reading.col) before row later far reading (λ rule e. found_within (λ (r : SpeedRule). is_column reading.col (column_of header r.sensor)) rules.speeds rule e) past)
    ∙ ap (λ (vs : List ℤ). repaired (rule_in rules header reading.col) rules.format.decimals before row later reading ∷ vs) (values_far rules header before row later far readings past)

pub row_far : (rules : Rules) (header : HeaderView) (before : List RowView) (row : RowView) (later : List RowView) (far : RowView) → ArePast (greatest_window rules.speeds) far.ticks (row ∷ before) → repaired_row rules header before row (later ++ far ∷ []) ≡ repaired_row rules header before row later
row_far rules header before row later far past = values_far rules header before row later far row.readings past

pub rows_far : (rules : Rules) (header : HeaderView) (before rows rest : List RowView) (far : RowView) → ArePast (greatest_window rules.speeds) far.ticks before → ArePast (greatest_window rules.speeds) far.ticks rows → rows_text rules header before rows (rest ++ far ∷ []) ≡ rows_text rules header before rows rest
rows_far rules header before [] rest far past all = refl
rows_far rules header before (row ∷ rows) rest far past all =
    ap (λ (later : List RowView). row_text_with rules row (repaired_row rules header before row later) ++ rows_text rules header (row ∷ before) rows (rest ++ far ∷ [])) (sym (append_assoc rows rest (far ∷ [])))
    ∙ ap (λ (values : List ℤ). row_text_with rules row values ++ rows_text rules header (row ∷ before) rows (rest ++ far ∷ [])) (row_far rules header before row (rows ++ rest) far (all.0, past))
    ∙ ap (λ (bytes : List ℕ). row_text_with rules row (repaired_row rules header before row (rows ++ rest)) ++ bytes) (rows_far rules header (row ∷ before) rows rest far (all.0, past) all.1)

pub small_far : (rules : Rules) (header : HeaderView) (before rows rest : List RowView) (far : RowView) → ArePast (greatest_window rules.speeds) far.ticks before → ArePast (greatest_window rules.speeds) far.ticks rows → AreSmallRows rules header before rows rest → AreSmallRows rules header before rows (rest ++ far ∷ [])
small_far rules header before [] rest far past all small = tt
small_far rules header before (row ∷ rows) rest far past all small = (
  ap (λ (later : List RowView). list_all is_small (repaired_row rules header before row later)) (sym (append_assoc rows rest (far ∷ [])))
      ∙ ap (λ (values : List ℤ). list_all is_small values) (row_far rules header before row (rows ++ rest) far (all.0, past))
      ∙ small.0,
  small_far rules header (row ∷ before) rows rest far (all.0, past) all.1 small.1,
)

-- ---- one more row

pub onto_is : (rows before : List RowView) → onto rows before ≡ reverse rows ++ before
onto_is [] before = refl
onto_is (row ∷ rows) before =
    onto_is rows (row ∷ before) ∙ sym (append_assoc (reverse rows) (row ∷ []) before) ∙ ap (λ (rs : List RowView). rs ++ before) (sym (reverse_cons row rows))

pub onto_reverse : (before : List RowView) → onto (reverse before) [] ≡ before
onto_reverse before = onto_is (reverse before) [] ∙ append-nil (reverse (reverse before)) ∙ reverse-reverse before

false_true : false ≡ true → ⊥
false_true e = cc

or_true : (a : Bool) → (a || true) ≡ true
or_true true = refl
or_true false = refl

any_by : (a b c : Bool) → (a || b) ≡ true → (b ≡ true → c ≡ true) → (a || c) ≡ true
any_by true b c e more = refl
any_by false b c e more = more e

pub any_more : (test : RowView → Bool) (rows more : List RowView) → list_any test rows ≡ true → list_any test (rows ++ more) ≡ true
any_more test [] more e = absurd (false_true e)
any_more test (row ∷ rows) more e = any_by (test row) (list_any test rows) (list_any test (rows ++ more)) e (any_more test rows more)

any_last : (test : RowView → Bool) (rows : List RowView) (row : RowView) → test row ≡ true → list_any test (rows ++ row ∷ []) ≡ true
any_last test [] row e = ap (λ (b : Bool). b || false) e
any_last test (other ∷ rows) row e = ap (λ (b : Bool). test other || b) (any_last test rows row e) ∙ or_true (test other)

pub ready_more : (most : ℤ) (rows rest more : List RowView) → AreReady most rows rest → AreReady most rows (rest ++ more)
ready_more most [] rest more ready = tt
ready_more most (row ∷ rows) rest more ready =
    let test : RowView → Bool = λ (other : RowView). int_lt most (other.ticks -ℤ row.ticks) in (
      ap (list_any test) (sym (append_assoc rows rest more)) ∙ any_more test (rows ++ rest) more ready.0,
      ready_more most rows rest more ready.1,
    )

ready_by : (b : Bool) (most : ℤ) (row far : RowView) (due rest : List RowView) → int_lt most (far.ticks -ℤ row.ticks) ≡ b → AreReady most due (rest ++ far ∷ []) → AreReady most (cond b (row ∷ due) []) (rest ++ far ∷ [])
ready_by true most row far due rest e ready =
    let test : RowView → Bool = λ (other : RowView). int_lt most (other.ticks -ℤ row.ticks) in
    (ap (list_any test) (sym (append_assoc due rest (far ∷ []))) ∙ any_last test (due ++ rest) far e, ready)
ready_by false most row far due rest e ready = tt

pub ready_due : (most : ℤ) (items rest : List RowView) (far : RowView) → AreReady most (due_part most far.ticks items) (rest ++ far ∷ [])
ready_due most [] rest far = tt
ready_due most (row ∷ items) rest far = ready_by (int_lt most (far.ticks -ℤ row.ticks)) most row far (due_part most far.ticks items) rest refl (ready_due most items rest far)

pub ready_append : (most : ℤ) (rows due rest : List RowView) → AreReady most rows (due ++ rest) → AreReady most due rest → AreReady most (rows ++ due) rest
ready_append most [] due rest ready more = more
ready_append most (row ∷ rows) due rest ready more = (ap (is_ready most row) (append_assoc rows due rest) ∙ ready.0, ready_append most rows due rest ready.1 more)

pub small_append : (rules : Rules) (header : HeaderView) (before rows due rest : List RowView) → AreSmallRows rules header before rows (due ++ rest) → AreSmallRows rules header (onto rows before) due rest → AreSmallRows rules header before (rows ++ due) rest
small_append rules header before [] due rest small more = more
small_append rules header before (row ∷ rows) due rest small more = (
  ap (λ (later : List RowView). list_all is_small (repaired_row rules header before row later)) (append_assoc rows due rest) ∙ small.0,
  small_append rules header (row ∷ before) rows due rest small.1 more,
)

-- ---- those that wait

wait_by : (b : Bool) (most : ℤ) (row : RowView) (rows rest : List RowView) → AreWaiting most (row ∷ rows) → AreWaiting most rest → AreWaiting most (cond b rest (row ∷ rows))
wait_by true most row rows rest waiting more = more
wait_by false most row rows rest waiting more = waiting

wait_rest : (most now : ℤ) (rows : List RowView) → AreWaiting most rows → AreWaiting most (rest_part most now rows)
wait_rest most now [] waiting = tt
wait_rest most now (row ∷ rows) waiting = wait_by (int_lt most (now -ℤ row.ticks)) most row rows (rest_part most now rows) waiting (wait_rest most now rows waiting.1)

abbrev AreNear : ℤ → ℤ → List RowView → Type 0
AreNear most now rows = AllByRecursion (λ (row : RowView). int_lt most (now -ℤ row.ticks) ≡ false) rows

false_less : (a b : ℤ) → b ≤ℤ a → int_lt a b ≡ false
false_less a b h = grind (arith, ints)

less_false : (a b : ℤ) → int_lt a b ≡ false → b ≤ℤ a
less_false a b e = grind (arith, ints)

nearer : (most now a b : ℤ) → a <ℤ b → (now -ℤ a) ≤ℤ most → (now -ℤ b) ≤ℤ most
nearer most now a b h g = omega (arith, ints)

near_all : (most now ticks : ℤ) (rows : List RowView) → RisesFrom ticks rows → (now -ℤ ticks) ≤ℤ most → AreNear most now rows
near_all most now ticks [] rises near = tt
near_all most now ticks (row ∷ rows) rises near =
    let here = nearer most now ticks row.ticks rises.0 near in
    (false_less most (now -ℤ row.ticks) here, near_all most now row.ticks rows rises.1 here)

near_by : (b : Bool) (most now : ℤ) (row : RowView) (rows rest : List RowView) → int_lt most (now -ℤ row.ticks) ≡ b → RisesFrom row.ticks rows → AreNear most now rest → AreNear most now (cond b rest (row ∷ rows))
near_by true most now row rows rest e rises more = more
near_by false most now row rows rest e rises more = (e, near_all most now row.ticks rows rises (less_false most (now -ℤ row.ticks) e))

near_rest : (most now ticks : ℤ) (rows : List RowView) → RisesFrom ticks rows → AreNear most now (rest_part most now rows)
near_rest most now ticks [] rises = tt
near_rest most now ticks (row ∷ rows) rises = near_by (int_lt most (now -ℤ row.ticks)) most now row rows (rest_part most now rows) refl rises.1 (near_rest most now row.ticks rows rises.1)

near_held : (hold : ℕ) (most now : ℤ) (before items : List RowView) → AreRows hold before items → AreNear most now (rest_part most now items)
near_held hold most now before [] rows = tt
near_held hold most now before (row ∷ items) rows = near_by (int_lt most (now -ℤ row.ticks)) most now row items (rest_part most now items) refl rows.rises (near_rest most now row.ticks items rows.rises)

wait_push : (most : ℤ) (rows : List RowView) (far : RowView) → AreWaiting most rows → AreNear most far.ticks rows → AreWaiting most (rows ++ far ∷ [])
wait_push most [] far waiting near = (refl, tt)
wait_push most (row ∷ rows) far waiting near =
    let test : RowView → Bool = λ (other : RowView). int_lt most (other.ticks -ℤ row.ticks) in (
      any_push test rows far ∙ ap (λ (b : Bool). b || test far) waiting.0 ∙ near.0,
      wait_push most rows far waiting.1 near.1,
    )

-- ---- the text of one row more

shown_next : (rules : Rules) (header : HeaderView) (before items : List RowView) (row : RowView) → AreShown rules header before items → AreRows rules.format.hold before items → ArePast (greatest_window rules.speeds) row.ticks before
    → AreSmallRows rules header before (due_part (greatest_window rules.speeds) row.ticks items) (rest_part (greatest_window rules.speeds) row.ticks items)
    → AreShown rules header (onto (due_part (greatest_window rules.speeds) row.ticks items) before) (rest_part (greatest_window rules.speeds) row.ticks items ++ row ∷ [])
shown_next rules header before items row shown rows past small =
    let most = greatest_window rules.speeds in
    let due = due_part most row.ticks items in
    let rest = rest_part most row.ticks items in
    let front = reverse before in
    let R : List RowView → Type 0 = λ rs. AreReady most front (rs ++ row ∷ []) in
    let S : List RowView → Type 0 = λ rs. AreSmallRows rules header [] front (rs ++ row ∷ []) in
    let Ready : List RowView → Type 0 = λ rs. AreReady most front rs in
    let Smalls : List RowView → Type 0 = λ rs. AreSmallRows rules header [] front rs in
    let A : List RowView → Type 0 = λ rs. AreReady most rs (rest ++ row ∷ []) in
    let B : List RowView → Type 0 = λ rs. AreSmallRows rules header [] rs (rest ++ row ∷ []) in
    let C : List RowView → Type 0 = λ rs. AreSmallRows rules header rs due (rest ++ row ∷ []) in
    let whole = sym (due_whole most row.ticks items) in
    let past_front = all_reverse (λ (other : RowView). most <ℤ (row.ticks -ℤ other.ticks)) before past in
    let ready = subst Ready (append_assoc due rest (row ∷ [])) (subst R whole (ready_more most front items (row ∷ []) shown.ready)) in
    let smalls = subst Smalls (append_assoc due rest (row ∷ [])) (subst S whole (small_far rules header [] front items row tt past_front shown.small)) in
    let more = small_far rules header before due rest row past (due_past most row.ticks items) small in
    record {
      ready = subst A (sym (reverse_onto due before)) (ready_append most front due (rest ++ row ∷ []) ready (ready_due most items rest row));
      small = subst B (sym (reverse_onto due before)) (small_append rules header [] front due (rest ++ row ∷ []) smalls (subst C (sym (onto_reverse before)) more));
      waiting = wait_push most rest row (wait_rest most row.ticks items shown.waiting) (near_held rules.format.hold most row.ticks before items rows);
    }

pub text_shown : (rules : Rules) (header : HeaderView) (before items : List RowView) → AreShown rules header before items → texts rules header false [] (reverse before ++ items) ≡ rows_text rules header [] (reverse before) items
text_shown rules header before items shown =
    texts_ready rules header [] (reverse before) items shown.ready shown.small
    ∙ ap (λ (bytes : List ℕ). rows_text rules header [] (reverse before) items ++ bytes) (texts_waiting rules header (onto (reverse before) []) items shown.waiting)
    ∙ append-nil (rows_text rules header [] (reverse before) items)

pub text_append : (rules : Rules) (header : HeaderView) (before rows due rest : List RowView) → rows_text rules header before (rows ++ due) rest ≡ rows_text rules header before rows (due ++ rest) ++ rows_text rules header (onto rows before) due rest
text_append rules header before [] due rest = refl
text_append rules header before (row ∷ rows) due rest =
    ap (λ (later : List RowView). row_text_with rules row (repaired_row rules header before row later) ++ rows_text rules header (row ∷ before) (rows ++ due) rest) (append_assoc rows due rest)
    ∙ ap (λ (bytes : List ℕ). row_text_with rules row (repaired_row rules header before row (rows ++ (due ++ rest))) ++ bytes) (text_append rules header (row ∷ before) rows due rest)
    ∙ sym (append_assoc (row_text_with rules row (repaired_row rules header before row (rows ++ (due ++ rest)))) (rows_text rules header (row ∷ before) rows (due ++ rest)) (rows_text rules header (onto rows (row ∷ before)) due rest))

-- the text of the rows that are accepted, where one more is, is that of those before and of the rows that it makes ready
pub record IsOneMore (rules : Rules) (header : HeaderView) (before items : List RowView) (row : RowView) : Type 0 where
  pub shown : AreShown rules header (onto (due_part (greatest_window rules.speeds) row.ticks items) before) (rest_part (greatest_window rules.speeds) row.ticks items ++ row ∷ [])
  pub text_is : texts rules header false [] (reverse before ++ items ++ row ∷ []) ≡ texts rules header false [] (reverse before ++ items) ++ rows_text rules header before (due_part (greatest_window rules.speeds) row.ticks items) (rest_part (greatest_window rules.speeds) row.ticks items)

pub one_more : (rules : Rules) (header : HeaderView) (before items : List RowView) (row : RowView) → AreShown rules header before items → AreRows rules.format.hold before items → ArePast (greatest_window rules.speeds) row.ticks before
    → AreSmallRows rules header before (due_part (greatest_window rules.speeds) row.ticks items) (rest_part (greatest_window rules.speeds) row.ticks items) → IsOneMore rules header before items row
one_more rules header before items row shown rows past small =
    let most = greatest_window rules.speeds in
    let due = due_part most row.ticks items in
    let rest = rest_part most row.ticks items in
    let front = reverse before in
    let next = shown_next rules header before items row shown rows past small in
    let whole = sym (due_whole most row.ticks items) in
    let past_front = all_reverse (λ (other : RowView). most <ℤ (row.ticks -ℤ other.ticks)) before past in
    record {
      shown = next;
      text_is = ap (texts rules header false []) (joined_by front items due rest row (due_whole most row.ticks items) ∙ ap (λ (rs : List RowView). rs ++ (rest ++ row ∷ [])) (sym (reverse_onto due before)))
          ∙ text_shown rules header (onto due before) (rest ++ row ∷ []) next
          ∙ ap (λ (rs : List RowView). rows_text rules header [] rs (rest ++ row ∷ [])) (reverse_onto due before)
          ∙ text_append rules header [] front due (rest ++ row ∷ [])
          ∙ ap (λ (rs : List RowView). rows_text rules header [] front (due ++ (rest ++ row ∷ [])) ++ rows_text rules header rs due (rest ++ row ∷ [])) (onto_reverse before)
          ∙ ap (λ (bytes : List ℕ). rows_text rules header [] front (due ++ (rest ++ row ∷ [])) ++ bytes) (rows_far rules header before due rest row past (due_past most row.ticks items))
          ∙ ap (λ (rs : List RowView). rows_text rules header [] front rs ++ rows_text rules header before due rest) (sym (append_assoc due rest (row ∷ [])) ∙ ap (λ (rs : List RowView). rs ++ row ∷ []) (sym whole))
          ∙ ap (λ (bytes : List ℕ). bytes ++ rows_text rules header before due rest) (rows_far rules header [] front items row tt past_front ∙ sym (text_shown rules header before items shown));
    }
