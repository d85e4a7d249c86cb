-- The text of rows that rise in time, and the refusal of a value, where more rows follow.
use Rattle.std.proofs.Common.{◌≡◌, ℕ, suc, ◌||◌, not, Bool, true, false, cond, ℤ, ◌-ℤ◌, ◌<ℤ◌, List, [], ◌∷◌, ◌++◌, map, refl, sym, ap, ◌∙◌, subst, arith, append_assoc, append-nil}
use Rattle.std.specs.Prelude.{Option, Some, None, int_lt, option_map}
use Rattle.std.specs.List.{AllByRecursion, list_all}
use Rattle.std.specs.Option.{option_or}
use Rattle.std.proofs.lemmas.Int.{ints}
use Rattle.rule_file.specs.declared.rules.Rules.{Rules}
use Rattle.series_rows.specs.Header.{HeaderView}
use Rattle.series_rows.specs.Row.{RowView}
use Rattle.series_rows.specs.Texts.{row_text_with}
use Rattle.series_rows.specs.declared.cell.RowReading.{RowReading}
use Rattle.online_values.proofs.Steps.{true_less}
use Rattle.online_repair.specs.Accepted.{greatest_window, is_ready}
use Rattle.online_repair.specs.Output.{is_small, leaving, texts, too_large}
use Rattle.online_repair.specs.Rows.{repaired, repaired_row, rule_in}
use Rattle.online_repair.specs.Shown.{AreWaiting}
use Rattle.online_repair.specs.Standing.{FallsFrom}
use Rattle.online_repair.specs.Storing.{ArePast}
use Rattle.online_repair.specs.Tracks.{RisesFrom}
use Rattle.online_repair.specs.declared.fault.OnlineFault.{OnlineFault}
use Rattle.online_repair.specs.declared.fault.OnlineFault.TheVariants.{LeavesRange}
use Rattle.online_repair.proofs.Outputs.{leaving_waiting}
use Rattle.online_repair.proofs.Steps.{find_alike}
use Rattle.online_repair.proofs.Stopped.{not_all}
use Rattle.online_repair.proofs.Texts.{any_more, reading_far, texts_waiting}

-- a text is the beginning of a longer one
pub record Begins (short longer : List ℕ) : Type 0 where
  pub rest : List ℕ
  pub is : longer ≡ short ++ rest

-- rows in order of time, after others, which stand latest first
abbrev pub Placed : List RowView → List RowView → Type 0
Placed before [] = Unit {0}
Placed before (row ∷ rows) = FallsFrom row.ticks before × RisesFrom row.ticks rows

false_true : false ≡ true → ⊥
false_true e = cc

-- ---- rows in order of time

pub placed_next : (before : List RowView) (row : RowView) (rows : List RowView) → Placed before (row ∷ rows) → Placed (row ∷ before) rows
placed_next before row [] placed = tt
placed_next before row (next ∷ rows) placed = ((placed.1.0, placed.0), placed.1.1)

rises_front : (ticks : ℤ) (rows more : List RowView) → RisesFrom ticks (rows ++ more) → RisesFrom ticks rows
rises_front ticks [] more rises = tt
rises_front ticks (row ∷ rows) more rises = (rises.0, rises_front row.ticks rows more rises.1)

pub placed_front : (before rows more : List RowView) → Placed before (rows ++ more) → Placed before rows
placed_front before [] more placed = tt
placed_front before (row ∷ rows) more placed = (placed.0, rises_front row.ticks rows more placed.1)

less_trans : (a b c : ℤ) → a <ℤ b → b <ℤ c → a <ℤ c
less_trans a b c g h = omega (arith, ints)

rises_to : (ticks : ℤ) (rows : List RowView) (last : RowView) (more : List RowView) → RisesFrom ticks (rows ++ last ∷ more) → ticks <ℤ last.ticks
rises_to ticks [] last more rises = rises.0
rises_to ticks (row ∷ rows) last more rises = less_trans ticks row.ticks last.ticks rises.0 (rises_to row.ticks rows last more rises.1)

rises_all : (ticks : ℤ) (rows : List RowView) (last : RowView) (more : List RowView) → RisesFrom ticks (rows ++ last ∷ more) → AllByRecursion (λ (other : RowView). other.ticks <ℤ last.ticks) rows
rises_all ticks [] last more rises = tt
rises_all ticks (row ∷ rows) last more rises = (rises_to row.ticks rows last more rises.1, rises_all row.ticks rows last more rises.1)

-- ---- a row that is ready lies far before those that follow

later_past : (most a b ticks : ℤ) → a <ℤ b → most <ℤ (a -ℤ ticks) → most <ℤ (b -ℤ ticks)
later_past most a b ticks h g = omega (arith, ints)

sooner_past : (most now a b : ℤ) → a <ℤ b → most <ℤ (now -ℤ b) → most <ℤ (now -ℤ a)
sooner_past most now a b h g = omega (arith, ints)

ready_by : (b any : Bool) (most : ℤ) (row other last : RowView) → int_lt most (other.ticks -ℤ row.ticks) ≡ b → (b || any) ≡ true → other.ticks <ℤ last.ticks → (any ≡ true → most <ℤ (last.ticks -ℤ row.ticks)) → most <ℤ (last.ticks -ℤ row.ticks)
ready_by true any most row other last e ready h rest = later_past most other.ticks last.ticks row.ticks h (true_less most (other.ticks -ℤ row.ticks) e)
ready_by false any most row other last e ready h rest = rest ready

ready_past : (most : ℤ) (row : RowView) (rows : List RowView) (last : RowView) → is_ready most row rows ≡ true → AllByRecursion (λ (other : RowView). other.ticks <ℤ last.ticks) rows → most <ℤ (last.ticks -ℤ row.ticks)
ready_past most row [] last ready all = absurd (false_true ready)
ready_past most row (other ∷ rows) last ready all =
    ready_by (int_lt most (other.ticks -ℤ row.ticks)) (is_ready most row rows) most row other last refl ready all.0 (λ any. ready_past most row rows last any all.1)

earlier_past : (most now ticks : ℤ) (before : List RowView) → most <ℤ (now -ℤ ticks) → FallsFrom ticks before → ArePast most now before
earlier_past most now ticks [] h falls = tt
earlier_past most now ticks (row ∷ before) h falls =
    let here = sooner_past most now row.ticks ticks falls.0 h in (here, earlier_past most now row.ticks before here falls.1)

-- ---- the values of a row that is ready stay

pub reading_more : (rules : Rules) (header : HeaderView) (before : List RowView) (row : RowView) (rows more : List RowView) (reading : RowReading) → is_ready (greatest_window rules.speeds) row rows ≡ true → FallsFrom row.ticks before → RisesFrom row.ticks (rows ++ more)
    → repaired (rule_in rules header reading.col) rules.format.decimals before row (rows ++ more) reading ≡ repaired (rule_in rules header reading.col) rules.format.decimals before row rows reading
reading_more rules header before row rows [] reading ready falls rises =
    ap (λ (later : List RowView). repaired (rule_in rules header reading.col) rules.format.decimals before row later reading) (append-nil rows)
reading_more rules header before row rows (next ∷ more) reading ready falls rises =
    let most = greatest_window rules.speeds in
    let whole = append_assoc rows (next ∷ []) more in
    let R : List RowView → Type 0 = λ rs. RisesFrom row.ticks rs in
    let test : RowView → Bool = λ (other : RowView). int_lt most (other.ticks -ℤ row.ticks) in
    let past = ready_past most row rows next ready (rises_all row.ticks rows next more rises) in
    ap (λ (later : List RowView). repaired (rule_in rules header reading.col) rules.format.decimals before row later reading) (sym whole)
    ∙ reading_more rules header before row (rows ++ next ∷ []) more reading (any_more test rows (next ∷ []) ready) falls (subst R (sym whole) rises)
    ∙ reading_far rules header before row rows next reading (past, earlier_past most next.ticks row.ticks before past falls)

values_alike : (P Q : RowReading → ℤ) (readings : List RowReading) → ((reading : RowReading) → P reading ≡ Q reading) → map P readings ≡ map Q readings
values_alike P Q [] same = refl
values_alike P Q (reading ∷ readings) same =
    ap (λ (v : ℤ). v ∷ map P readings) (same reading) ∙ ap (λ (vs : List ℤ). Q reading ∷ vs) (values_alike P Q readings same)

abbrev value_at : Rules → HeaderView → List RowView → RowView → List RowView → RowReading → ℤ
value_at rules header before row later reading = repaired (rule_in rules header reading.col) rules.format.decimals before row later reading

row_more : (rules : Rules) (header : HeaderView) (before : List RowView) (row : RowView) (rows more : List RowView) → is_ready (greatest_window rules.speeds) row rows ≡ true → FallsFrom row.ticks before → RisesFrom row.ticks (rows ++ more)
    → repaired_row rules header before row (rows ++ more) ≡ repaired_row rules header before row rows
row_more rules header before row rows more ready falls rises =
    values_alike (value_at rules header before row (rows ++ more)) (value_at rules header before row rows) row.readings (λ reading. reading_more rules header before row rows more reading ready falls rises)

large_more : (rules : Rules) (header : HeaderView) (before : List RowView) (row : RowView) (rows more : List RowView) → is_ready (greatest_window rules.speeds) row rows ≡ true → FallsFrom row.ticks before → RisesFrom row.ticks (rows ++ more)
    → too_large rules header before row (rows ++ more) ≡ too_large rules header before row rows
large_more rules header before row rows more ready falls rises =
    find_alike (λ (reading : RowReading). not (is_small (value_at rules header before row (rows ++ more) reading))) (λ (reading : RowReading). not (is_small (value_at rules header before row rows reading))) row.readings
    (λ reading. ap (λ (v : ℤ). not (is_small v)) (reading_more rules header before row rows more reading ready falls rises))

-- ---- after a row that waits all wait

or_second : (a b : Bool) → (a || b) ≡ false → b ≡ false
or_second true b e = cc
or_second false b e = e

or_first : (a b : Bool) → (a || b) ≡ false → a ≡ false
or_first true b e = e
or_first false b e = refl

or_both : (a b : Bool) → a ≡ false → b ≡ false → (a || b) ≡ false
or_both true b e f = e
or_both false b e f = f

not_less_sooner : (most now a b : ℤ) → a <ℤ b → int_lt most (now -ℤ a) ≡ false → int_lt most (now -ℤ b) ≡ false
not_less_sooner most now a b h e = grind (arith, ints)

waits_sooner : (most : ℤ) (row next : RowView) (rows : List RowView) → row.ticks <ℤ next.ticks → is_ready most row rows ≡ false → is_ready most next rows ≡ false
waits_sooner most row next [] h e = refl
waits_sooner most row next (other ∷ rows) h e =
    or_both (int_lt most (other.ticks -ℤ next.ticks)) (is_ready most next rows)
    (not_less_sooner most other.ticks row.ticks next.ticks h (or_first (int_lt most (other.ticks -ℤ row.ticks)) (is_ready most row rows) e))
    (waits_sooner most row next rows h (or_second (int_lt most (other.ticks -ℤ row.ticks)) (is_ready most row rows) e))

waits_after : (most : ℤ) (row : RowView) (rows : List RowView) → is_ready most row rows ≡ false → RisesFrom row.ticks rows → AreWaiting most rows
waits_after most row [] e rises = tt
waits_after most row (next ∷ rows) e rises =
    let here = waits_sooner most row next rows rises.0 (or_second (int_lt most (next.ticks -ℤ row.ticks)) (is_ready most row rows) e) in
    (here, waits_after most next rows here rises.1)

-- ---- the text

due_all : (all b : Bool) → b ≡ true → (all || b) ≡ true
due_all true b e = refl
due_all false b e = e

grow_by : (due more_due small : Bool) (here short longer : List ℕ) → due ≡ true → more_due ≡ true → Begins short longer → Begins (cond due (cond small (here ++ short) []) short) (cond more_due (cond small (here ++ longer) []) longer)
grow_by true true true here short longer d e begins = record { rest = begins.rest; is = ap (λ (bytes : List ℕ). here ++ bytes) begins.is ∙ sym (append_assoc here short begins.rest) }
grow_by true true false here short longer d e begins = record { rest = []; is = refl }
grow_by true false small here short longer d e begins = absurd (false_true e)
grow_by false more_due small here short longer d e begins = absurd (false_true d)

grow_row : (rules : Rules) (header : HeaderView) (all : Bool) (before : List RowView) (row : RowView) (rows more : List RowView) (ready : Bool) → is_ready (greatest_window rules.speeds) row rows ≡ ready → Placed before (row ∷ (rows ++ more))
    → Begins (texts rules header false (row ∷ before) rows) (texts rules header all (row ∷ before) (rows ++ more)) → Begins (texts rules header false before (row ∷ rows)) (texts rules header all before (row ∷ (rows ++ more)))
grow_row rules header all before row rows more true e placed begins =
    let most = greatest_window rules.speeds in
    let test : RowView → Bool = λ (other : RowView). int_lt most (other.ticks -ℤ row.ticks) in
    let values = repaired_row rules header before row rows in
    let short = texts rules header false (row ∷ before) rows in
    let longer = texts rules header all (row ∷ before) (rows ++ more) in
    let due = all || is_ready most row (rows ++ more) in
    let B : List ℤ → Type 0 = λ vs. Begins (texts rules header false before (row ∷ rows)) (cond due (cond (list_all is_small vs) (row_text_with rules row vs ++ longer) []) longer) in
    subst B (sym (row_more rules header before row rows more e placed.0 placed.1))
    (grow_by (is_ready most row rows) due (list_all is_small values) (row_text_with rules row values) short longer e (due_all all (is_ready most row (rows ++ more)) (any_more test rows more e)) begins)
grow_row rules header all before row rows more false e placed begins =
    let most = greatest_window rules.speeds in
    let none = texts_waiting rules header before (row ∷ rows) (e, waits_after most row rows e (rises_front row.ticks rows more placed.1)) in
    let whole = texts rules header all before (row ∷ (rows ++ more)) in
    record { rest = whole; is = ap (λ (bytes : List ℕ). bytes ++ whole) (sym none) }

-- the text of more rows begins with that of those before
pub texts_grow : (rules : Rules) (header : HeaderView) (all : Bool) (before rows more : List RowView) → Placed before (rows ++ more) → Begins (texts rules header false before rows) (texts rules header all before (rows ++ more))
texts_grow rules header all before [] more placed = record { rest = texts rules header all before more; is = refl }
texts_grow rules header all before (row ∷ rows) more placed =
    grow_row rules header all before row rows more (is_ready (greatest_window rules.speeds) row rows) refl placed (texts_grow rules header all (row ∷ before) rows more (placed_next before row (rows ++ more) placed))

-- ---- a value that is too large

-- the fault stays, and the text too
pub record LeavesAs (rules : Rules) (header : HeaderView) (all : Bool) (number : ℕ) (before rows more : List RowView) (fault : OnlineFault) : Type 0 where
  pub leaves : leaving rules header all number before (rows ++ more) ≡ Some fault
  pub text : texts rules header all before (rows ++ more) ≡ texts rules header false before rows

none_some : (fault : OnlineFault) → None ≡ Some fault → ⊥
none_some fault e = cc

abbrev range_fault : ℕ → Option RowReading → Option OnlineFault
range_fault number found = option_map (λ (reading : RowReading). LeavesRange number reading.col) found

leave_by : (due more_due : Bool) (found : Option RowReading) (number : ℕ) (small : Bool) (here short longer : List ℕ) (others more_others : Option OnlineFault) (fault : OnlineFault) → due ≡ true → more_due ≡ true → ((reading : RowReading) → found ≡ Some reading → small ≡ false)
    → (others ≡ Some fault → (more_others ≡ Some fault) × (longer ≡ short)) → cond due (option_or (range_fault number found) others) others ≡ Some fault
    → (cond more_due (option_or (range_fault number found) more_others) more_others ≡ Some fault) × (cond more_due (cond small (here ++ longer) []) longer ≡ cond due (cond small (here ++ short) []) short)
leave_by true true None number small here short longer others more_others fault d e large rest is =
    let later = rest is in (later.0, ap (λ (bytes : List ℕ). cond small (here ++ bytes) []) later.1)
leave_by true true (Some reading) number small here short longer others more_others fault d e large rest is =
    let none = large reading refl in
    (is, ap (λ (b : Bool). cond b (here ++ longer) []) none ∙ sym (ap (λ (b : Bool). cond b (here ++ short) []) none))
leave_by true false found number small here short longer others more_others fault d e large rest is = absurd (false_true e)
leave_by false more_due found number small here short longer others more_others fault d e large rest is = absurd (false_true d)

leave_row : (rules : Rules) (header : HeaderView) (all : Bool) (number : ℕ) (before : List RowView) (row : RowView) (rows more : List RowView) (fault : OnlineFault) (ready : Bool) → is_ready (greatest_window rules.speeds) row rows ≡ ready → Placed before (row ∷ (rows ++ more))
    → (leaving rules header false (suc number) (row ∷ before) rows ≡ Some fault → LeavesAs rules header all (suc number) (row ∷ before) rows more fault) → leaving rules header false number before (row ∷ rows) ≡ Some fault → LeavesAs rules header all number before (row ∷ rows) more fault
leave_row rules header all number before row rows more fault true e placed rest is =
    let most = greatest_window rules.speeds in
    let test : RowView → Bool = λ (other : RowView). int_lt most (other.ticks -ℤ row.ticks) in
    let values = repaired_row rules header before row rows in
    let found = too_large rules header before row rows in
    let short = texts rules header false (row ∷ before) rows in
    let longer = texts rules header all (row ∷ before) (rows ++ more) in
    let others = leaving rules header false (suc number) (row ∷ before) rows in
    let more_others = leaving rules header all (suc number) (row ∷ before) (rows ++ more) in
    let due = all || is_ready most row (rows ++ more) in
    let both = leave_by (is_ready most row rows) due found number (list_all is_small values) (row_text_with rules row values) short longer others more_others fault e (due_all all (is_ready most row (rows ++ more)) (any_more test rows more e))
    (λ reading at. not_all (value_at rules header before row rows) row.readings reading at)
    (λ at. let later = rest at in (later.leaves, later.text)) is in
    let L : Option RowReading → Type 0 = λ o. cond due (option_or (range_fault number o) more_others) more_others ≡ Some fault in
    let T : List ℤ → Type 0 = λ vs. cond due (cond (list_all is_small vs) (row_text_with rules row vs ++ longer) []) longer ≡ texts rules header false before (row ∷ rows) in
    record {
      leaves = subst L (sym (large_more rules header before row rows more e placed.0 placed.1)) both.0;
      text = subst T (sym (row_more rules header before row rows more e placed.0 placed.1)) both.1;
    }
leave_row rules header all number before row rows more fault false e placed rest is =
    let most = greatest_window rules.speeds in
    let none = leaving_waiting rules header number before (row ∷ rows) (e, waits_after most row rows e (rises_front row.ticks rows more placed.1)) in
    absurd (none_some fault (sym none ∙ is))

-- where a value of a row that is ready is too large, more rows change nothing
pub leaving_grow : (rules : Rules) (header : HeaderView) (all : Bool) (number : ℕ) (before rows more : List RowView) (fault : OnlineFault) → Placed before (rows ++ more) → leaving rules header false number before rows ≡ Some fault → LeavesAs rules header all number before rows more fault
leaving_grow rules header all number before [] more fault placed is = absurd (none_some fault is)
leaving_grow rules header all number before (row ∷ rows) more fault placed is =
    leave_row rules header all number before row rows more fault (is_ready (greatest_window rules.speeds) row rows) refl placed
    (leaving_grow rules header all (suc number) (row ∷ before) rows more fault (placed_next before row (rows ++ more) placed)) is
