-- The readings of a sensor in the rows that are accepted follow one another.
use Rattle.std.proofs.Common.{◌≡◌, ℕ, ◌&&◌, Bool, true, false, cond, ℤ, ◌-ℤ◌, ◌≤ℤ◌, ◌<ℤ◌, List, [], ◌∷◌, ◌++◌, reverse, refl, sym, ap, ◌∙◌, subst, arith, append_assoc, append-nil}
use Rattle.std.specs.Prelude.{Option, Some, None, ◌==◌, int_le, int_lt, option_map}
use Rattle.std.specs.List.{find}
use Rattle.std.proofs.lemmas.Bool.Decides.{nat_tests}
use Rattle.std.proofs.lemmas.Int.{ints}
use Rattle.std.proofs.lemmas.List.{reverse-append, reverse-reverse}
use Rattle.words.proofs.Lists.{reverse_cons}
use Rattle.rule_file.specs.declared.rules.Rules.{Rules}
use Rattle.rule_file.specs.declared.rules.SpeedRule.{SpeedRule}
use Rattle.series_rows.specs.Header.{HeaderView}
use Rattle.series_rows.specs.Row.{RowView}
use Rattle.series_rows.specs.declared.cell.RowReading.{RowReading}
use Rattle.order_window.specs.declared.key.Key.{Key}
use Rattle.online_values.specs.Laws.{AreReadings, Follows, IsSeries, IsSeriesBack}
use Rattle.online_values.specs.Results.{Speed, greatest_step, least_step}
use Rattle.online_values.specs.Sensor.{speed_of}
use Rattle.online_repair.specs.Accepted.{accept, greatest_window, held, is_full, lacks_step, lacks_step_by, refusal, unless_refused, without_step}
use Rattle.online_repair.specs.Laws.{IsReading}
use Rattle.online_repair.specs.Rows.{keys_in, reading_in, rule_in, with_key}
use Rattle.online_repair.specs.Standing.{FallsFrom}
use Rattle.online_repair.specs.declared.fault.OnlineFault.{OnlineFault}
use Rattle.online_repair.specs.declared.fault.OnlineFault.TheVariants.{NoWholeStep, WindowFull}
use Rattle.online_repair.proofs.Beyond.{keys_append}
use Rattle.online_repair.proofs.Grown.{Placed, placed_next}

-- ---- a row that is not refused lacks no step

fault_none : (fault : OnlineFault) → Some fault ≡ None → ⊥
fault_none fault e = cc

map_none : (number : ℕ) (found : Option RowReading) → option_map (λ (reading : RowReading). NoWholeStep number reading.col) found ≡ None → found ≡ None
map_none number None e = refl
map_none number (Some reading) e = absurd (fault_none (NoWholeStep number reading.col) e)

not_full_by : (full : Bool) (number : ℕ) (found : Option RowReading) → cond full (Some (WindowFull number)) (option_map (λ (reading : RowReading). NoWholeStep number reading.col) found) ≡ None → found ≡ None
not_full_by true number found e = absurd (fault_none (WindowFull number) e)
not_full_by false number found e = map_none number found e

none_without : (rules : Rules) (header : HeaderView) (before : List RowView) (row : RowView) → refusal rules header before row ≡ None → without_step rules header before row ≡ None
none_without rules header before row e =
    not_full_by (is_full rules.format.hold (greatest_window rules.speeds) (held (greatest_window rules.speeds) before) row) _ (without_step rules header before row) e

no_reading : (reading : RowReading) → Some reading ≡ None → ⊥
no_reading reading e = cc

none_value : (value : ℤ) → None ≡ Some value → ⊥
none_value value e = cc

same_col : (a b : ℕ) → (a == b) ≡ true → a ≡ b
same_col a b e = grind (arith, nat_tests)

not_found : (b : Bool) (reading : RowReading) (others : Option RowReading) → cond b (Some reading) others ≡ None → b ≡ false
not_found true reading others e = absurd (no_reading reading e)
not_found false reading others e = refl

none_later : (b : Bool) (reading : RowReading) (others : Option RowReading) → cond b (Some reading) others ≡ None → others ≡ None
none_later true reading others e = absurd (no_reading reading e)
none_later false reading others e = e

lacks_at : (lacks : ℕ → Bool) (col : ℕ) (reading : RowReading) (others : Option RowReading) (rest : Option ℤ) (value : ℤ) (here : Bool) → (reading.col == col) ≡ here → cond (lacks reading.col) (Some reading) others ≡ None → cond here (Some reading.value) rest ≡ Some value → (others ≡ None → rest ≡ Some value → lacks col ≡ false)
    → lacks col ≡ false
lacks_at lacks col reading others rest value true e none at later = ap lacks (sym (same_col reading.col col e)) ∙ not_found (lacks reading.col) reading others none
lacks_at lacks col reading others rest value false e none at later = later (none_later (lacks reading.col) reading others none) at

-- of readings of which none lacks a step, the one in a column lacks none
lacks_in : (lacks : ℕ → Bool) (col : ℕ) (readings : List RowReading) (value : ℤ) → find (λ (reading : RowReading). lacks reading.col) readings ≡ None → reading_in col readings ≡ Some value → lacks col ≡ false
lacks_in lacks col [] value none at = absurd (none_value value at)
lacks_in lacks col (reading ∷ readings) value none at =
    lacks_at lacks col reading (find (λ (other : RowReading). lacks other.col) readings) (reading_in col readings) value (reading.col == col) refl none at (lacks_in lacks col readings value)

lacks_none : (rules : Rules) (header : HeaderView) (before : List RowView) (row : RowView) (col : ℕ) (value : ℤ) (rule : SpeedRule) → refusal rules header before row ≡ None → reading_in col row.readings ≡ Some value → rule_in rules header col ≡ Some rule
    → lacks_step (speed_of rule rules.format.decimals) (keys_in col (reverse before)) row.ticks ≡ false
lacks_none rules header before row col value rule accepts at is =
    ap (λ (o : Option SpeedRule). lacks_step_by o rules.format.decimals col before row.ticks) (sym is)
    ∙ lacks_in (λ (c : ℕ). lacks_step_by (rule_in rules header c) rules.format.decimals c before row.ticks) col row.readings value (none_without rules header before row accepts) at

-- ---- so its readings follow those before

less_trans : (a b c : ℤ) → a <ℤ b → b <ℤ c → a <ℤ c
less_trans a b c g h = omega (arith, ints)

abbrev AreEarlier : ℤ → List Key → Type 0
AreEarlier now [] = Unit {0}
AreEarlier now (last ∷ keys) = last.ticks <ℤ now

earlier_with : (now ticks : ℤ) (value : Option ℤ) (keys : List Key) → ticks <ℤ now → AreEarlier now keys → AreEarlier now (with_key ticks value keys)
earlier_with now ticks None keys h earlier = earlier
earlier_with now ticks (Some value) keys h earlier = h

earlier_keys : (now ticks : ℤ) (col : ℕ) (before : List RowView) → ticks <ℤ now → FallsFrom ticks before → AreEarlier now (keys_in col before)
earlier_keys now ticks col [] h falls = tt
earlier_keys now ticks col (row ∷ before) h falls =
    let here = less_trans row.ticks ticks now falls.0 h in
    earlier_with now row.ticks (reading_in col row.readings) (keys_in col before) here (earlier_keys now row.ticks col before here falls.1)

falls_keys : (now : ℤ) (col : ℕ) (before : List RowView) → FallsFrom now before → AreEarlier now (keys_in col before)
falls_keys now col [] falls = tt
falls_keys now col (row ∷ before) falls = earlier_with now row.ticks (reading_in col row.readings) (keys_in col before) falls.0 (earlier_keys now row.ticks col before falls.0 falls.1)

and_false : (a b : Bool) → (a && b) ≡ false → a ≡ true → b ≡ false
and_false true b e f = e
and_false false b e f = absurd (let g : ⊥ = cc in g)

not_less : (a b : ℤ) → int_lt a b ≡ false → b ≤ℤ a
not_less a b e = grind (arith, ints)

follows : (speed : Speed) (last own : Key) (earlier : List Key) → last.ticks <ℤ own.ticks → lacks_step speed (last ∷ earlier) own.ticks ≡ false → Follows speed last own
follows speed last own earlier h lacks = record {
  later = h;
  step = λ within. not_less (greatest_step speed (own.ticks -ℤ last.ticks)) (least_step speed (own.ticks -ℤ last.ticks)) (and_false (int_le (own.ticks -ℤ last.ticks) speed.span) (int_lt (greatest_step speed (own.ticks -ℤ last.ticks)) (least_step speed (own.ticks -ℤ last.ticks))) lacks within);
}

series_key : (speed : Speed) (own : Key) (keys : List Key) → AreEarlier own.ticks keys → lacks_step speed keys own.ticks ≡ false → IsSeriesBack speed keys → IsSeriesBack speed (own ∷ keys)
series_key speed own [] earlier lacks series = tt
series_key speed own (last ∷ keys) earlier lacks series = (follows speed last own keys earlier lacks, series)

series_with : (rules : Rules) (header : HeaderView) (before : List RowView) (row : RowView) (col : ℕ) (rule : SpeedRule) (value : Option ℤ) → refusal rules header before row ≡ None → rule_in rules header col ≡ Some rule → FallsFrom row.ticks (reverse before) → reading_in col row.readings ≡ value
    → IsSeriesBack (speed_of rule rules.format.decimals) (keys_in col (reverse before)) → IsSeriesBack (speed_of rule rules.format.decimals) (with_key row.ticks value (keys_in col (reverse before)))
series_with rules header before row col rule None accepts is falls at series = series
series_with rules header before row col rule (Some value) accepts is falls at series =
    series_key (speed_of rule rules.format.decimals) (record { value = value; ticks = row.ticks }) (keys_in col (reverse before)) (falls_keys row.ticks col (reverse before) falls) (lacks_none rules header before row col value rule accepts at is) series

-- one row more
series_row : (rules : Rules) (header : HeaderView) (before : List RowView) (row : RowView) (col : ℕ) (rule : SpeedRule) → refusal rules header before row ≡ None → rule_in rules header col ≡ Some rule → FallsFrom row.ticks (reverse before)
    → IsSeriesBack (speed_of rule rules.format.decimals) (keys_in col (reverse before)) → IsSeriesBack (speed_of rule rules.format.decimals) (keys_in col (reverse (before ++ row ∷ [])))
series_row rules header before row col rule accepts is falls series =
    let S : List RowView → Type 0 = λ rs. IsSeriesBack (speed_of rule rules.format.decimals) (keys_in col rs) in
    subst S (sym (reverse-append before (row ∷ []))) (series_with rules header before row col rule (reading_in col row.readings) accepts is falls refl series)

placed_push : (before : List RowView) (row : RowView) (rows : List RowView) → Placed (reverse before) (row ∷ rows) → Placed (reverse (before ++ row ∷ [])) rows
placed_push before row rows placed =
    let P : List RowView → Type 0 = λ rs. Placed rs rows in
    subst P (sym (reverse-append before (row ∷ []))) (placed_next (reverse before) row rows placed)

series_by : (rules : Rules) (header : HeaderView) (before : List RowView) (row : RowView) (rows : List RowView) (last : Option OnlineFault) (col : ℕ) (rule : SpeedRule) (o : Option OnlineFault) → refusal rules header before row ≡ o → rule_in rules header col ≡ Some rule → FallsFrom row.ticks (reverse before)
    → IsSeriesBack (speed_of rule rules.format.decimals) (keys_in col (reverse before)) → (IsSeriesBack (speed_of rule rules.format.decimals) (keys_in col (reverse (before ++ row ∷ []))) → IsSeriesBack (speed_of rule rules.format.decimals) (keys_in col (reverse (accept rules header (before ++ row ∷ []) rows last).rows)))
    → IsSeriesBack (speed_of rule rules.format.decimals) (keys_in col (reverse (unless_refused before o (accept rules header (before ++ row ∷ []) rows last)).rows))
series_by rules header before row rows last col rule None e is falls series later = later (series_row rules header before row col rule e is falls series)
series_by rules header before row rows last col rule (Some fault) e is falls series later = series

-- the readings of a sensor in the rows that are accepted
accepted_series : (rules : Rules) (header : HeaderView) (before rows : List RowView) (last : Option OnlineFault) (col : ℕ) (rule : SpeedRule) → rule_in rules header col ≡ Some rule → Placed (reverse before) rows
    → IsSeriesBack (speed_of rule rules.format.decimals) (keys_in col (reverse before)) → IsSeriesBack (speed_of rule rules.format.decimals) (keys_in col (reverse (accept rules header before rows last).rows))
accepted_series rules header before [] last col rule is placed series = series
accepted_series rules header before (row ∷ rows) last col rule is placed series =
    series_by rules header before row rows last col rule (refusal rules header before row) refl is placed.0 series
    (accepted_series rules header (before ++ row ∷ []) rows last col rule is (placed_push before row rows placed))

-- ---- both ways

reverse_with : (ticks : ℤ) (value : Option ℤ) (keys : List Key) → reverse keys ++ with_key ticks value [] ≡ reverse (with_key ticks value keys)
reverse_with ticks None keys = append-nil (reverse keys)
reverse_with ticks (Some value) keys = sym (reverse_cons (record { value = value; ticks = ticks }) keys)

pub keys_reverse : (col : ℕ) (rows : List RowView) → keys_in col (reverse rows) ≡ reverse (keys_in col rows)
keys_reverse col [] = refl
keys_reverse col (row ∷ rows) =
    ap (keys_in col) (reverse_cons row rows) ∙ keys_append col (reverse rows) (row ∷ []) ∙ ap (λ (keys : List Key). keys ++ keys_in col (row ∷ [])) (keys_reverse col rows) ∙ reverse_with row.ticks (reading_in col row.readings) (keys_in col rows)

series_tail : (speed : Speed) (key : Key) (keys : List Key) → IsSeriesBack speed (key ∷ keys) → IsSeriesBack speed keys
series_tail speed key [] series = tt
series_tail speed key (last ∷ keys) series = series.1

series_back : (speed : Speed) (front keys : List Key) → IsSeriesBack speed (front ++ keys) → IsSeriesBack speed keys
series_back speed [] keys series = series
series_back speed (key ∷ front) keys series = series_back speed front keys (series_tail speed key (front ++ keys) series)

-- the first of some readings follows this one, if there is one
abbrev FollowsFirst : Speed → Key → List Key → Type 0
FollowsFirst speed own [] = Unit {0}
FollowsFirst speed own (key ∷ keys) = Follows speed own key

series_first : (speed : Speed) (own : Key) (keys : List Key) → FollowsFirst speed own keys → IsSeries speed keys → IsSeries speed (own ∷ keys)
series_first speed own [] first series = tt
series_first speed own (key ∷ keys) first series = (first, series)

first_follows : (speed : Speed) (last : Key) (back : List Key) (next : Key) (earlier : List Key) → IsSeriesBack speed (last ∷ back) → back ≡ next ∷ earlier → Follows speed next last
first_follows speed last back next earlier series e =
    let S : List Key → Type 0 = λ keys. IsSeriesBack speed (last ∷ keys) in
    (subst S e series).0

-- readings that stand latest first, and those after them in order, joined in order
turned : (speed : Speed) (back later : List Key) → IsSeriesBack speed back → IsSeries speed later → ((last : Key) (earlier : List Key) → back ≡ last ∷ earlier → FollowsFirst speed last later) → IsSeries speed (reverse back ++ later)
turned speed [] later series more first = more
turned speed (last ∷ back) later series more first =
    let S : List Key → Type 0 = λ keys. IsSeries speed keys in
    let whole = ap (λ (keys : List Key). keys ++ later) (reverse_cons last back) ∙ append_assoc (reverse back) (last ∷ []) later in
    subst S (sym whole) (turned speed back (last ∷ later) (series_tail speed last back series) (series_first speed last later (first last back refl) more) (λ next earlier e. first_follows speed last back next earlier series e))

series_front : (speed : Speed) (front keys : List Key) → IsSeriesBack speed (front ++ keys) → IsSeriesBack speed front
series_front speed [] keys series = tt
series_front speed (key ∷ []) keys series = tt
series_front speed (key ∷ next ∷ front) keys series = (series.0, series_front speed (next ∷ front) keys series.1)

series_after : (speed : Speed) (own : Key) (later : List Key) (before : List Key) → IsSeriesBack speed (reverse later ++ (own ∷ before)) → IsSeries speed (own ∷ later)
series_after speed own later before series =
    let S : List Key → Type 0 = λ keys. IsSeries speed keys in
    let front = series_front speed (reverse later ++ own ∷ []) before (let B : List Key → Type 0 = λ keys. IsSeriesBack speed keys in subst B (sym (append_assoc (reverse later) (own ∷ []) before)) series) in
    let whole : reverse (reverse later ++ own ∷ []) ++ [] ≡ own ∷ later = append-nil (reverse (reverse later ++ own ∷ [])) ∙ reverse-append (reverse later) (own ∷ []) ∙ ap (λ (keys : List Key). own ∷ keys) (reverse-reverse later) in
    subst S whole (turned speed (reverse later ++ own ∷ []) [] front tt (λ last earlier e. tt))

-- ---- the readings about one of them

keys_here : (col : ℕ) (before : List RowView) (row : RowView) (later : List RowView) (value : ℤ) → reading_in col row.readings ≡ Some value
    → keys_in col (reverse (reverse before ++ (row ∷ later))) ≡ reverse (keys_in col later) ++ (record { value = value; ticks = row.ticks } ∷ keys_in col before)
keys_here col before row later value at =
    ap (keys_in col) (reverse-append (reverse before) (row ∷ later) ∙ ap (λ (rs : List RowView). rs ++ reverse (reverse before)) (reverse_cons row later) ∙ ap (λ (rs : List RowView). (reverse later ++ row ∷ []) ++ rs) (reverse-reverse before) ∙ append_assoc (reverse later) (row ∷ []) before)
    ∙ keys_append col (reverse later) (row ∷ before)
    ∙ ap (λ (keys : List Key). keys ++ keys_in col (row ∷ before)) (keys_reverse col later)
    ∙ ap (λ (o : Option ℤ). reverse (keys_in col later) ++ with_key row.ticks o (keys_in col before)) at

pub are_readings : (rules : Rules) (header : HeaderView) (rows before : List RowView) (row : RowView) (later : List RowView) (col : ℕ) (value : ℤ) (rule : SpeedRule) → IsReading rules header rows before row later col value rule → IsSeriesBack (speed_of rule rules.format.decimals) (keys_in col (reverse rows))
    → AreReadings (speed_of rule rules.format.decimals) (keys_in col before) (record { value = value; ticks = row.ticks }) (keys_in col later)
are_readings rules header rows before row later col value rule is series =
    let speed = speed_of rule rules.format.decimals in
    let own : Key = record { value = value; ticks = row.ticks } in
    let S : List Key → Type 0 = λ keys. IsSeriesBack speed keys in
    let whole = subst S (ap (λ (rs : List RowView). keys_in col (reverse rs)) is.rows_are ∙ keys_here col before row later value is.reads) series in
    record {
      min_per = rule.rates.min.per_least;
      max_per = rule.rates.max.per_least;
      before = series_back speed (reverse (keys_in col later)) (own ∷ keys_in col before) whole;
      after = series_after speed own (keys_in col later) (keys_in col before) whole;
    }

-- ---- the laws

pub rows_series : (rules : Rules) (header : HeaderView) (rows : List RowView) (last : Option OnlineFault) (col : ℕ) (rule : SpeedRule) → Placed [] rows → rule_in rules header col ≡ Some rule → IsSeriesBack (speed_of rule rules.format.decimals) (keys_in col (reverse (accept rules header [] rows last).rows))
rows_series rules header rows last col rule placed is = accepted_series rules header [] rows last col rule is placed tt
