-- A row that lies beyond all windows changes no result.
use Rattle.std.proofs.Common.{◌≡◌, ℕ, zero, suc, ◌≤◌, Bool, false, cond, ℤ, ◌-ℤ◌, ◌≤ℤ◌, ◌<ℤ◌, List, [], ◌∷◌, ◌++◌, length, take, drop, refl, sym, ap, ◌∙◌, subst, arith, append-nil, length-append}
use Rattle.std.specs.Prelude.{Option, Some, None, int_le, slice_get}
use Rattle.std.specs.Int.{int_max}
use Rattle.std.specs.List.{AllByRecursion}
use Rattle.std.proofs.lemmas.Int.{ints, int_max_is}
use Rattle.words.proofs.Lists.{all_push}
use Rattle.rule_file.specs.declared.rules.Rules.{Rules}
use Rattle.rule_file.specs.declared.rules.SpeedRule.{SpeedRule}
use Rattle.series_rows.specs.Row.{RowView}
use Rattle.order_window.specs.declared.key.Key.{Key}
use Rattle.online_values.specs.Results.{Speed, clamped_after, is_within, median_before, result, successors}
use Rattle.online_values.specs.Sensor.{speed_of}
use Rattle.online_repair.specs.Accepted.{greatest_window}
use Rattle.online_repair.specs.Rows.{keys_in, reading_in, with_key}
use Rattle.online_repair.specs.Standing.{IsStanding, IsWindowed, last_result}
use Rattle.online_repair.specs.Storing.{ArePast}
use Rattle.online_repair.specs.Tracks.{IsBeyond, IsNear}
use Rattle.online_repair.specs.declared.track.Track.{Track}

-- ---- a key that lies beyond a window

abbrev pub IsFar : Speed → Key → Key → Type 0
IsFar speed key own = is_within speed own key ≡ false

no_successor : (speed : Speed) (own key : Key) (later : List Key) → IsFar speed key own → successors speed own (later ++ key ∷ []) ≡ successors speed own later
no_successor speed own key [] far = ap (λ (b : Bool). cond b (key ∷ []) []) far
no_successor speed own key (other ∷ later) far =
    ap (λ (keys : List Key). cond (is_within speed own other) (other ∷ keys) keys) (no_successor speed own key later far)

pub result_far : (speed : Speed) (earlier : List Key) (own key : Key) (later : List Key) → IsFar speed key own → AllByRecursion (IsFar speed key) earlier → result speed earlier own (later ++ key ∷ []) ≡ result speed earlier own later
result_far speed [] own key later far all = ap (median_before speed own) (no_successor speed own key later far)
result_far speed (last ∷ earlier) own key later far all =
    ap (λ (value : ℤ). clamped_after speed (Some (record { value = value; ticks = last.ticks })) own (median_before speed own (successors speed own (later ++ key ∷ [])))) (result_far speed earlier last key (own ∷ later) all.0 all.1)
    ∙ ap (λ (keys : List Key). clamped_after speed (Some (record { value = result speed earlier last (own ∷ later); ticks = last.ticks })) own (median_before speed own keys)) (no_successor speed own key later far)

pub last_far : (speed : Speed) (before later : List Key) (key : Key) → AllByRecursion (IsFar speed key) before → last_result speed before (later ++ key ∷ []) ≡ last_result speed before later
last_far speed [] later key all = refl
last_far speed (last ∷ earlier) later key all =
    ap (λ (value : ℤ). Some (record { value = value; ticks = last.ticks })) (result_far speed earlier last key later all.0 all.1)

-- ---- the keys of one more row

with_append : (ticks : ℤ) (value : Option ℤ) (keys more : List Key) → with_key ticks value (keys ++ more) ≡ with_key ticks value keys ++ more
with_append ticks None keys more = refl
with_append ticks (Some value) keys more = refl

pub keys_append : (col : ℕ) (rows more : List RowView) → keys_in col (rows ++ more) ≡ keys_in col rows ++ keys_in col more
keys_append col [] more = refl
keys_append col (row ∷ rows) more =
    ap (with_key row.ticks (reading_in col row.readings)) (keys_append col rows more) ∙ with_append row.ticks (reading_in col row.readings) (keys_in col rows) (keys_in col more)

-- ---- rows that lie more than so many ticks before a time

not_le : (span dt : ℤ) → span <ℤ dt → int_le dt span ≡ false
not_le span dt h = grind (arith, ints)

further : (span most dt : ℤ) → span ≤ℤ most → most <ℤ dt → span <ℤ dt
further span most dt g h = omega (arith, ints)

far_with : (speed : Speed) (key : Key) (ticks : ℤ) (value : Option ℤ) (keys : List Key) → int_le (key.ticks -ℤ ticks) speed.span ≡ false → AllByRecursion (IsFar speed key) keys → AllByRecursion (IsFar speed key) (with_key ticks value keys)
far_with speed key ticks None keys far all = all
far_with speed key ticks (Some value) keys far all = (far, all)

pub far_keys : (speed : Speed) (most : ℤ) (key : Key) (col : ℕ) (rows : List RowView) → speed.span ≤ℤ most → ArePast most key.ticks rows → AllByRecursion (IsFar speed key) (keys_in col rows)
far_keys speed most key col [] h past = tt
far_keys speed most key col (row ∷ rows) h past =
    far_with speed key row.ticks (reading_in col row.readings) (keys_in col rows) (not_le speed.span (key.ticks -ℤ row.ticks) (further speed.span most (key.ticks -ℤ row.ticks) h past.0)) (far_keys speed most key col rows h past.1)

last_by : (speed : Speed) (most : ℤ) (col : ℕ) (before : List RowView) (held : List RowView) (ticks : ℤ) (value : Option ℤ) → speed.span ≤ℤ most → ArePast most ticks before
    → last_result speed (keys_in col before) (keys_in col held ++ with_key ticks value []) ≡ last_result speed (keys_in col before) (keys_in col held)
last_by speed most col before held ticks None h past = ap (last_result speed (keys_in col before)) (append-nil (keys_in col held))
last_by speed most col before held ticks (Some value) h past =
    last_far speed (keys_in col before) (keys_in col held) (record { value = value; ticks = ticks }) (far_keys speed most (record { value = value; ticks = ticks }) col before h past)

pub last_pushed : (speed : Speed) (most : ℤ) (col : ℕ) (before held : List RowView) (row : RowView) → speed.span ≤ℤ most → ArePast most row.ticks before
    → last_result speed (keys_in col before) (keys_in col (held ++ row ∷ [])) ≡ last_result speed (keys_in col before) (keys_in col held)
last_pushed speed most col before held row h past =
    ap (last_result speed (keys_in col before)) (keys_append col held (row ∷ []))
    ∙ last_by speed most col before held row.ticks (reading_in col row.readings) h past

-- ---- a track, when a row is held that lies beyond the window of what was written

take_push : {A : Type 0} (n : ℕ) (xs : List A) (x : A) → n ≤ length xs → take n (xs ++ x ∷ []) ≡ take n xs
take_push {A = A} zero xs x h = refl
take_push {A = A} (suc n) [] x h = absurd (omega (arith, h))
take_push {A = A} (suc n) (y ∷ xs) x h = ap (λ (ys : List A). y ∷ ys) (take_push n xs x (let g : n ≤ length xs = omega (arith, h) in g))

drop_push : {A : Type 0} (n : ℕ) (xs : List A) (x : A) → n ≤ length xs → drop n (xs ++ x ∷ []) ≡ drop n xs ++ x ∷ []
drop_push {A = A} zero xs x h = refl
drop_push {A = A} (suc n) [] x h = absurd (omega (arith, h))
drop_push {A = A} (suc n) (y ∷ xs) x h = drop_push n xs x (let g : n ≤ length xs = omega (arith, h) in g)

abbrev pub AreKeysPast : ℤ → ℤ → List Key → Type 0
AreKeysPast most now keys = AllByRecursion (λ (key : Key). most <ℤ (now -ℤ key.ticks)) keys

past_with : (most now ticks : ℤ) (value : Option ℤ) (keys : List Key) → most <ℤ (now -ℤ ticks) → AreKeysPast most now keys → AreKeysPast most now (with_key ticks value keys)
past_with most now ticks None keys h all = all
past_with most now ticks (Some value) keys h all = (h, all)

keys_past : (most now : ℤ) (col : ℕ) (rows : List RowView) → ArePast most now rows → AreKeysPast most now (keys_in col rows)
keys_past most now col [] past = tt
keys_past most now col (row ∷ rows) past = past_with most now row.ticks (reading_in col row.readings) (keys_in col rows) past.0 (keys_past most now col rows past.1)

windowed_push : (span most : ℤ) (keys : List Key) (next : ℕ) (held : List RowView) (row : RowView) → span ≤ℤ most → AreKeysPast most row.ticks keys → next ≤ length held → IsWindowed span keys next held → IsWindowed span keys next (held ++ row ∷ [])
windowed_push span most [] next held row h past within windowed = windowed
windowed_push span most (last ∷ earlier) next held row h past within windowed =
    let N : List RowView → Type 0 = λ rows. AllByRecursion (IsNear span last.ticks) rows in
    let B : List RowView → Type 0 = λ rows. AllByRecursion (IsBeyond span last.ticks) rows in (
      subst N (sym (take_push next held row within)) windowed.0,
      subst B (sym (drop_push next held row within)) (all_push (IsBeyond span last.ticks) (drop next held) row windowed.1 (further span most (row.ticks -ℤ last.ticks) h past.0)),
    )

pub pushed_stands : (rules : Rules) (rule : SpeedRule) (col : ℕ) (most : ℤ) (before held : List RowView) (row : RowView) (track : Track) → rule.window ≤ℤ most → ArePast most row.ticks before → IsStanding rules rule col before held track → IsStanding rules rule col before (held ++ row ∷ []) track
pushed_stands rules rule col most before held row track h past stands = record {
  within = omega (arith, stands.within, length-append held (row ∷ []));
  keys_are = stands.keys_are ∙ ap (keys_in col) (sym (take_push track.next held row stands.within));
  windowed = windowed_push rule.window most (keys_in col before) track.next held row h (keys_past most row.ticks col before past) stands.within stands.windowed;
  last_is = stands.last_is ∙ sym (last_pushed (speed_of rule rules.format.decimals) most col before held row h past);
}

-- ---- the greatest window

some_rule : (a b : SpeedRule) → Some a ≡ Some b → a ≡ b
some_rule a b e = cc

no_speed : (a : SpeedRule) → None ≡ Some a → ⊥
no_speed a e = cc

max_first : (a b : ℤ) → a ≤ℤ int_max a b
max_first a b = omega (arith, ints, int_max_is a b)

max_second : (a b c : ℤ) → c ≤ℤ b → c ≤ℤ int_max a b
max_second a b c h = omega (arith, ints, int_max_is a b, h)

pub window_within : (speeds : List SpeedRule) (i : ℕ) (rule : SpeedRule) → slice_get speeds i ≡ Some rule → rule.window ≤ℤ greatest_window speeds
window_within [] i rule at = absurd (no_speed rule at)
window_within (first ∷ speeds) zero rule at =
    let W : SpeedRule → Type 0 = λ r. r.window ≤ℤ greatest_window (first ∷ speeds) in
    subst W (some_rule first rule at) (max_first first.window (greatest_window speeds))
window_within (first ∷ speeds) (suc i) rule at = max_second first.window (greatest_window speeds) rule.window (window_within speeds i rule at)
