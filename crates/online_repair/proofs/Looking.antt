-- Rows that are looked at for a window.
use Rattle.std.proofs.Common.{◌≡◌, ℕ, zero, suc, ◌+◌, ◌<◌, ◌≤◌, true, false, ℤ, ◌-ℤ◌, ◌≤ℤ◌, ◌<ℤ◌, List, [], ◌∷◌, ◌++◌, length, take, drop, FitsSigned, to_z, of_z, refl, sym, ap, ◌∙◌, subst, arith}
use Rattle.std.specs.Prelude.{Option, Some, None, slice_get}
use Rattle.std.specs.Int.{w64}
use Rattle.std.specs.List.{AllByRecursion}
use Rattle.std.proofs.lemmas.Int.{ints, by_lt_z, to_z-of_z}
use Rattle.std.proofs.lemmas.List.{take-append-drop, drop_all}
use Rattle.words.proofs.Lists.{all_of_append, all_push, all_weaker}
use Rattle.rule_file.specs.Limits.{IsUnits}
use Rattle.series_rows.specs.Row.{RowView}
use Rattle.order_window.specs.declared.key.Key.{Key}
use Rattle.online_repair.specs.Rows.{keys_in, reading_in, with_key}
use Rattle.online_values.specs.Sensor.{SensorView}
use Rattle.online_repair.specs.declared.track.Track.{Track}
use Rattle.online_repair.specs.Tracks.{Fits, IsBeyond, IsLike, IsLooking, IsNear, RisesFrom}

-- ---- a row at its place

pub record IsAt (rows : List RowView) (n : ℕ) (row : RowView) : Type 0 where
  pub below : n < length rows
  pub front : take (n + 1) rows ≡ take n rows ++ row ∷ []
  pub back : drop n rows ≡ row ∷ drop (n + 1) rows

some_same : (a b : RowView) → Some a ≡ Some b → a ≡ b
some_same a b e = cc

none_some : (a : RowView) → None ≡ Some a → ⊥
none_some a e = cc

take_more : (first : RowView) (rows : List RowView) (n : ℕ) (row : RowView) → take (n + 1) rows ≡ take n rows ++ row ∷ [] → take (suc n + 1) (first ∷ rows) ≡ take (suc n) (first ∷ rows) ++ row ∷ []
take_more first rows n row e =
    let F : ℕ → Type 0 = λ k. take k (first ∷ rows) ≡ take (suc n) (first ∷ rows) ++ row ∷ [] in
    let same : suc (n + 1) ≡ suc n + 1 = omega arith in
    subst F same (ap (λ (rs : List RowView). first ∷ rs) e)

drop_more : (first : RowView) (rows : List RowView) (n : ℕ) (row : RowView) → drop n rows ≡ row ∷ drop (n + 1) rows → drop (suc n) (first ∷ rows) ≡ row ∷ drop (suc n + 1) (first ∷ rows)
drop_more first rows n row e =
    let F : ℕ → Type 0 = λ k. drop (suc n) (first ∷ rows) ≡ row ∷ drop k (first ∷ rows) in
    let same : suc (n + 1) ≡ suc n + 1 = omega arith in
    subst F same e

pub at_place : (rows : List RowView) (n : ℕ) (row : RowView) → slice_get rows n ≡ Some row → IsAt rows n row
at_place [] n row e = absurd (none_some row e)
at_place (first ∷ rows) zero row e =
    let same = some_same first row e in
    record {
      below = omega arith;
      front = ap (λ (r : RowView). r ∷ []) same;
      back = ap (λ (r : RowView). r ∷ rows) same;
    }
at_place (first ∷ rows) (suc n) row e =
    let rest = at_place rows n row e in
    record {
      below = omega (arith, rest.below);
      front = take_more first rows n row rest.front;
      back = drop_more first rows n row rest.back;
    }

pub past_end : (rows : List RowView) (n : ℕ) → slice_get rows n ≡ None → length rows ≤ n
past_end [] n e = omega arith
past_end (first ∷ rows) zero e = absurd (none_some first (sym e))
past_end (first ∷ rows) (suc n) e = omega (arith, past_end rows n e)

-- ---- times rise

less_chain : (a b c : ℤ) → a <ℤ b → b <ℤ c → a <ℤ c
less_chain a b c g h = omega (arith, ints)

later_than : (t : ℤ) (front : List RowView) (row : RowView) (back : List RowView) → RisesFrom t (front ++ row ∷ back) → t <ℤ row.ticks
later_than t [] row back rise = rise.0
later_than t (first ∷ front) row back rise = less_chain t first.ticks row.ticks rise.0 (later_than first.ticks front row back rise.1)

abbrev IsBetween : ℤ → ℤ → RowView → Type 0
IsBetween t end row = (t <ℤ row.ticks) × (row.ticks <ℤ end)

all_between : (t : ℤ) (front : List RowView) (row : RowView) (back : List RowView) → RisesFrom t (front ++ row ∷ back) → AllByRecursion (IsBetween t row.ticks) front
all_between t [] row back rise = tt
all_between t (first ∷ front) row back rise = (
  (rise.0, later_than first.ticks front row back rise.1),
  all_weaker (IsBetween first.ticks row.ticks) (IsBetween t row.ticks) (λ r h. (less_chain t first.ticks r.ticks rise.0 h.0, h.1)) front (all_between first.ticks front row back rise.1),
)

rises_back : (t : ℤ) (front : List RowView) (row : RowView) (back : List RowView) → RisesFrom t (front ++ row ∷ back) → RisesFrom row.ticks back
rises_back t [] row back rise = rise.1
rises_back t (first ∷ front) row back rise = rises_back first.ticks front row back rise.1

pub all_later : (t : ℤ) (rows : List RowView) → RisesFrom t rows → AllByRecursion (λ (row : RowView). t <ℤ row.ticks) rows
all_later t [] rise = tt
all_later t (row ∷ rows) rise = (
  rise.0,
  all_weaker (λ (r : RowView). row.ticks <ℤ r.ticks) (λ (r : RowView). t <ℤ r.ticks) (λ r h. less_chain t row.ticks r.ticks rise.0 h) rows (all_later row.ticks rows rise.1),
)

further : (span t row later : ℤ) → span <ℤ (row -ℤ t) → row <ℤ later → span <ℤ (later -ℤ t)
further span t row later g h = omega (arith, ints)

-- ---- the keys of rows

keys_after : (ticks : ℤ) (value : Option ℤ) (whole first second : List Key) → whole ≡ first ++ second → with_key ticks value whole ≡ with_key ticks value first ++ second
keys_after ticks None whole first second e = e
keys_after ticks (Some value) whole first second e = ap (λ (keys : List Key). record { value = value; ticks = ticks } ∷ keys) e

pub keys-append : (col : ℕ) (xs ys : List RowView) → keys_in col (xs ++ ys) ≡ keys_in col xs ++ keys_in col ys
keys-append col [] ys = refl
keys-append col (row ∷ xs) ys = keys_after row.ticks (reading_in col row.readings) (keys_in col (xs ++ ys)) (keys_in col xs) (keys_in col ys) (keys-append col xs ys)

keys_all_by : (P : ℤ → Type 0) (ticks : ℤ) (value : Option ℤ) (keys : List Key) → P ticks → AllByRecursion (λ (key : Key). P key.ticks) keys → AllByRecursion (λ (key : Key). P key.ticks) (with_key ticks value keys)
keys_all_by P ticks None keys here all = all
keys_all_by P ticks (Some value) keys here all = (here, all)

pub keys_all : (P : ℤ → Type 0) (col : ℕ) (rows : List RowView) → AllByRecursion (λ (row : RowView). P row.ticks) rows → AllByRecursion (λ (key : Key). P key.ticks) (keys_in col rows)
keys_all P col [] all = tt
keys_all P col (row ∷ rows) all = keys_all_by P row.ticks (reading_in col row.readings) (keys_in col rows) all.0 (keys_all P col rows all.1)

few_keys_by : (ticks : ℤ) (value : Option ℤ) (keys : List Key) → length (with_key ticks value keys) ≤ length keys + 1
few_keys_by ticks None keys = omega arith
few_keys_by ticks (Some value) keys = omega arith

pub few_keys : (col : ℕ) (rows : List RowView) → length (keys_in col rows) ≤ length rows
few_keys col [] = omega arith
few_keys col (row ∷ rows) = omega (arith, few_keys_by row.ticks (reading_in col row.readings) (keys_in col rows), few_keys col rows)

-- ---- one row more

not_further : (span t earlier row : ℤ) → t <ℤ earlier → (row -ℤ t) ≤ℤ span → (row -ℤ earlier) ≤ℤ span
not_further span t earlier row g h = omega (arith, ints)

abbrev MayStand : ℤ → ℤ → ℤ → Type 0
MayStand span ticks other = (other <ℤ ticks) × ((ticks -ℤ other) ≤ℤ span)

fits_by : (span ticks : ℤ) (value : Option ℤ) (keys others : List Key) → AllByRecursion (λ (key : Key). IsUnits key.value) (with_key ticks value others) → AllByRecursion (λ (other : Key). MayStand span ticks other.ticks) keys → Fits span keys ticks value
fits_by span ticks None keys others units all = tt
fits_by span ticks (Some value) keys others units all = (units.0, all)

-- the reading of the next row may come into the window
pub next_fits : (col : ℕ) (span t : ℤ) (rows : List RowView) (n : ℕ) (row : RowView) → RisesFrom t rows → AllByRecursion (λ (key : Key). IsUnits key.value) (keys_in col rows) → IsAt rows n row → (row.ticks -ℤ t) ≤ℤ span
    → Fits span (keys_in col (take n rows)) row.ticks (reading_in col row.readings)
next_fits col span t rows n row rise units at near =
    let front = take n rows in
    let back = drop (n + 1) rows in
    let whole : rows ≡ front ++ row ∷ back = sym (take-append-drop n rows) ∙ ap (λ (rs : List RowView). front ++ rs) at.back in
    let R : List RowView → Type 0 = λ rs. RisesFrom t rs in
    let U : List RowView → Type 0 = λ rs. AllByRecursion (λ (key : Key). IsUnits key.value) (keys_in col rs) in
    let A : List Key → Type 0 = λ keys. AllByRecursion (λ (key : Key). IsUnits key.value) keys in
    let parts = all_of_append (λ (key : Key). IsUnits key.value) (keys_in col front) (keys_in col (row ∷ back)) (subst A (keys-append col front (row ∷ back)) (subst U whole units)) in
    fits_by span row.ticks (reading_in col row.readings) (keys_in col front) (keys_in col back) parts.1
    (keys_all (MayStand span row.ticks) col front
    (all_weaker (IsBetween t row.ticks) (λ (r : RowView). MayStand span row.ticks r.ticks) (λ r h. (h.1, not_further span t r.ticks row.ticks h.0 near)) front
    (all_between t front row back (subst R whole rise))))

-- and it is among the keys then
pub next_keys : (col : ℕ) (rows : List RowView) (n : ℕ) (row : RowView) (keys : List Key) → IsAt rows n row → keys ≡ keys_in col (take n rows) → keys ++ with_key row.ticks (reading_in col row.readings) [] ≡ keys_in col (take (n + 1) rows)
next_keys col rows n row keys at e =
    ap (λ (ks : List Key). ks ++ with_key row.ticks (reading_in col row.readings) []) e
    ∙ sym (keys-append col (take n rows) (row ∷ []))
    ∙ ap (keys_in col) (sym at.front)

pub next_near : (span t : ℤ) (rows : List RowView) (n : ℕ) (row : RowView) → IsAt rows n row → (row.ticks -ℤ t) ≤ℤ span → AllByRecursion (IsNear span t) (take n rows) → AllByRecursion (IsNear span t) (take (n + 1) rows)
next_near span t rows n row at near all =
    let A : List RowView → Type 0 = λ rs. AllByRecursion (IsNear span t) rs in
    subst A (sym at.front) (all_push (IsNear span t) (take n rows) row all near)

-- the rows from one on that lies beyond the window lie beyond it
pub rest_beyond : (span t : ℤ) (rows : List RowView) (n : ℕ) (row : RowView) → RisesFrom t rows → IsAt rows n row → span <ℤ (row.ticks -ℤ t) → AllByRecursion (IsBeyond span t) (drop n rows)
rest_beyond span t rows n row rise at beyond =
    let front = take n rows in
    let back = drop (n + 1) rows in
    let whole : rows ≡ front ++ row ∷ back = sym (take-append-drop n rows) ∙ ap (λ (rs : List RowView). front ++ rs) at.back in
    let R : List RowView → Type 0 = λ rs. RisesFrom t rs in
    let A : List RowView → Type 0 = λ rs. AllByRecursion (IsBeyond span t) rs in
    let later = all_later row.ticks back (rises_back t front row back (subst R whole rise)) in
    subst A (sym at.back) (beyond, all_weaker (λ (r : RowView). row.ticks <ℤ r.ticks) (IsBeyond span t) (λ r h. further span t row.ticks r.ticks beyond h) back later)

pub none_beyond : (span t : ℤ) (rows : List RowView) (n : ℕ) → length rows ≤ n → AllByRecursion (IsBeyond span t) (drop n rows)
none_beyond span t rows n h =
    let A : List RowView → Type 0 = λ rs. AllByRecursion (IsBeyond span t) rs in
    subst A (sym (drop_all n rows h)) tt

-- ---- as the code has it

pub read_past : (P : ℤ → ℤ → ℤ → Type 0) (s b n : ℤ) → FitsSigned w64 s → FitsSigned w64 b → FitsSigned w64 n → P (to_z w64 (of_z w64 s)) (to_z w64 (of_z w64 b)) (to_z w64 (of_z w64 n)) → P s b n
read_past P s b n f g h p =
    let S : ℤ → Type 0 = λ z. P z (to_z w64 (of_z w64 b)) (to_z w64 (of_z w64 n)) in
    let B : ℤ → Type 0 = λ z. P s z (to_z w64 (of_z w64 n)) in
    let N : ℤ → Type 0 = λ z. P s b z in
    subst N (to_z-of_z w64 n h) (subst B (to_z-of_z w64 b g) (subst S (to_z-of_z w64 s f) p))

write_past : (s b n : ℤ) → FitsSigned w64 s → FitsSigned w64 b → FitsSigned w64 n → s <ℤ (n -ℤ b) → to_z w64 (of_z w64 s) <ℤ (to_z w64 (of_z w64 n) -ℤ to_z w64 (of_z w64 b))
write_past s b n f g h p =
    let S : ℤ → Type 0 = λ z. z <ℤ (to_z w64 (of_z w64 n) -ℤ to_z w64 (of_z w64 b)) in
    let B : ℤ → Type 0 = λ z. s <ℤ (to_z w64 (of_z w64 n) -ℤ z) in
    let N : ℤ → Type 0 = λ z. s <ℤ (z -ℤ b) in
    subst S (sym (to_z-of_z w64 s f)) (subst B (sym (to_z-of_z w64 b g)) (subst N (sym (to_z-of_z w64 n h)) p))

pub is_past : (s b n : ℤ) → FitsSigned w64 s → FitsSigned w64 b → FitsSigned w64 n → to_z w64 (of_z w64 s) <ℤ (to_z w64 (of_z w64 n) -ℤ to_z w64 (of_z w64 b)) → s <ℤ (n -ℤ b)
is_past s b n f g h p = read_past (λ x y z. x <ℤ (z -ℤ y)) s b n f g h p

false_true : false ≡ true → ⊥
false_true e = cc

pub not_past : (s b n : ℤ) → FitsSigned w64 s → FitsSigned w64 b → FitsSigned w64 n → (to_z w64 (of_z w64 s) <ℤ (to_z w64 (of_z w64 n) -ℤ to_z w64 (of_z w64 b)) → false ≡ true) → (n -ℤ b) ≤ℤ s
not_past s b n f g h denied = by_lt_z s (n -ℤ b) (λ less. absurd (false_true (denied (write_past s b n f g h less)))) (λ more. more)

-- ---- the track, one row further

front_short : (n : ℕ) (rows : List RowView) → length (take n rows) ≤ n
front_short zero rows = omega arith
front_short (suc n) [] = omega arith
front_short (suc n) (row ∷ rows) = omega (arith, front_short n rows)

pub front_few : (col n : ℕ) (rows : List RowView) → length (keys_in col (take n rows)) ≤ n
front_few col n rows = omega (arith, few_keys col (take n rows), front_short n rows)

pub looked_next : (col : ℕ) (t u : ℤ) (track new : Track) (rows : List RowView) (row : RowView) → u ≡ t → new.span ≡ track.span → new.next ≡ track.next + 1
    → new.sensor ≡ record track.sensor { keys = track.sensor.keys ++ with_key row.ticks (reading_in col row.readings) [] }
    → IsLooking col t track rows → IsAt rows track.next row → (row.ticks -ℤ t) ≤ℤ track.span → IsLooking col u new rows
looked_next col t u track new rows row e span next sensor looking at near =
    let L : ℤ → Type 0 = λ z. IsLooking col z new rows in
    let A : ℕ → Type 0 = λ n. AllByRecursion (IsNear track.span t) (take n rows) in
    let S : ℤ → Type 0 = λ s. AllByRecursion (IsNear s t) (take new.next rows) in
    subst L (sym e) (record {
      span_is = span ∙ looking.span_is ∙ sym (ap (λ (s : SensorView). s.speed.span) sensor);
      within = omega (arith, next, at.below);
      keys_are = ap (λ (s : SensorView). s.keys) sensor ∙ next_keys col rows track.next row track.sensor.keys at looking.keys_are ∙ ap (λ (n : ℕ). keys_in col (take n rows)) (sym next);
      near = subst S (sym span) (subst A (sym next) (next_near track.span t rows track.next row at near looking.near));
    })

pub like_next : (old track new : Track) (keys : List Key) → IsLike old track → new.col ≡ track.col → new.span ≡ track.span → new.seen ≡ track.seen → new.sensor ≡ record track.sensor { keys = keys } → IsLike old new
like_next old track new keys like col span seen sensor = record {
  col = col ∙ like.col;
  span = span ∙ like.span;
  seen = seen ∙ like.seen;
  speed = ap (λ (s : SensorView). s.speed) sensor ∙ like.speed;
  room = ap (λ (s : SensorView). s.room) sensor ∙ like.room;
  last = ap (λ (s : SensorView). s.last) sensor ∙ like.last;
}
