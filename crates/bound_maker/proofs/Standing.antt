-- A reading of a column stands at one of the places of the rows.
use Rattle.std.proofs.Common.{◌≡◌, ℕ, suc, ℤ, Bool, true, false, cond, List, [], ◌∷◌, ◌++◌, map, Option, Some, None, refl, subst}
use Rattle.std.specs.Prelude.{Contains, ◌==◌, option_map}
use Rattle.std.specs.List.{AllByRecursion, find}
use Rattle.std.proofs.lemmas.Bool.{eqb-true}
use Rattle.std.proofs.lemmas.List.Elements.{Contains-append_left, Contains-append_right}
use Rattle.words.proofs.Lists.{all_append, contains_first, contains_later}
use Rattle.screen_model.specs.declared.place.Place.{Place}
use Rattle.pair_bounds.specs.Pairs.{place_in}
use Rattle.series_rows.specs.declared.cell.RowReading.{RowReading}
use Rattle.series_rows.specs.Row.{RowView, columns}
use Rattle.series_csv.specs.Readings.{places_from, places_in}
use Rattle.bound_maker.specs.declared.reading.Reading.{Reading}
use Rattle.bound_maker.specs.Readings.{all_pairs, before_later, neighbours, reading_in, readings_from, value_in}

none_is_some : {A : Type 0} (x : A) → ◌≡◌ {A = Option A} None (Some x) → ⊥
none_is_some x e = cc

-- the place in a row and a column
abbrev pub place_at : ℕ → ℕ → Place
place_at row col = record { row = row; col = col }

-- all places of the first list are among those of the second
pub record AreAmong (part whole : List Place) : Type 0 where
  pub each : (place : Place) → Contains part place → Contains whole place

pub among_itself : (places : List Place) → AreAmong places places
among_itself places = record { each = λ place has. has }

pub first_among : (xs ys whole : List Place) → AreAmong (xs ++ ys) whole → AreAmong xs whole
first_among xs ys whole among = record { each = λ place has. among.each place (Contains-append_left xs ys place has) }

pub later_among : (xs ys whole : List Place) → AreAmong (xs ++ ys) whole → AreAmong ys whole
later_among xs ys whole among = record { each = λ place has. among.each place (Contains-append_right xs ys place has) }

-- ---- the reading of a row

read_step : (n col : ℕ) (r : RowReading) (places : List Place) (t : Bool) (rest : Option RowReading) (value : ℤ) → (r.col == col) ≡ t
    → (option_map (λ (x : RowReading). x.value) rest ≡ Some value → Contains places (place_at n col))
    → option_map (λ (x : RowReading). x.value) (cond t (Some r) rest) ≡ Some value → Contains (place_at n r.col ∷ places) (place_at n col)
read_step n col r places true rest value test later is =
    subst (λ (c : ℕ). Contains (place_at n r.col ∷ places) (place_at n c)) (eqb-true r.col col test) (contains_first (place_at n r.col) places)
read_step n col r places false rest value test later is = contains_later (place_at n r.col) places (place_at n col) (later is)

read_at : (n col : ℕ) (readings : List RowReading) (value : ℤ) → value_in col readings ≡ Some value → Contains (places_in n (columns readings)) (place_at n col)
read_at n col [] value is = absurd (none_is_some value is)
read_at n col (r ∷ readings) value is =
    read_step n col r (places_in n (columns readings)) (r.col == col) (find (λ (x : RowReading). x.col == col) readings) value refl (λ found. read_at n col readings value found) is

pub row_read_at : (n col : ℕ) (row : RowView) (rows : List RowView) (whole : List Place) (value : ℤ) → AreAmong (places_from n (row ∷ rows)) whole → reading_in col row ≡ Some value → Contains whole (place_at n col)
row_read_at n col row rows whole value among is =
    (first_among (places_in n (columns row.readings)) (places_from (suc n) rows) whole among).each (place_at n col) (read_at n col row.readings value is)

-- ---- the readings of a column

-- the reading stands at one of the places
abbrev pub Stands : List Place → ℕ → Reading → Type 0
Stands places col reading = Contains places (place_in col reading.stamp)

stand_step : (n col : ℕ) (row : RowView) (whole : List Place) (o : Option ℤ) (later : List Reading) → ((value : ℤ) → o ≡ Some value → Contains whole (place_at n col))
    → AllByRecursion (Stands whole col) later → AllByRecursion (Stands whole col) (before_later n row o later)
stand_step n col row whole (Some value) later here rest = (here value refl, rest)
stand_step n col row whole None later here rest = rest

pub all_stand : (n col : ℕ) (rows : List RowView) (whole : List Place) → AreAmong (places_from n rows) whole → AllByRecursion (Stands whole col) (readings_from n col rows)
all_stand n col [] whole among = tt
all_stand n col (row ∷ rows) whole among =
    stand_step n col row whole (reading_in col row) (readings_from (suc n) col rows) (λ value is. row_read_at n col row rows whole value among is)
    (all_stand (suc n) col rows whole (later_among (places_in n (columns row.readings)) (places_from (suc n) rows) whole among))

-- ---- pairs

-- what holds of both
abbrev pub BothAre : {A : Type 0} → (A → Type 0) → A × A → Type 0
BothAre P pair = P pair.0 × P pair.1

pub with_each : {A : Type 0} (P : A → Type 0) (x : A) (ys : List A) → P x → AllByRecursion P ys → AllByRecursion (BothAre P) (map (λ y. (x, y)) ys)
with_each P x [] first all = tt
with_each P x (y ∷ ys) first all = ((first, all.0), with_each P x ys first all.1)

pub pairs_are : {A : Type 0} (P : A → Type 0) (xs : List A) → AllByRecursion P xs → AllByRecursion (BothAre P) (all_pairs xs)
pairs_are P [] all = tt
pairs_are P (x ∷ xs) all = all_append (BothAre P) (map (λ y. (x, y)) xs) (all_pairs xs) (with_each P x xs all.0 all.1) (pairs_are P xs all.1)

pub neighbours_are : {A : Type 0} (P : A → Type 0) (xs : List A) → AllByRecursion P xs → AllByRecursion (BothAre P) (neighbours xs)
neighbours_are P [] all = tt
neighbours_are P (x ∷ []) all = tt
neighbours_are P (x ∷ y ∷ xs) all = ((all.0, all.1.0), neighbours_are P (y ∷ xs) all.1)
