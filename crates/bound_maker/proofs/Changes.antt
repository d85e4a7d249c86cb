-- The change of a series, as loops over rows and over readings add it up.
use Rattle.std.proofs.Common.{◌≡◌, ℕ, zero, suc, ◌+◌, ◌-◌, ◌*◌, ◌<◌, ◌≤◌, ℤ, pos, ◌-ℤ◌, List, [], ◌∷◌, ◌++◌, length, map, drop, get_or, Option, Some, None, ◌⊎◌, inl, inr, refl, sym, ap, ◌∙◌, zero-add, arith}
use Rattle.std.specs.Prelude.{unsigned_abs, slice_get, Contains}
use Rattle.std.specs.List.{AllByRecursion, flat_map}
use Rattle.std.proofs.lemmas.List.{drop_all, drop_more, length-append, length-drop, length-map}
use Rattle.words.proofs.Lists.{all_append, all_at}
use Rattle.screen_model.specs.Cost.{weighted_change}
use Rattle.screen_model.specs.declared.place.Place.{Place}
use Rattle.series_rows.specs.declared.cell.RowReading.{RowReading}
use Rattle.series_rows.specs.Row.{RowView, columns}
use Rattle.series_csv.proofs.Indexing.{none_in_header, none_in_no_row}
use Rattle.series_csv.specs.File.{TableView}
use Rattle.series_csv.specs.Readings.{places, row_at, places_from, places_in, values_in, values_of}
use Rattle.bound_maker.specs.Bounds.{Ruled}
use Rattle.bound_maker.specs.Costs.{weight_of, weights_at, weights_in}
use Rattle.bound_maker.proofs.Found.{contains_at}

-- what a list gives past its end
abbrev pub no_reading : RowReading
no_reading = record { col = 0; value = pos 0 }

abbrev pub value_of : RowReading → ℤ
value_of reading = reading.value

-- what a series changes in readings that are weighed so
abbrev pub changed : (RowReading → ℕ) → List RowReading → List ℤ → ℕ
changed weigh readings series = weighted_change (map weigh readings) (map (λ (reading : RowReading). reading.value) readings) series

pub changed_more : (weigh : RowReading → ℕ) (readings : List RowReading) (series : List ℤ) (i : ℕ) → i < length readings → i < length series
    → changed weigh (drop i readings) (drop i series)
    ≡ weigh (get_or readings i no_reading) * unsigned_abs (get_or series i (pos 0) -ℤ (get_or readings i no_reading).value) + changed weigh (drop (i + 1) readings) (drop (i + 1) series)
changed_more weigh readings series i h within =
    ap (λ rs. changed weigh rs (drop i series)) (drop_more readings i no_reading h)
    ∙ ap (λ xs. changed weigh (get_or readings i no_reading ∷ drop (i + 1) readings) xs) (drop_more series i (pos 0) within)

-- one reading more
pub changed_step : (weigh : RowReading → ℕ) (readings : List RowReading) (series : List ℤ) (i weight product old total : ℕ) → i < length readings → i < length series
    → weight ≡ weigh (get_or readings i no_reading) → product ≡ weight * unsigned_abs (get_or series i (pos 0) -ℤ (get_or readings i no_reading).value)
    → old + changed weigh (drop i readings) (drop i series) ≡ total → (old + product) + changed weigh (drop (i + 1) readings) (drop (i + 1) series) ≡ total
changed_step weigh readings series i weight product old total h within is_weight is_product so_far =
    let more = changed_more weigh readings series i h within in
    let same : weight * unsigned_abs (get_or series i (pos 0) -ℤ (get_or readings i no_reading).value) ≡ weigh (get_or readings i no_reading) * unsigned_abs (get_or series i (pos 0) -ℤ (get_or readings i no_reading).value) =
    ap (λ (w : ℕ). w * unsigned_abs (get_or series i (pos 0) -ℤ (get_or readings i no_reading).value)) is_weight in
    omega (arith, more, same, is_product, so_far)

-- past the end nothing is changed
pub changed_all : (weigh : RowReading → ℕ) (readings : List RowReading) (series : List ℤ) (i old total : ℕ) → length readings ≤ i → old + changed weigh (drop i readings) (drop i series) ≡ total → old ≡ total
changed_all weigh readings series i old total past so_far =
    let none : ◌≡◌ {A = ℕ} (changed weigh (drop i readings) (drop i series)) 0 = ap (λ (rs : List RowReading). changed weigh rs (drop i series)) (drop_all i readings past) in
    omega (arith, none, so_far)

-- lists that are joined
pub changed_append : (ws : List ℕ) (vs : List ℤ) (more : List ℕ) (others : List ℤ) (xs : List ℤ) → length ws ≡ length vs → length ws ≤ length xs
    → weighted_change (ws ++ more) (vs ++ others) xs ≡ weighted_change ws vs xs + weighted_change more others (drop (length ws) xs)
changed_append [] [] more others xs same long = sym (zero-add (weighted_change more others xs))
changed_append [] (v ∷ vs) more others xs same long = absurd (omega (arith, same))
changed_append (w ∷ ws) [] more others xs same long = absurd (omega (arith, same))
changed_append (w ∷ ws) (v ∷ vs) more others [] same long = absurd (omega (arith, long))
changed_append (w ∷ ws) (v ∷ vs) more others (x ∷ xs) same long =
    omega (arith, changed_append ws vs more others xs (omega (arith, same)) (omega (arith, long)))

-- how a row's readings are weighed
abbrev pub weigh : List Ruled → ℤ → RowReading → ℕ
weigh ruled ticks reading = weight_of ruled reading.col ticks

-- what a series changes in rows
abbrev pub changed_in : List Ruled → List RowView → List ℤ → ℕ
changed_in ruled rows series = weighted_change (flat_map (weights_in ruled) rows) (values_of rows) series

pub rows_more : (ruled : List Ruled) (rows : List RowView) (i : ℕ) (row : RowView) (rest : List ℤ) → i < length rows → row ≡ get_or rows i row → length row.readings ≤ length rest
    → changed_in ruled (drop i rows) rest ≡ changed (weigh ruled row.ticks) row.readings rest + changed_in ruled (drop (i + 1) rows) (drop (length row.readings) rest)
rows_more ruled rows i row rest h is long =
    let later = drop (i + 1) rows in
    let weights_long : length (weights_in ruled row) ≡ length row.readings = length-map row.readings (weigh ruled row.ticks) in
    let values_long : length (values_in row) ≡ length row.readings = length-map row.readings (λ (reading : RowReading). reading.value) in
    ap (λ rs. changed_in ruled rs rest) (drop_more rows i row h)
    ∙ (ap (λ r. changed_in ruled (r ∷ later) rest) (sym is)
    ∙ (changed_append (weights_in ruled row) (values_in row) (flat_map (weights_in ruled) later) (values_of later) rest (omega (arith, weights_long, values_long)) (omega (arith, weights_long, long))
    ∙ ap (λ n. weighted_change (weights_in ruled row) (values_in row) rest + changed_in ruled later (drop n rest)) weights_long))

pub values_more : (rows : List RowView) (i : ℕ) (row : RowView) → i < length rows → row ≡ get_or rows i row → length (values_of (drop i rows)) ≡ length row.readings + length (values_of (drop (i + 1) rows))
values_more rows i row h is =
    let later = values_of (drop (i + 1) rows) in
    let values_long : length (values_in row) ≡ length row.readings = length-map row.readings (λ (reading : RowReading). reading.value) in
    ap (λ rs. length (values_of rs)) (drop_more rows i row h)
    ∙ (ap (λ (r : RowView). length (values_in r ++ later)) (sym is)
    ∙ omega (arith, length-append (values_in row) later, values_long))

-- one row more
pub record AreChanged (ruled : List Ruled) (rows : List RowView) (i : ℕ) (rest : List ℤ) (change total : ℕ) : Type 0 where
  pub value : change + changed_in ruled (drop i rows) rest ≡ total
  pub long : length rest ≡ length (values_of (drop i rows))

pub row_fits : (ruled : List Ruled) (rows : List RowView) (i : ℕ) (row : RowView) (rest : List ℤ) → i < length rows → row ≡ get_or rows i row → length rest ≡ length (values_of (drop i rows)) → length row.readings ≤ length rest
row_fits ruled rows i row rest h is long = let more = values_more rows i row h is in omega (arith, more, long)

pub rows_step : (ruled : List Ruled) (rows : List RowView) (i : ℕ) (row : RowView) (rest later : List ℤ) (old part total : ℕ) → i < length rows → row ≡ get_or rows i row → later ≡ drop (length row.readings) rest
    → part ≡ weighted_change (weights_in ruled row) (values_in row) rest → AreChanged ruled rows i rest old total → AreChanged ruled rows (i + 1) later (old + part) total
rows_step ruled rows i row rest later old part total h is is_later is_part so_far =
    let fits = row_fits ruled rows i row rest h is so_far.long in
    let more = rows_more ruled rows i row rest h is fits in
    let values = values_more rows i row h is in
    let after : changed_in ruled (drop (i + 1) rows) later ≡ changed_in ruled (drop (i + 1) rows) (drop (length row.readings) rest) = ap (λ (xs : List ℤ). changed_in ruled (drop (i + 1) rows) xs) is_later in
    let long : length later ≡ length rest - length row.readings = ap (λ (xs : List ℤ). length xs) is_later ∙ length-drop (length row.readings) rest in
    let value = so_far.value in
    let whole = so_far.long in
    record {
      value = omega (arith, more, after, is_part, value);
      long = omega (arith, long, values, whole, fits);
    }

-- ---- the weight of the reading at a place

none_is_some : {A : Type 0} (x : A) → ◌≡◌ {A = Option A} None (Some x) → ⊥
none_is_some x e = cc

columns_above : (least n : ℕ) (cols : List ℕ) → least ≤ n → AllByRecursion (λ (q : Place). least ≤ q.row) (places_in n cols)
columns_above least n [] h = tt
columns_above least n (col ∷ cols) h = (h, columns_above least n cols h)

rows_above : (least n : ℕ) (rows : List RowView) → least ≤ n → AllByRecursion (λ (q : Place). least ≤ q.row) (places_from n rows)
rows_above least n [] h = tt
rows_above least n (row ∷ rows) h =
    all_append (λ (q : Place). least ≤ q.row) (places_in n (columns row.readings)) (places_from (suc n) rows) (columns_above least n (columns row.readings) h) (rows_above least (suc n) rows (omega (arith, h)))

-- no place stands in a row before the first
row_least : (n : ℕ) (rows : List RowView) (i : ℕ) (p : Place) → slice_get (places_from n rows) i ≡ Some p → n ≤ p.row
row_least n rows i p found = let has = contains_at (places_from n rows) i p found in all_at (λ (q : Place). n ≤ q.row) (places_from n rows) p (rows_above n n rows (omega arith)) has

-- a place and a weight that stand side by side
in_this_row : (ruled : List Ruled) (n : ℕ) (ticks : ℤ) (readings : List RowReading) (i : ℕ) (p : Place) → slice_get (places_in n (columns readings)) i ≡ Some p
    → (p.row ≡ n) × (slice_get (weights_at ruled ticks readings) i ≡ Some (weight_of ruled p.col ticks))
in_this_row ruled n ticks [] i p found = absurd (none_is_some p found)
in_this_row ruled n ticks (reading ∷ readings) zero p found =
    let same : record { row = n; col = reading.col } ≡ p = cc in
    (sym (ap (λ (q : Place). q.row) same), ap (λ (q : Place). Some (weight_of ruled q.col ticks)) same)
in_this_row ruled n ticks (reading ∷ readings) (suc i) p found = in_this_row ruled n ticks readings i p found

-- an element of joined lists stands in the first or in the second
side_step : {A : Type 0} (xs ys : List A) (i : ℕ) (x : A) → (slice_get xs i ≡ Some x) ⊎ ((j : ℕ) × (i ≡ length xs + j) × (slice_get ys j ≡ Some x)) → (slice_get xs i ≡ Some x) ⊎ ((j : ℕ) × (suc i ≡ suc (length xs) + j) × (slice_get ys j ≡ Some x))
side_step xs ys i x (inl here) = inl here
side_step xs ys i x (inr later) = inr (later.0, omega (arith, later.1), later.2)

pub either_side : {A : Type 0} (xs ys : List A) (i : ℕ) (x : A) → slice_get (xs ++ ys) i ≡ Some x → (slice_get xs i ≡ Some x) ⊎ ((j : ℕ) × (i ≡ length xs + j) × (slice_get ys j ≡ Some x))
either_side [] ys i x found = inr (i, sym (zero-add i), found)
either_side (y ∷ xs) ys zero x found = inl found
either_side (y ∷ xs) ys (suc i) x found = side_step xs ys i x (either_side xs ys i x found)

on_left : {A : Type 0} (xs ys : List A) (i : ℕ) (x : A) → slice_get xs i ≡ Some x → slice_get (xs ++ ys) i ≡ Some x
on_left [] ys i x found = absurd (none_is_some x found)
on_left (y ∷ xs) ys zero x found = found
on_left (y ∷ xs) ys (suc i) x found = on_left xs ys i x found

pub on_right : {A : Type 0} (xs ys : List A) (j : ℕ) → slice_get (xs ++ ys) (length xs + j) ≡ slice_get ys j
on_right [] ys j = ap (slice_get ys) (zero-add j)
on_right (y ∷ xs) ys j = let next : suc (length xs) + j ≡ suc (length xs + j) = omega arith in ap (slice_get (y ∷ (xs ++ ys))) next ∙ on_right xs ys j

weight_side : (ruled : List Ruled) (n : ℕ) (first : RowView) (rows : List RowView) (i k : ℕ) (p : Place) (row : RowView) → p.row ≡ n + k → slice_get (first ∷ rows) k ≡ Some row
    → ((j m : ℕ) → slice_get (places_from (suc n) rows) j ≡ Some p → p.row ≡ suc n + m → slice_get rows m ≡ Some row → slice_get (flat_map (weights_in ruled) rows) j ≡ Some (weight_of ruled p.col row.ticks))
    → (slice_get (places_in n (columns first.readings)) i ≡ Some p) ⊎ ((j : ℕ) × (i ≡ length (places_in n (columns first.readings)) + j) × (slice_get (places_from (suc n) rows) j ≡ Some p))
    → slice_get (weights_in ruled first ++ flat_map (weights_in ruled) rows) i ≡ Some (weight_of ruled p.col row.ticks)
weight_side ruled n first rows i zero p row number at rest (inl here) =
    let same : first ≡ row = cc in
    let found = in_this_row ruled n first.ticks first.readings i p here in
    on_left (weights_in ruled first) (flat_map (weights_in ruled) rows) i (weight_of ruled p.col row.ticks) (found.1 ∙ ap (λ (r : RowView). Some (weight_of ruled p.col r.ticks)) same)
weight_side ruled n first rows i (suc k) p row number at rest (inl here) =
    let found = in_this_row ruled n first.ticks first.readings i p here in absurd (omega (arith, number, found.0))
weight_side ruled n first rows i zero p row number at rest (inr later) =
    let least = row_least (suc n) rows later.0 p later.2 in absurd (omega (arith, number, least))
weight_side ruled n first rows i (suc k) p row number at rest (inr later) =
    let next : p.row ≡ suc n + k = omega (arith, number) in
    let long : length (places_in n (columns first.readings)) ≡ length (weights_in ruled first) =
    length-map (columns first.readings) (λ (col : ℕ). record { row = n; col = col }) ∙ (length-map first.readings (λ (reading : RowReading). reading.col) ∙ sym (length-map first.readings (weigh ruled first.ticks))) in
    let place : i ≡ length (weights_in ruled first) + later.0 = omega (arith, later.1, long) in
    ap (slice_get (weights_in ruled first ++ flat_map (weights_in ruled) rows)) place
    ∙ (on_right (weights_in ruled first) (flat_map (weights_in ruled) rows) later.0 ∙ rest later.0 k later.2 next at)

pub weight_at : (ruled : List Ruled) (n : ℕ) (rows : List RowView) (i k : ℕ) (p : Place) (row : RowView) → slice_get (places_from n rows) i ≡ Some p → p.row ≡ n + k → slice_get rows k ≡ Some row
    → slice_get (flat_map (weights_in ruled) rows) i ≡ Some (weight_of ruled p.col row.ticks)
weight_at ruled n [] i k p row found number at = absurd (none_is_some p found)
weight_at ruled n (first ∷ rows) i k p row found number at =
    weight_side ruled n first rows i k p row number at (λ j m. weight_at ruled (suc n) rows j m p row) (either_side (places_in n (columns first.readings)) (places_from (suc n) rows) i p found)

-- ---- as the code finds it

no_such_row : (table : TableView) (r : ℕ) (p : Place) → r ≡ p.row → Contains (places table) p → None ≡ row_at table r → ⊥
no_such_row table zero p is has none = none_in_header table.rows p (omega (arith, is)) has
no_such_row table (suc r) p is has none = none_in_no_row table.rows p r (sym is) (sym none) has

-- a reading has a row
pub has_row : (table : TableView) (i : ℕ) (p : Place) → slice_get (places table) i ≡ Some p → None ≡ row_at table p.row → ⊥
has_row table i p found none = no_such_row table p.row p refl (contains_at (places table) i p found) none

weight_in_row : (ruled : List Ruled) (table : TableView) (i r : ℕ) (p : Place) (row : RowView) → r ≡ p.row → slice_get (places table) i ≡ Some p → Some row ≡ row_at table r
    → slice_get (flat_map (weights_in ruled) table.rows) i ≡ Some (weight_of ruled p.col row.ticks)
weight_in_row ruled table i zero p row is found at = absurd (none_is_some row (sym at))
weight_in_row ruled table i (suc r) p row is found at = weight_at ruled 1 table.rows i r p row found (omega (arith, is)) (sym at)

pub weight_there : (ruled : List Ruled) (table : TableView) (i : ℕ) (p : Place) (row : RowView) (found : ℕ) → slice_get (places table) i ≡ Some p → Some row ≡ row_at table p.row → found ≡ weight_of ruled p.col row.ticks
    → slice_get (flat_map (weights_in ruled) table.rows) i ≡ Some found
weight_there ruled table i p row found at is_row is = weight_in_row ruled table i p.row p row refl at is_row ∙ ap Some (sym is)
