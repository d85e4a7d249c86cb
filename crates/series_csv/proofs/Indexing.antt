-- Where the readings of rows stand.
use Rattle.std.proofs.Common.{◌≡◌, ◌≢◌, ◌⊎◌, inl, inr, ℕ, zero, suc, ◌+◌, ◌<◌, ◌≤◌, List, [], ◌∷◌, ◌++◌, length, map, take, get_or, pos, Option, Some, None, option_map, refl, sym, ap, ◌∙◌, subst, add-zero, zero-add, append_assoc, length-append, arith}
use Rattle.std.specs.Prelude.{Contains, slice_get}
use Rattle.std.specs.List.{AllByRecursion}
use Rattle.std.proofs.lemmas.List.{append-nil, map-append, length-map, take_more}
use Rattle.std.proofs.lemmas.Option.{slice_get-map, slice_get-get_or, slice_get_within}
use Rattle.std.proofs.lemmas.List.Elements.{Contains-append_cases}
use Rattle.words.specs.Lists.{Distinct}
use Rattle.words.proofs.Lists.{all_at, all_map, all_weaker, all_append, all_push, contains_none, contains_cases, contains_first, contains_later}
use Rattle.screen_model.specs.declared.place.Place.{Place}
use Rattle.series_rows.specs.Row.{RowView, columns, Rise}
use Rattle.series_rows.specs.declared.cell.RowReading.{RowReading}
use Rattle.screen_model.specs.declared.limits.TheConstants.{MOST_ROWS, MOST_READINGS}
use Rattle.series_csv.specs.Readings.{places_in, places_from, values_in, values_of, IsSmall, IsBefore, AreInOrder, TimesRise}
use Rattle.series_csv.specs.Indexed.{starts_from, HasRising, AreIndexed}
use Rattle.series_csv.specs.declared.rows.Rows.{Rows}

-- what a list of readings gives past its end
abbrev pub no_reading : RowReading
no_reading = record { col = 0; value = pos 0 }

-- ---- a row at the end

pub places_from-push : (n : ℕ) (rows : List RowView) (row : RowView) → places_from n (rows ++ row ∷ []) ≡ places_from n rows ++ places_in (n + length rows) (columns row.readings)
places_from-push n [] row = append-nil (places_in n (columns row.readings)) ∙ ap (λ m. places_in m (columns row.readings)) (sym (add-zero n))
places_from-push n (first ∷ rows) row =
    let here = places_in n (columns first.readings) in
    let number : suc n + length rows ≡ n + suc (length rows) = omega arith in
    ap (λ ps. here ++ ps) (places_from-push (suc n) rows row ∙ ap (λ m. places_from (suc n) rows ++ places_in m (columns row.readings)) number)
    ∙ sym (append_assoc here (places_from (suc n) rows) (places_in (n + suc (length rows)) (columns row.readings)))

pub values_of-push : (rows : List RowView) (row : RowView) → values_of (rows ++ row ∷ []) ≡ values_of rows ++ values_in row
values_of-push [] row = append-nil (values_in row)
values_of-push (first ∷ rows) row = ap (λ vs. values_in first ++ vs) (values_of-push rows row) ∙ sym (append_assoc (values_in first) (values_of rows) (values_in row))

pub length-values_in : (row : RowView) → length (values_in row) ≡ length row.readings
length-values_in row = length-map row.readings (λ (reading : RowReading). reading.value)

pub length-values_of : (row : RowView) (rows : List RowView) → length (values_of (row ∷ rows)) ≡ length row.readings + length (values_of rows)
length-values_of row rows = length-append (values_in row) (values_of rows) ∙ ap (λ n. n + length (values_of rows)) (length-values_in row)

pub starts_from-push : (n : ℕ) (rows : List RowView) (row : RowView) → starts_from n (rows ++ row ∷ []) ≡ starts_from n rows ++ (n + length (values_of rows)) ∷ []
starts_from-push n [] row = ap (λ m. m ∷ []) (sym (add-zero n))
starts_from-push n (first ∷ rows) row =
    let number : (n + length first.readings) + length (values_of rows) ≡ n + length (values_of (first ∷ rows)) = omega (arith, length-values_of first rows) in
    ap (λ ss. n ∷ ss) (starts_from-push (n + length first.readings) rows row ∙ ap (λ m. starts_from (n + length first.readings) rows ++ m ∷ []) number)

-- a row was added with its places, its values and its start
pub record IsPushed (old new : Rows) (row : RowView) : Type 0 where
  pub rows : new.rows ≡ old.rows ++ row ∷ []
  pub places : new.places ≡ old.places ++ places_in (length old.rows + 1) (columns row.readings)
  pub values : new.values ≡ old.values ++ values_in row
  pub starts : new.starts ≡ old.starts ++ length old.values ∷ []

pub pushed : (old new : Rows) (row : RowView) → AreIndexed old → IsPushed old new row → HasRising row → length (old.rows ++ row ∷ []) ≤ MOST_ROWS → length (values_of (old.rows ++ row ∷ [])) ≤ MOST_READINGS → AllByRecursion IsSmall (values_of (old.rows ++ row ∷ [])) → TimesRise (old.rows ++ row ∷ []) → AreIndexed new
pushed old new row indexed push rises few few_readings small times =
    let number : length old.rows + 1 ≡ 1 + length old.rows = omega arith in
    let count : length old.values ≡ 0 + length (values_of old.rows) = omega (arith, ap length indexed.values_are) in
    let cols = columns row.readings in
    record {
      places_are = push.places ∙ (ap (λ ps. ps ++ places_in (length old.rows + 1) cols) indexed.places_are
          ∙ (ap (λ m. places_from 1 old.rows ++ places_in m cols) number ∙ (sym (places_from-push 1 old.rows row) ∙ ap (places_from 1) (sym push.rows))));
      values_are = push.values ∙ (ap (λ vs. vs ++ values_in row) indexed.values_are ∙ (sym (values_of-push old.rows row) ∙ ap values_of (sym push.rows)));
      starts_are = push.starts ∙ (ap (λ ss. ss ++ length old.values ∷ []) indexed.starts_are
          ∙ (ap (λ m. starts_from 0 old.rows ++ m ∷ []) count ∙ (sym (starts_from-push 0 old.rows row) ∙ ap (starts_from 0) (sym push.rows))));
      few = subst (λ rs. length rs ≤ MOST_ROWS) (sym push.rows) few;
      few_readings = subst (λ rs. length (values_of rs) ≤ MOST_READINGS) (sym push.rows) few_readings;
      rising = subst (λ rs. AllByRecursion HasRising rs) (sym push.rows) (all_push HasRising old.rows row indexed.rising rises);
      small = subst (λ rs. AllByRecursion IsSmall (values_of rs)) (sym push.rows) small;
      times = subst (λ rs. TimesRise rs) (sym push.rows) times;
    }

pub get_column : (xs : List RowReading) (i : ℕ) → i < length xs → slice_get (columns xs) i ≡ Some (get_or xs i no_reading).col
get_column xs i within = slice_get-map (λ (reading : RowReading). reading.col) xs i ∙ ap (option_map (λ (reading : RowReading). reading.col)) (slice_get-get_or xs i no_reading within)

-- a reading is in the column
pub in_column : (xs others : List RowReading) (i col : ℕ) → xs ≡ others → i < length xs → ((other : RowReading) → (get_or xs i other).col ≡ col) → slice_get (columns others) i ≡ Some col
in_column xs others i col same within is = subst (λ rs. slice_get (columns rs) i ≡ Some col) same (get_column xs i within ∙ ap Some (is no_reading))

-- none of the readings is in the column
pub no_column : (xs : List RowReading) (col : ℕ) → AllByRecursion (λ (reading : RowReading). reading.col ≢ col) xs → Contains (columns xs) col → ⊥
no_column xs col none has =
    all_at (λ (c : ℕ). c ≢ col) (columns xs) col (all_map (λ (c : ℕ). c ≢ col) (λ (reading : RowReading). reading.col) xs none) has refl

-- there is an element within a list
pub some_within : {A : Type 0} (xs : List A) (i : ℕ) → i < length xs → slice_get xs i ≡ None → ⊥
some_within [] i within none = omega (arith, within)
some_within (x ∷ xs) zero within none = cc
some_within (x ∷ xs) (suc i) within none = some_within xs i (omega (arith, within)) none

pub length-starts_from : (n : ℕ) (rows : List RowView) → length (starts_from n rows) ≡ length rows
length-starts_from n [] = refl
length-starts_from n (row ∷ rows) = ap suc (length-starts_from (n + length row.readings) rows)

-- a row that is there has a start
pub has_start : (rows : List RowView) (r : ℕ) (row : RowView) → slice_get rows r ≡ Some row → slice_get (starts_from 0 rows) r ≡ None → ⊥
has_start rows r row at none =
    some_within (starts_from 0 rows) r (omega (arith, length-starts_from 0 rows, slice_get_within rows r row at)) none

-- one reading more
pub places_in-more : (number : ℕ) (xs : List RowReading) (i : ℕ) → i < length xs → places_in number (columns (take (i + 1) xs)) ≡ places_in number (columns (take i xs)) ++ record { row = number; col = (get_or xs i no_reading).col } ∷ []
places_in-more number xs i within =
    ap (λ rs. places_in number (columns rs)) (take_more xs i no_reading within)
    ∙ (ap (places_in number) (map-append (λ (reading : RowReading). reading.col) (take i xs) (get_or xs i no_reading ∷ []))
    ∙ map-append (λ (col : ℕ). record { row = number; col = col }) (columns (take i xs)) ((get_or xs i no_reading).col ∷ []))

pub values-more : (xs : List RowReading) (i : ℕ) → i < length xs → map (λ (reading : RowReading). reading.value) (take (i + 1) xs) ≡ map (λ (reading : RowReading). reading.value) (take i xs) ++ (get_or xs i no_reading).value ∷ []
values-more xs i within =
    ap (map (λ (reading : RowReading). reading.value)) (take_more xs i no_reading within)
    ∙ map-append (λ (reading : RowReading). reading.value) (take i xs) (get_or xs i no_reading ∷ [])

-- a list to which one element more was pushed
pub pushed_more : {A : Type 0} (new old first more : List A) (x : A) → new ≡ old ++ x ∷ [] → old ≡ first ++ more → new ≡ first ++ (more ++ x ∷ [])
pushed_more new old first more x push is = push ∙ (ap (λ ys. ys ++ x ∷ []) is ∙ append_assoc first more (x ∷ []))

-- ---- a reading by its place

none_is_some : {A : Type 0} (x : A) → ◌≡◌ {A = Option A} None (Some x) → ⊥
none_is_some x e = cc

suc-add : (a b : ℕ) → suc a + b ≡ suc (a + b)
suc-add a b = omega arith

get_on_left : {A : Type 0} (xs ys : List A) (i : ℕ) (x : A) → slice_get xs i ≡ Some x → slice_get (xs ++ ys) i ≡ Some x
get_on_left [] ys i x found = absurd (none_is_some x found)
get_on_left (first ∷ xs) ys zero x found = found
get_on_left (first ∷ xs) ys (suc i) x found = get_on_left xs ys i x found

get_on_right : {A : Type 0} (xs ys : List A) (i : ℕ) → slice_get (xs ++ ys) (length xs + i) ≡ slice_get ys i
get_on_right [] ys i = ap (slice_get ys) (zero-add i)
get_on_right (first ∷ xs) ys i = ap (slice_get (first ∷ (xs ++ ys))) (suc-add (length xs) i) ∙ get_on_right xs ys i

placed : (number : ℕ) (cols : List ℕ) (i col : ℕ) → slice_get cols i ≡ Some col → slice_get (places_in number cols) i ≡ Some (record { row = number; col = col })
placed number [] i col found = absurd (none_is_some col found)
placed number (first ∷ cols) zero col found = let same : first ≡ col = cc in ap (λ c. Some (record { row = number; col = c })) same
placed number (first ∷ cols) (suc i) col found = placed number cols i col found

-- the places are numbered on from the start of their row
record IsPlaced (n k : ℕ) (rows : List RowView) (r i start col : ℕ) : Type 0 where
  offset : ℕ
  start_is : start ≡ k + offset
  at : slice_get (places_from n rows) (offset + i) ≡ Some (record { row = n + r; col = col })

place_in_row : (n k : ℕ) (rows : List RowView) (r i start : ℕ) (row : RowView) (col : ℕ) → slice_get rows r ≡ Some row → slice_get (starts_from k rows) r ≡ Some start → slice_get (columns row.readings) i ≡ Some col → IsPlaced n k rows r i start col
place_in_row n k [] r i start row col at_row at_start at_col = absurd (none_is_some row at_row)
place_in_row n k (first ∷ rows) zero i start row col at_row at_start at_col =
    let same : first ≡ row = cc in
    let start_same : k ≡ start = cc in
    let here : slice_get (columns first.readings) i ≡ Some col = subst (λ (r : RowView). slice_get (columns r.readings) i ≡ Some col) (sym same) at_col in
    let at : slice_get (places_from n (first ∷ rows)) i ≡ Some (record { row = n; col = col }) = get_on_left (places_in n (columns first.readings)) (places_from (suc n) rows) i (record { row = n; col = col }) (placed n (columns first.readings) i col here) in
    let row_is : ◌≡◌ {A = Option Place} (Some (record { row = n; col = col })) (Some (record { row = n + 0; col = col })) = ap (λ m. Some (record { row = m; col = col })) (sym (add-zero n)) in
    record {
      offset = 0;
      start_is = sym start_same ∙ sym (add-zero k);
      at = ap (slice_get (places_from n (first ∷ rows))) (zero-add i) ∙ (at ∙ row_is);
    }
place_in_row n k (first ∷ rows) (suc r) i start row col at_row at_start at_col =
    let later = place_in_row (suc n) (k + length first.readings) rows r i start row col at_row at_start at_col in
    let here = places_in n (columns first.readings) in
    let count : length here ≡ length first.readings = length-map (columns first.readings) (λ (col : ℕ). record { row = n; col = col }) ∙ length-map first.readings (λ (reading : RowReading). reading.col) in
    let sum : (length first.readings + later.offset) + i ≡ length here + (later.offset + i) = omega arith in
    let number : suc n + r ≡ n + suc r = omega arith in
    let row_is : ◌≡◌ {A = Option Place} (Some (record { row = suc n + r; col = col })) (Some (record { row = n + suc r; col = col })) = ap (λ m. Some (record { row = m; col = col })) number in
    record {
      offset = length first.readings + later.offset;
      start_is = omega (arith, later.start_is);
      at = ap (slice_get (places_from n (first ∷ rows))) sum ∙ (get_on_right here (places_from (suc n) rows) (later.offset + i) ∙ (later.at ∙ row_is));
    }

pub place_at : (rows : List RowView) (r i start : ℕ) (row : RowView) (col : ℕ) → slice_get rows r ≡ Some row → slice_get (starts_from 0 rows) r ≡ Some start → slice_get (columns row.readings) i ≡ Some col → slice_get (places_from 1 rows) (start + i) ≡ Some (record { row = suc r; col = col })
place_at rows r i start row col at_row at_start at_col =
    let found = place_in_row 1 0 rows r i start row col at_row at_start at_col in
    let next : 1 + r ≡ suc r = omega arith in
    let place_is : ◌≡◌ {A = Option Place} (Some (record { row = 1 + r; col = col })) (Some (record { row = suc r; col = col })) = ap (λ m. Some (record { row = m; col = col })) next in
    let number : start + i ≡ found.offset + i = omega (arith, found.start_is) in
    ap (slice_get (places_from 1 rows)) number ∙ (found.at ∙ place_is)

-- the place of a reading, which is the one asked for
pub found_at : (rows : List RowView) (r i start : ℕ) (row : RowView) (p : Place) → p.row ≡ suc r → slice_get rows r ≡ Some row → slice_get (starts_from 0 rows) r ≡ Some start → slice_get (columns row.readings) i ≡ Some p.col → slice_get (places_from 1 rows) (start + i) ≡ Some p
found_at rows r i start row p number at_row at_start at_col =
    let place_is : ◌≡◌ {A = Option Place} (Some (record { row = suc r; col = p.col })) (Some p) = ap (λ n. Some (record { row = n; col = p.col })) (sym number) in
    place_at rows r i start row p.col at_row at_start at_col ∙ place_is

-- ---- no reading at a place

placed_first : (number col : ℕ) (cols : List ℕ) (p : Place) → (Contains (places_in number cols) p → (p.row ≡ number) × Contains cols p.col) → (record { row = number; col = col } ≡ p) ⊎ Contains (places_in number cols) p → (p.row ≡ number) × Contains (col ∷ cols) p.col
placed_first number col cols p later (inl same) = (sym (ap (λ (q : Place). q.row) same), subst (λ c. Contains (col ∷ cols) c) (ap (λ (q : Place). q.col) same) (contains_first col cols))
placed_first number col cols p later (inr has) = let found = later has in (found.0, contains_later col cols p.col found.1)

placed_col : (number : ℕ) (cols : List ℕ) (p : Place) → Contains (places_in number cols) p → (p.row ≡ number) × Contains cols p.col
placed_col number [] p has = absurd (contains_none p has)
placed_col number (col ∷ cols) p has = placed_first number col cols p (placed_col number cols p) (contains_cases (record { row = number; col = col }) (places_in number cols) p has)

-- a place of a reading is in one of the rows, in the column of one of its readings
record IsInRow (n : ℕ) (rows : List RowView) (p : Place) : Type 0 where
  r : ℕ
  row : RowView
  number : p.row ≡ n + r
  at : slice_get rows r ≡ Some row
  col : Contains (columns row.readings) p.col

in_first : (n : ℕ) (first : RowView) (rows : List RowView) (p : Place) → (Contains (places_from (suc n) rows) p → IsInRow (suc n) rows p) → Contains (places_in n (columns first.readings)) p ⊎ Contains (places_from (suc n) rows) p → IsInRow n (first ∷ rows) p
in_first n first rows p later (inl has) =
    let found = placed_col n (columns first.readings) p has in
    record { r = 0; row = first; number = found.0 ∙ sym (add-zero n); at = refl; col = found.1 }
in_first n first rows p later (inr has) =
    let found = later has in
    record { r = suc found.r; row = found.row; number = omega (arith, found.number); at = found.at; col = found.col }

in_row : (n : ℕ) (rows : List RowView) (p : Place) → Contains (places_from n rows) p → IsInRow n rows p
in_row n [] p has = absurd (contains_none p has)
in_row n (first ∷ rows) p has = in_first n first rows p (in_row (suc n) rows p) (Contains-append_cases (places_in n (columns first.readings)) (places_from (suc n) rows) p has)

-- the header is no row
pub none_in_header : (rows : List RowView) (p : Place) → p.row < 1 → Contains (places_from 1 rows) p → ⊥
none_in_header rows p header has = let found = in_row 1 rows p has in omega (arith, found.number)

-- there is no such row
pub none_in_no_row : (rows : List RowView) (p : Place) (r : ℕ) → p.row ≡ suc r → slice_get rows r ≡ None → Contains (places_from 1 rows) p → ⊥
none_in_no_row rows p r number none has =
    let found = in_row 1 rows p has in
    let same : found.r ≡ r = omega (arith, found.number) in
    none_is_some found.row (sym none ∙ (ap (slice_get rows) (sym same) ∙ found.at))

-- the row has no reading in the column
pub none_in_column : (rows : List RowView) (p : Place) (r : ℕ) (row : RowView) → p.row ≡ suc r → slice_get rows r ≡ Some row → (Contains (columns row.readings) p.col → ⊥) → Contains (places_from 1 rows) p → ⊥
none_in_column rows p r row number at none has =
    let found = in_row 1 rows p has in
    let r_same : found.r ≡ r = omega (arith, found.number) in
    let e : ◌≡◌ {A = Option RowView} (Some found.row) (Some row) = sym found.at ∙ (ap (slice_get rows) r_same ∙ at) in
    let same : found.row ≡ row = cc in
    none (subst (λ (x : RowView). Contains (columns x.readings) p.col) same found.col)

-- ---- the order of the places

to_the_right : (number col before last : ℕ) (cols : List ℕ) → col ≤ before → Rise before cols last → AllByRecursion (IsBefore (record { row = number; col = col })) (places_in number cols)
to_the_right number col before last [] below rise = tt
to_the_right number col before last (next ∷ cols) below rise =
    let right : col < next = omega (arith, rise.0) in
    (inr (refl, right), to_the_right number col next last cols (omega (arith, rise.0)) rise.2)

row_in_order : (number before last : ℕ) (cols : List ℕ) (others : List Place) → Rise before cols last → AllByRecursion (λ (p : Place). number < p.row) others → AreInOrder others → AreInOrder (places_in number cols ++ others)
row_in_order number before last [] others rise later order = order
row_in_order number before last (col ∷ cols) others rise later order =
    let here : Place = record { row = number; col = col } in
    let below : AllByRecursion (IsBefore here) others = all_weaker (λ (p : Place). number < p.row) (IsBefore here) (λ p lower. inl lower) others later in (
      all_append (IsBefore here) (places_in number cols) others (to_the_right number col col last cols (omega arith) rise.2) below,
      row_in_order number col last cols others rise.2 later order,
    )

in_row_number : (n number : ℕ) (cols : List ℕ) → n < number → AllByRecursion (λ (p : Place). n < p.row) (places_in number cols)
in_row_number n number [] below = tt
in_row_number n number (col ∷ cols) below = (below, in_row_number n number cols below)

in_later_rows : (n number : ℕ) (rows : List RowView) → n < number → AllByRecursion (λ (p : Place). n < p.row) (places_from number rows)
in_later_rows n number [] below = tt
in_later_rows n number (row ∷ rows) below =
    all_append (λ (p : Place). n < p.row) (places_in number (columns row.readings)) (places_from (suc number) rows) (in_row_number n number (columns row.readings) below) (in_later_rows n (suc number) rows (omega arith))

pub in_order : (number : ℕ) (rows : List RowView) → AllByRecursion HasRising rows → AreInOrder (places_from number rows)
in_order number [] rising = tt
in_order number (row ∷ rows) rising =
    row_in_order number 0 (length row.fields) (columns row.readings) (places_from (suc number) rows) rising.0 (in_later_rows number (suc number) rows (omega arith)) (in_order (suc number) rows rising.1)

not_itself : (p q : Place) → IsBefore p q → p ≡ q → ⊥
not_itself p q (inl lower) same = omega (arith, lower, ap (λ (x : Place). x.row) same)
not_itself p q (inr right) same = omega (arith, right.1, ap (λ (x : Place). x.col) same)

pub in_order_distinct : (places : List Place) → AreInOrder places → Distinct places
in_order_distinct [] order = tt
in_order_distinct (p ∷ places) order = (all_weaker (IsBefore p) (λ q. p ≢ q) (not_itself p) places order.0, in_order_distinct places order.1)

pub as_many : (number : ℕ) (rows : List RowView) → length (places_from number rows) ≡ length (values_of rows)
as_many number [] = refl
as_many number (row ∷ rows) =
    let here = places_in number (columns row.readings) in
    let count : length here ≡ length row.readings = length-map (columns row.readings) (λ (col : ℕ). record { row = number; col = col }) ∙ length-map row.readings (λ (reading : RowReading). reading.col) in
    omega (arith, length-append here (places_from (suc number) rows), count, as_many (suc number) rows, length-values_of row rows)
