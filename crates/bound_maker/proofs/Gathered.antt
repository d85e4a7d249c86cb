-- The readings of a column, as a loop gathers them.
use Rattle.std.proofs.Common.{◌≡◌, ℕ, suc, ◌+◌, ◌^◌, ◌<◌, ◌≤◌, ℤ, Bool, true, false, cond, List, [], ◌∷◌, ◌++◌, map, length, drop, get_or, Option, Some, None, refl, sym, ap, ◌∙◌, subst, append_assoc, arith}
use Rattle.std.specs.Prelude.{unsigned_abs, ◌==◌, option_map}
use Rattle.std.specs.List.{AllByRecursion, find}
use Rattle.std.proofs.lemmas.List.{drop_more}
use Rattle.words.proofs.Lists.{all_of_append}
use Rattle.series_rows.specs.declared.cell.RowReading.{RowReading}
use Rattle.series_csv.specs.Readings.{IsSmall, values_in, values_of}
use Rattle.series_rows.specs.Row.{RowView}
use Rattle.bound_maker.specs.declared.reading.Reading.{Reading}
use Rattle.bound_maker.specs.Readings.{before_later, reading_in, readings_from, value_in}

pub readings_more : (col : ℕ) (rows : List RowView) (i : ℕ) (d : RowView) → i < length rows
    → readings_from (suc i) col (drop i rows) ≡ before_later (suc i) (get_or rows i d) (reading_in col (get_or rows i d)) (readings_from (suc (suc i)) col (drop (i + 1) rows))
readings_more col rows i d h = ap (readings_from (suc i) col) (drop_more rows i d h)

-- what stands before later readings stands there by itself too
before_alone : (number : ℕ) (row : RowView) (o : Option ℤ) (later : List Reading) → before_later number row o later ≡ before_later number row o [] ++ later
before_alone number row (Some value) later = refl
before_alone number row None later = refl

-- one row more
pub gathered_more : (col : ℕ) (rows : List RowView) (i number : ℕ) (row : RowView) (so_far more : List Reading) → i < length rows → number ≡ i + 1 → row ≡ get_or rows i row
    → more ≡ so_far ++ before_later number row (reading_in col row) []
    → so_far ++ readings_from (suc i) col (drop i rows) ≡ more ++ readings_from (suc (i + 1)) col (drop (i + 1) rows)
gathered_more col rows i number row so_far more h count is push =
    let next : suc (suc i) ≡ suc (i + 1) = omega arith in
    let here : suc i ≡ number = omega (arith, count) in
    let rest = readings_from (suc (i + 1)) col (drop (i + 1) rows) in
    let found : readings_from (suc i) col (drop i rows) ≡ before_later number row (reading_in col row) rest =
    readings_more col rows i row h
    ∙ (ap (λ r. before_later (suc i) r (reading_in col r) (readings_from (suc (suc i)) col (drop (i + 1) rows))) (sym is)
    ∙ (ap (λ n. before_later n row (reading_in col row) (readings_from (suc (suc i)) col (drop (i + 1) rows))) here
    ∙ ap (λ n. before_later number row (reading_in col row) (readings_from n col (drop (i + 1) rows))) next)) in
    ap (λ rs. so_far ++ rs) (found ∙ before_alone number row (reading_in col row) rest)
    ∙ (sym (append_assoc so_far (before_later number row (reading_in col row) []) rest)
    ∙ ap (λ rs. rs ++ rest) (sym push))

-- ---- the readings are at most 10^15 in size

some_same : {A : Type 0} {x y : A} → ◌≡◌ {A = Option A} (Some x) (Some y) → x ≡ y
some_same e = cc

none_is_some : {A : Type 0} (x : A) → ◌≡◌ {A = Option A} None (Some x) → ⊥
none_is_some x e = cc

abbrev IsSmallReading : Reading → Type 0
IsSmallReading reading = unsigned_abs reading.value ≤ 10 ^ 15

if_found : (t : Bool) (r : RowReading) (rest : Option RowReading) (value : ℤ) → IsSmall r.value → (option_map (λ (x : RowReading). x.value) rest ≡ Some value → IsSmall value)
    → option_map (λ (x : RowReading). x.value) (cond t (Some r) rest) ≡ Some value → IsSmall value
if_found true r rest value here later is = subst (λ (z : ℤ). IsSmall z) (some_same is) here
if_found false r rest value here later is = later is

value_small : (col : ℕ) (readings : List RowReading) (value : ℤ) → AllByRecursion IsSmall (map (λ (r : RowReading). r.value) readings) → value_in col readings ≡ Some value → IsSmall value
value_small col [] value all is = absurd (none_is_some value is)
value_small col (r ∷ readings) value all is =
    if_found (r.col == col) r (find (λ (x : RowReading). x.col == col) readings) value all.0 (λ found. value_small col readings value all.1 found) is

small_step : (n : ℕ) (row : RowView) (o : Option ℤ) (later : List Reading) → ((value : ℤ) → o ≡ Some value → IsSmall value) → AllByRecursion IsSmallReading later → AllByRecursion IsSmallReading (before_later n row o later)
small_step n row (Some value) later here rest = (here value refl, rest)
small_step n row None later here rest = rest

small_from : (n col : ℕ) (rows : List RowView) → AllByRecursion IsSmall (values_of rows) → AllByRecursion IsSmallReading (readings_from n col rows)
small_from n col [] all = tt
small_from n col (row ∷ rows) all =
    let parts = all_of_append IsSmall (values_in row) (values_of rows) all in
    small_step n row (reading_in col row) (readings_from (suc n) col rows) (λ value is. value_small col row.readings value parts.0 is) (small_from (suc n) col rows parts.1)

pub readings_small : (n col : ℕ) (seen rows : List RowView) → seen ≡ rows → AllByRecursion IsSmall (values_of rows) → AllByRecursion (λ (reading : Reading). unsigned_abs reading.value ≤ 10 ^ 15) (readings_from n col seen)
readings_small n col seen rows same all = subst (λ (rs : List RowView). AllByRecursion IsSmallReading (readings_from n col rs)) (sym same) (small_from n col rows all)
