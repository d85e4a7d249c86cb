-- Values that are too large, and the row when none is.
use Rattle.std.proofs.Common.{◌≡◌, ℕ, suc, ◌+◌, ◌<◌, ◌≤◌, Bool, true, false, not, cond, ℤ, List, [], ◌∷◌, length, map, get_or, drop, refl, sym, ap, ◌∙◌, subst, arith, drop-cons, add-one}
use Rattle.std.specs.Prelude.{Option, Some, None, nat_le, unsigned_abs, IsTrue}
use Rattle.std.specs.List.{AllByRecursion, find, list_all}
use Rattle.std.proofs.lemmas.Bool.{and_from}
use Rattle.std.proofs.lemmas.Bool.Decides.{nat_tests}
use Rattle.fix_point.specs.declared.scale.TheConstants.{MOST_UNITS}
use Rattle.rule_file.specs.declared.rules.Rules.{Rules}
use Rattle.series_rows.specs.Header.{HeaderView}
use Rattle.series_rows.specs.ReadBack.{AreValuesOf}
use Rattle.series_rows.specs.Row.{RowView}
use Rattle.series_rows.specs.declared.cell.RowReading.{RowReading}
use Rattle.online_repair.specs.Engines.{IsTooLarge, first_large}
use Rattle.online_repair.specs.Output.{is_small}
use Rattle.online_repair.specs.Rows.{repaired, repaired_row, rule_in}
use Rattle.online_repair.specs.Sensors.{RepairsRow}
use Rattle.online_repair.specs.declared.fault.OnlineFault.TheVariants.{LeavesRange}
use Rattle.online_repair.specs.declared.track.Track.{Track}
use Rattle.online_repair.proofs.After.{AreSmall}

-- ---- the search

pub large_later : (readings : List RowReading) (values : List ℤ) (i : ℕ) (dr : RowReading) (dv : ℤ) → i < length readings → length values ≡ length readings → is_small (get_or values i dv) ≡ true → first_large (drop (i + 1) readings) (drop (i + 1) values) ≡ first_large (drop i readings) (drop i values)
large_later readings values i dr dv h long small =
    let reading = get_or readings i dr in
    let value = get_or values i dv in
    let inside : i < length values = omega (arith, h, long) in
    ap (λ (n : ℕ). first_large (drop n readings) (drop n values)) (add-one i)
    ∙ sym (
    ap (λ (rs : List RowReading). first_large rs (drop i values)) (drop-cons readings i dr h)
    ∙ ap (λ (vs : List ℤ). first_large (reading ∷ drop (suc i) readings) vs) (drop-cons values i dv inside)
    ∙ ap (λ (b : Bool). cond b (first_large (drop (suc i) readings) (drop (suc i) values)) (Some reading.col)) small
    )

pub row_length : (ticks : ℤ) (held : List RowView) (readings : List RowReading) (old new : List Track) (values : List ℤ) → RepairsRow ticks held readings old new values → length values ≡ length readings
row_length ticks held [] old new values repairs = ap length repairs.1
row_length ticks held (reading ∷ readings) old new values (middle, value, others, here, later, is) =
    omega (arith, ap length is, row_length ticks held readings middle new others later)

none_some : (n : ℕ) → None ≡ Some n → ⊥
none_some n e = cc

some_none : (n : ℕ) → Some n ≡ None → ⊥
some_none n e = cc

same_number : (a b : ℕ) → Some a ≡ Some b → a ≡ b
same_number a b e = cc

-- the reading whose value is too large
pub record IsLarge (f : RowReading → ℤ) (readings : List RowReading) (col : ℕ) : Type 0 where
  pub reading : RowReading
  pub is : find (λ (r : RowReading). not (is_small (f r))) readings ≡ Some reading
  pub col_is : reading.col ≡ col

large_by : (f : RowReading → ℤ) (first : RowReading) (readings : List RowReading) (col : ℕ) (b : Bool) → is_small (f first) ≡ b → cond b (first_large readings (map f readings)) (Some first.col) ≡ Some col → (first_large readings (map f readings) ≡ Some col → IsLarge f readings col) → IsLarge f (first ∷ readings) col
large_by f first readings col true small e rest =
    let later = rest e in
    record {
      reading = later.reading;
      is = ap (λ (b : Bool). cond (not b) (Some first) (find (λ (r : RowReading). not (is_small (f r))) readings)) small ∙ later.is;
      col_is = later.col_is;
    }
large_by f first readings col false small e rest = record {
  reading = first;
  is = ap (λ (b : Bool). cond (not b) (Some first) (find (λ (r : RowReading). not (is_small (f r))) readings)) small;
  col_is = same_number first.col col e;
}

large_found : (f : RowReading → ℤ) (readings : List RowReading) (col : ℕ) → first_large readings (map f readings) ≡ Some col → IsLarge f readings col
large_found f [] col e = absurd (none_some col e)
large_found f (first ∷ readings) col e = large_by f first readings col (is_small (f first)) refl e (large_found f readings col)

none_large_by : (b : Bool) (rest : Option ℕ) (col : ℕ) → cond b rest (Some col) ≡ None → (b ≡ true) × (rest ≡ None)
none_large_by true rest col e = (refl, e)
none_large_by false rest col e = absurd (some_none col e)

pub none_large : (readings : List RowReading) (values : List ℤ) → length values ≡ length readings → first_large readings values ≡ None → AreSmall values
none_large [] [] long e = tt
none_large [] (value ∷ values) long e = absurd (omega (arith, long))
none_large (reading ∷ readings) [] long e = tt
none_large (reading ∷ readings) (value ∷ values) long e =
    let parts = none_large_by (is_small value) (first_large readings values) reading.col e in
    (parts.0, none_large readings values (omega (arith, long)) parts.1)

le_of : (a b : ℕ) → nat_le a b ≡ true → a ≤ b
le_of a b h = grind (arith, nat_tests)

small_le : (value : ℤ) → is_small value ≡ true → unsigned_abs value ≤ unsigned_abs MOST_UNITS
small_le value h = le_of (unsigned_abs value) (unsigned_abs MOST_UNITS) h

all_le : (values : List ℤ) → AreSmall values → AllByRecursion (λ (value : ℤ). unsigned_abs value ≤ unsigned_abs MOST_UNITS) values
all_le [] small = tt
all_le (value ∷ values) small = (small_le value small.0, all_le values small.1)

pub values_of_row : (row : RowView) (values stored : List ℤ) → stored ≡ values → length values ≡ length row.readings → AreSmall values → AreValuesOf row stored
values_of_row row values stored e long small =
    let V : List ℤ → Type 0 = λ vs. AreValuesOf row vs in
    subst V (sym e) (record { count = long; small = all_le values small })

pub all_small : (values : List ℤ) → AreSmall values → IsTrue (list_all is_small values)
all_small [] small = refl
all_small (value ∷ values) small = and_from (is_small value) (list_all is_small values) small.0 (all_small values small.1)

-- ---- the refusal

pub too_large_is : (rules : Rules) (header : HeaderView) (before rest : List RowView) (row : RowView) (values stored : List ℤ) (readings : List RowReading) (col number : ℕ) → values ≡ repaired_row rules header before row rest → stored ≡ values → readings ≡ row.readings → number ≡ length before
    → Some col ≡ first_large readings stored → IsTooLarge rules header before row rest (LeavesRange (number + 1) col)
too_large_is rules header before rest row values stored readings col number values_are e f n first =
    let g : RowReading → ℤ = λ reading. repaired (rule_in rules header reading.col) rules.format.decimals before row rest reading in
    let found = large_found g row.readings col (
    ap (λ (rs : List RowReading). first_large rs (map g row.readings)) (sym f) ∙ ap (λ (vs : List ℤ). first_large readings vs) (sym (e ∙ values_are)) ∙ sym first
    ) in
    record {
      reading = found.reading;
      is = found.is;
      fault_is = ap (λ (c : ℕ). LeavesRange (number + 1) c) (sym found.col_is) ∙ ap (λ (k : ℕ). LeavesRange k found.reading.col) (add-one number ∙ ap suc n);
    }
