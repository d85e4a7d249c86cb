-- The reading of a row in a column.
use Rattle.std.proofs.Common.{◌≡◌, ℕ, suc, ◌+◌, ◌<◌, ◌==◌, Bool, true, false, cond, List, length, get_or, drop, sym, ap, ◌∙◌, arith, drop-cons, add-one}
use Rattle.std.specs.Prelude.{Some}
use Rattle.std.proofs.lemmas.Bool.Decides.{nat_tests}
use Rattle.series_rows.specs.declared.cell.RowReading.{RowReading}
use Rattle.online_repair.specs.Rows.{reading_in}

same_col : (a b : ℕ) → a ≡ b → (a == b) ≡ true
same_col a b e = grind (arith, nat_tests)

other_col : (a b : ℕ) → (a ≡ b → ⊥) → (a == b) ≡ false
other_col a b e = grind (arith, nat_tests)

pub reading_here : (col : ℕ) (readings : List RowReading) (i : ℕ) (d : RowReading) → i < length readings → (get_or readings i d).col ≡ col → reading_in col (drop i readings) ≡ Some (get_or readings i d).value
reading_here col readings i d h e =
    let reading = get_or readings i d in
    ap (reading_in col) (drop-cons readings i d h)
    ∙ ap (λ (b : Bool). cond b (Some reading.value) (reading_in col (drop (suc i) readings))) (same_col reading.col col e)

pub reading_later : (col : ℕ) (readings : List RowReading) (i : ℕ) (d : RowReading) → i < length readings → ((get_or readings i d).col ≡ col → ⊥) → reading_in col (drop (i + 1) readings) ≡ reading_in col (drop i readings)
reading_later col readings i d h e =
    let reading = get_or readings i d in
    ap (λ (n : ℕ). reading_in col (drop n readings)) (add-one i)
    ∙ sym (ap (reading_in col) (drop-cons readings i d h)
    ∙ ap (λ (b : Bool). cond b (Some reading.value) (reading_in col (drop (suc i) readings))) (other_col reading.col col e))
