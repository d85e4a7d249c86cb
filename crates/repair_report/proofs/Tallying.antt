-- The tallies of readings, counted one by one.
use Rattle.std.proofs.Common.{◌≡◌, ◌≢◌, ℕ, ◌+◌, ◌*◌, ◌^◌, ◌≤◌, inl, inr, Bool, true, false, cond, List, [], ◌∷◌, ◌++◌, length, map, filter, get_or, set, refl, sym, ap, ◌∙◌, arith}
use Rattle.std.specs.Prelude.{◌==◌, sum}
use Rattle.std.specs.List.{AllByRecursion}
use Rattle.std.proofs.lemmas.Bool.Decides.{eqb_tells}
use Rattle.std.proofs.lemmas.List.{append-nil, get_or-set_same, get_or-set_other, length-append, length-set, map-append}
use Rattle.std.proofs.lemmas.List.Elements.{filter-append}
use Rattle.std.proofs.lemmas.List.Sums.{sum_by-append, sum_by-cons}
use Rattle.words.proofs.Lists.{all_push}
use Rattle.words.proofs.Parts.{part_all, part_filter}
use Rattle.screen_model.specs.declared.limits.TheConstants.{MOST_COLUMNS}
use Rattle.repair_report.specs.declared.reading.Repaired.{Repaired}
use Rattle.repair_report.specs.declared.tally.Tally.{Tally}
use Rattle.repair_report.specs.Readings.{in_column, is_changed, weighted}
use Rattle.repair_report.specs.Tallies.{AreTallies, tally_of, with_reading}

-- ---- the tally of some readings

passed_more : (b : Bool) (n : ℕ) (reading : Repaired) → n + length (cond b (reading ∷ []) []) ≡ cond b (n + 1) n
passed_more true n reading = refl
passed_more false n reading = omega arith

changed_more : (readings : List Repaired) (reading : Repaired)
    → length (filter is_changed (readings ++ reading ∷ [])) ≡ cond (is_changed reading) (length (filter is_changed readings) + 1) (length (filter is_changed readings))
changed_more readings reading =
    ap length (filter-append is_changed readings (reading ∷ []))
    ∙ (length-append (filter is_changed readings) (filter is_changed (reading ∷ [])) ∙ passed_more (is_changed reading) (length (filter is_changed readings)) reading)

change_more : (readings : List Repaired) (reading : Repaired) → sum (map weighted (readings ++ reading ∷ [])) ≡ sum (map weighted readings) + weighted reading
change_more readings reading =
    ap sum (map-append weighted readings (reading ∷ []))
    ∙ (sum_by-append (λ (x : ℕ). x) (map weighted readings) (weighted reading ∷ [])
    ∙ ap (λ n. sum (map weighted readings) + n) (sum_by-cons (λ (x : ℕ). x) (weighted reading) [] ∙ omega arith))

pub tally_more : (readings : List Repaired) (reading : Repaired) → tally_of (readings ++ reading ∷ []) ≡ with_reading (tally_of readings) reading
tally_more readings reading =
    λ i. record {
      readings = length-append readings (reading ∷ []) i;
      changed = changed_more readings reading i;
      change = change_more readings reading i;
    }

changed_step : (reading : Repaired) (readings : List Repaired) (b : Bool) → is_changed reading ≡ b → length (filter is_changed readings) ≤ length readings → length (filter is_changed (reading ∷ readings)) ≤ length (reading ∷ readings)
changed_step reading readings true is h = omega (arith, h, ap (λ b. length (cond b (reading ∷ filter is_changed readings) (filter is_changed readings))) is)
changed_step reading readings false is h = omega (arith, h, ap (λ b. length (cond b (reading ∷ filter is_changed readings) (filter is_changed readings))) is)

pub changed_few : (readings : List Repaired) → length (filter is_changed readings) ≤ length readings
changed_few [] = omega arith
changed_few (reading ∷ readings) = changed_step reading readings (is_changed reading) refl (changed_few readings)

abbrev pub IsLight : Repaired → Type 0
IsLight reading = weighted reading ≤ 2 ^ 74

pub change_small : (readings : List Repaired) → AllByRecursion IsLight readings → sum (map weighted readings) ≤ length readings * 2 ^ 74
change_small [] light = omega arith
change_small (reading ∷ readings) light = omega (arith, sum_by-cons (λ (x : ℕ). x) (weighted reading) (map weighted readings), light.0, change_small readings light.1)

-- ---- the readings of a column

abbrev is_in : ℕ → Repaired → Bool
is_in col reading = reading.place.col == col

here_more : (col : ℕ) (readings : List Repaired) (reading : Repaired) → (reading.place.col == col) ≡ true → in_column col (readings ++ reading ∷ []) ≡ in_column col readings ++ reading ∷ []
here_more col readings reading is =
    filter-append (is_in col) readings (reading ∷ []) ∙ ap (λ b. in_column col readings ++ cond b (reading ∷ []) []) is

elsewhere_more : (col : ℕ) (readings : List Repaired) (reading : Repaired) → (reading.place.col == col) ≡ false → in_column col (readings ++ reading ∷ []) ≡ in_column col readings
elsewhere_more col readings reading is =
    filter-append (is_in col) readings (reading ∷ []) ∙ (ap (λ b. in_column col readings ++ cond b (reading ∷ []) []) is ∙ append-nil (in_column col readings))

pub light_in : (col : ℕ) (readings : List Repaired) → AllByRecursion IsLight readings → AllByRecursion IsLight (in_column col readings)
light_in col readings light = part_all IsLight (part_filter (is_in col) readings) light

few_step : (col : ℕ) (reading : Repaired) (readings : List Repaired) (b : Bool) → is_in col reading ≡ b → length (in_column col readings) ≤ length readings → length (in_column col (reading ∷ readings)) ≤ length (reading ∷ readings)
few_step col reading readings true is h = omega (arith, h, ap (λ b. length (cond b (reading ∷ in_column col readings) (in_column col readings))) is)
few_step col reading readings false is h = omega (arith, h, ap (λ b. length (cond b (reading ∷ in_column col readings) (in_column col readings))) is)

pub column_few : (col : ℕ) (readings : List Repaired) → length (in_column col readings) ≤ length readings
column_few col [] = omega arith
column_few col (reading ∷ readings) = few_step col reading readings (is_in col reading) refl (column_few col readings)

-- ---- the tallies of all columns

module _ (readings : List Repaired) (reading : Repaired) (tallies new : List Tally) (tally before : Tally) where
  abbrev At : ℕ → Tally → Type 0
  At col d = get_or new col d ≡ tally_of (in_column col (readings ++ reading ∷ []))

  here : (col : ℕ) (d : Tally) → AreTallies readings tallies → reading.place.col ≤ MOST_COLUMNS → tally ≡ with_reading (get_or tallies reading.place.col before) reading → new ≡ set tallies reading.place.col tally
      → (reading.place.col == col) ≡ true → reading.place.col ≡ col → At col d
  here col d are within is new_is test same =
      let found : get_or new reading.place.col d ≡ tally =
      ap (λ (list : List Tally). get_or list reading.place.col d) new_is ∙ get_or-set_same tallies reading.place.col tally d (omega (arith, are.long, within)) in
      ap (λ k. get_or new k d) (sym same)
      ∙ (found
      ∙ (is
      ∙ (ap (λ (t : Tally). with_reading t reading) (are.each reading.place.col before within ∙ ap (λ k. tally_of (in_column k readings)) same)
      ∙ (sym (tally_more (in_column col readings) reading) ∙ ap tally_of (sym (here_more col readings reading test))))))

  elsewhere : (col : ℕ) (d : Tally) → AreTallies readings tallies → new ≡ set tallies reading.place.col tally → (reading.place.col == col) ≡ false → reading.place.col ≢ col → col ≤ MOST_COLUMNS → At col d
  elsewhere col d are new_is test other within =
      ap (λ (list : List Tally). get_or list col d) new_is
      ∙ (get_or-set_other tallies reading.place.col col tally d (λ e. other (sym e))
      ∙ (are.each col d within ∙ ap tally_of (sym (elsewhere_more col readings reading test))))

  pub counted : AreTallies readings tallies → reading.place.col ≤ MOST_COLUMNS → IsLight reading → tally ≡ with_reading (get_or tallies reading.place.col before) reading → new ≡ set tallies reading.place.col tally
      → AreTallies (readings ++ reading ∷ []) new
  counted are within light is new_is = record {
    long = ap length new_is ∙ (length-set tallies reading.place.col tally ∙ are.long);
    each = λ col d h. elim (eqb_tells reading.place.col col) [
      | inl same ↦ here col d are within is new_is same.0 same.1
      | inr other ↦ elsewhere col d are new_is other.0 other.1 h
    ];
    light = all_push IsLight readings reading are.light light;
  }
