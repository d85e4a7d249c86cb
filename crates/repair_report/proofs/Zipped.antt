-- The readings of a table with the values of a series.
use Rattle.std.proofs.Common.{◌≡◌, ℕ, zero, suc, ◌+◌, ◌*◌, ◌<◌, ◌≤◌, ℤ, ◌-ℤ◌, Bool, List, [], ◌∷◌, ◌++◌, length, map, filter, take, get_or, Option, Some, None, refl, sym, ap, ◌∙◌, arith}
use Rattle.std.specs.Prelude.{slice_get, sum, unsigned_abs}
use Rattle.std.proofs.lemmas.List.{take_more}
use Rattle.std.proofs.lemmas.List.Elements.{filter-append}
use Rattle.std.proofs.lemmas.List.Sums.{sum_by-cons}
use Rattle.screen_model.specs.declared.place.Place.{Place}
use Rattle.screen_model.specs.Cost.{weighted_change}
use Rattle.repair_report.specs.declared.reading.Repaired.{Repaired}
use Rattle.repair_report.specs.Readings.{repaired_from, weighted}

none_is_some : {A : Type 0} (x : A) → ◌≡◌ {A = Option A} None (Some x) → ⊥
none_is_some x e = cc

some_one : {A : Type 0} {x y : A} → ◌≡◌ {A = Option A} (Some x) (Some y) → x ≡ y
some_one e = cc

abbrev reading : Place → ℕ → ℤ → ℤ → Repaired
reading p w v x = record { place = p; weight = w; from = v; to = x }

pub repaired_there : (ps : List Place) (ws : List ℕ) (vs xs : List ℤ) (i : ℕ) (p : Place) (w : ℕ) (v x : ℤ)
    → slice_get ps i ≡ Some p → slice_get ws i ≡ Some w → slice_get vs i ≡ Some v → slice_get xs i ≡ Some x
    → slice_get (repaired_from ps ws vs xs) i ≡ Some (record { place = p; weight = w; from = v; to = x })
repaired_there [] ws vs xs i p w v x a b c d = absurd (none_is_some p a)
repaired_there (q ∷ ps) [] vs xs i p w v x a b c d = absurd (none_is_some w b)
repaired_there (q ∷ ps) (u ∷ ws) [] xs i p w v x a b c d = absurd (none_is_some v c)
repaired_there (q ∷ ps) (u ∷ ws) (y ∷ vs) [] i p w v x a b c d = absurd (none_is_some x d)
repaired_there (q ∷ ps) (u ∷ ws) (y ∷ vs) (z ∷ xs) zero p w v x a b c d =
    λ i. Some (record { place = some_one a i; weight = some_one b i; from = some_one c i; to = some_one d i })
repaired_there (q ∷ ps) (u ∷ ws) (y ∷ vs) (z ∷ xs) (suc i) p w v x a b c d = repaired_there ps ws vs xs i p w v x a b c d

pub repaired_few : (ps : List Place) (ws : List ℕ) (vs xs : List ℤ) → length (repaired_from ps ws vs xs) ≤ length vs
repaired_few [] ws vs xs = omega arith
repaired_few (q ∷ ps) [] vs xs = omega arith
repaired_few (q ∷ ps) (u ∷ ws) [] xs = omega arith
repaired_few (q ∷ ps) (u ∷ ws) (y ∷ vs) [] = omega arith
repaired_few (q ∷ ps) (u ∷ ws) (y ∷ vs) (z ∷ xs) = omega (arith, repaired_few ps ws vs xs)

-- what a series changes is what its readings change, taken together
pub change_of_readings : (ps : List Place) (ws : List ℕ) (vs xs : List ℤ) → length ws ≡ length ps → length vs ≡ length ps
    → weighted_change ws vs xs ≡ sum (map weighted (repaired_from ps ws vs xs))
change_of_readings [] [] [] xs long valued = refl
change_of_readings [] [] (y ∷ vs) xs long valued = absurd (omega (arith, valued))
change_of_readings [] (u ∷ ws) vs xs long valued = absurd (omega (arith, long))
change_of_readings (q ∷ ps) [] vs xs long valued = absurd (omega (arith, long))
change_of_readings (q ∷ ps) (u ∷ ws) [] xs long valued = refl
change_of_readings (q ∷ ps) (u ∷ ws) (y ∷ vs) [] long valued = refl
change_of_readings (q ∷ ps) (u ∷ ws) (y ∷ vs) (z ∷ xs) long valued =
    ap (λ n. u * unsigned_abs (z -ℤ y) + n) (change_of_readings ps ws vs xs (omega (arith, long)) (omega (arith, valued)))
    ∙ sym (sum_by-cons (λ (n : ℕ). n) (u * unsigned_abs (z -ℤ y)) (map weighted (repaired_from ps ws vs xs)))

-- ---- one reading after the other

pub there_within : {A : Type 0} (xs : List A) (i : ℕ) (x : A) → slice_get xs i ≡ Some x → i < length xs
there_within [] i x at = absurd (none_is_some x at)
there_within (y ∷ xs) zero x at = omega arith
there_within (y ∷ xs) (suc i) x at = omega (arith, there_within xs i x at)

pub there_got : {A : Type 0} (xs : List A) (i : ℕ) (x d : A) → slice_get xs i ≡ Some x → get_or xs i d ≡ x
there_got [] i x d at = absurd (none_is_some x at)
there_got (y ∷ xs) zero x d at = some_one at
there_got (y ∷ xs) (suc i) x d at = there_got xs i x d at

pub take_one : {A : Type 0} (xs : List A) (i : ℕ) (x : A) → slice_get xs i ≡ Some x → take (i + 1) xs ≡ take i xs ++ x ∷ []
take_one xs i x at = take_more xs i x (there_within xs i x at) ∙ ap (λ y. take i xs ++ y ∷ []) (there_got xs i x x at)

-- those that pass a test, among one element more
pub passed_one : {A : Type 0} (test : A → Bool) (xs : List A) (i : ℕ) (x : A) (old new : List A) → slice_get xs i ≡ Some x
    → old ≡ filter test (take i xs) → new ≡ old ++ filter test (x ∷ []) → new ≡ filter test (take (i + 1) xs)
passed_one test xs i x old new at before pushed =
    pushed ∙ (ap (λ ys. ys ++ filter test (x ∷ [])) before ∙ (sym (filter-append test (take i xs) (x ∷ [])) ∙ ap (filter test) (sym (take_one xs i x at))))

pub take_whole : {A : Type 0} (xs : List A) (i : ℕ) → length xs ≤ i → take i xs ≡ xs
take_whole [] zero h = refl
take_whole [] (suc i) h = refl
take_whole (x ∷ xs) zero h = absurd (omega (arith, h))
take_whole (x ∷ xs) (suc i) h = ap (λ ys. x ∷ ys) (take_whole xs i (omega (arith, h)))

pub take_few : {A : Type 0} (xs : List A) (i : ℕ) → length (take i xs) ≤ i
take_few [] zero = omega arith
take_few [] (suc i) = omega arith
take_few (x ∷ xs) zero = omega arith
take_few (x ∷ xs) (suc i) = omega (arith, take_few xs i)
