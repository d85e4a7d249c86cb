-- Lists: an element in place of another one, elements side by side, and lists of pairs.
use Rattle.std.proofs.Common.{◌≡◌, ℕ, zero, suc, ◌+◌, ◌*◌, ◌/◌, ◌<◌, ◌≤◌, Bool, true, false, cond, eqb, ℤ, pos, ◌+ℤ◌, ◌*ℤ◌, List, [], ◌∷◌, length, get_or, set, count_by, refl, sym, ap, ◌∙◌, subst, arith}
use Rattle.std.specs.List.{AllByRecursion, AllZip}
use Rattle.std.proofs.lemmas.Int.{ints}
use Rattle.std.proofs.lemmas.Bool.{eqb-true, eqb-false}
use Rattle.std.proofs.lemmas.List.{get_or-set_same, get_or-set_other}
use Rattle.std.proofs.lemmas.List.Sums.{sum_by-set}
use Rattle.std.proofs.Math.IntN.{*ℤ-zero, *ℤ-one}
use Rattle.flow_core.specs.Layout.{twice}
use Rattle.flow_core.specs.State.{added, one_if}

-- ---- side by side

pub zip_at : {A B : Type 0} (R : A → B → Type 0) (xs : List A) (ys : List B) (i : ℕ) (d : A) (e : B) → AllZip R xs ys → i < length xs → R (get_or xs i d) (get_or ys i e)
zip_at R [] ys i d e all below = absurd (omega arith)
zip_at R (x ∷ xs) [] i d e all below = absurd all
zip_at R (x ∷ xs) (y ∷ ys) zero d e all below = all.0
zip_at R (x ∷ xs) (y ∷ ys) (suc i) d e all below = zip_at R xs ys i d e all.1 (omega arith)

pub zip_set : {A B : Type 0} (R : A → B → Type 0) (xs : List A) (ys : List B) (i : ℕ) (d : A) (y : B) → AllZip R xs ys → R (get_or xs i d) y → AllZip R xs (set ys i y)
zip_set R [] [] i d y all here = tt
zip_set R [] (z ∷ ys) i d y all here = absurd all
zip_set R (x ∷ xs) [] i d y all here = absurd all
zip_set R (x ∷ xs) (z ∷ ys) zero d y all here = (here, all.1)
zip_set R (x ∷ xs) (z ∷ ys) (suc i) d y all here = (all.0, zip_set R xs ys i d y all.1 here)

-- what follows for each right element, from what holds of each left one
pub zip_right : {A B : Type 0} (R : A → B → Type 0) (P : A → Type 0) (Q : B → Type 0) → ((x : A) (y : B) → P x → R x y → Q y) → (xs : List A) (ys : List B) → AllZip R xs ys → AllByRecursion P xs → AllByRecursion Q ys
zip_right R P Q step [] [] all each = tt
zip_right R P Q step [] (y ∷ ys) all each = absurd all
zip_right R P Q step (x ∷ xs) [] all each = absurd all
zip_right R P Q step (x ∷ xs) (y ∷ ys) all each = (step x y each.0 all.0, zip_right R P Q step xs ys all.1 each.1)

-- ---- an element in place of another one

pub all_set : {A : Type 0} (P : A → Type 0) (xs : List A) (i : ℕ) (y : A) → AllByRecursion P xs → P y → AllByRecursion P (set xs i y)
all_set P [] i y all here = tt
all_set P (x ∷ xs) zero y all here = (here, all.1)
all_set P (x ∷ xs) (suc i) y all here = (all.0, all_set P xs i y all.1 here)

cond_le_one : (b : Bool) → cond b 1 0 ≤ 1
cond_le_one true = omega arith
cond_le_one false = omega arith

pub count_by_set : {A : Type 0} (p : A → Bool) (xs : List A) (i : ℕ) (y d : A) → i < length xs → count_by p (set xs i y) ≤ count_by p xs + 1
count_by_set p xs i y d below = omega (arith, sum_by-set (λ x. cond (p x) 1 0) xs i y d below, cond_le_one (p y))

by_test : (xs : List ℤ) (i j : ℕ) (y : ℤ) (b : Bool) → i < length xs → eqb i j ≡ b → get_or (added xs i y) j (pos 0) ≡ get_or xs j (pos 0) +ℤ (y *ℤ one_if b)
by_test xs i j y true below e =
    subst (λ k. get_or (added xs i y) k (pos 0) ≡ get_or xs k (pos 0) +ℤ (y *ℤ pos 1)) (eqb-true i j e)
    (get_or-set_same xs i (get_or xs i (pos 0) +ℤ y) (pos 0) below ∙ omega (arith, ints, *ℤ-one y))
by_test xs i j y false below e =
    get_or-set_other xs i j (get_or xs i (pos 0) +ℤ y) (pos 0) (λ same. eqb-false i j e (sym same)) ∙ omega (arith, ints, *ℤ-zero y)

pub added_at : (xs : List ℤ) (i j : ℕ) (y : ℤ) → i < length xs → get_or (added xs i y) j (pos 0) ≡ get_or xs j (pos 0) +ℤ (y *ℤ one_if (eqb i j))
added_at xs i j y below = by_test xs i j y (eqb i j) below refl

-- ---- pairs

pub length-twice : {A : Type 0} (xs : List A) → length (twice xs) ≡ 2 * length xs
length-twice [] = refl
length-twice (x ∷ xs) = omega (arith, length-twice xs)

pub all_twice : {A : Type 0} (P : A → Type 0) (xs : List A) → AllByRecursion P xs → AllByRecursion P (twice xs)
all_twice P [] all = tt
all_twice P (x ∷ xs) all = (all.0, (all.0, all_twice P xs all.1))

pub half_more : (k : ℕ) → suc (suc k) / 2 ≡ suc (k / 2)
half_more k = omega arith

pub twice_at : {A : Type 0} (xs : List A) (k : ℕ) (d : A) → get_or (twice xs) k d ≡ get_or xs (k / 2) d
twice_at [] k d = refl
twice_at (x ∷ xs) zero d = refl
twice_at (x ∷ xs) (suc zero) d = refl
twice_at (x ∷ xs) (suc (suc k)) d = twice_at xs k d ∙ sym (ap (λ i. get_or (x ∷ xs) i d) (half_more k))
