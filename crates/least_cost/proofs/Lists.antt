-- Lists by the places of their elements.
use Rattle.std.proofs.Common.{ℕ, zero, suc, ◌<◌, List, [], ◌∷◌, length, get_or, drop, arith}
use Rattle.std.specs.List.{AllByRecursion}

pub all_at_place : {A : Type 0} (P : A → Type 0) (d : A) (xs : List A) (k : ℕ) → AllByRecursion P xs → k < length xs → P (get_or xs k d)
all_at_place P d [] k all below = absurd (omega arith)
all_at_place P d (x ∷ xs) zero all below = all.0
all_at_place P d (x ∷ xs) (suc k) all below = all_at_place P d xs k all.1 (omega arith)

pub all_by_place : {A : Type 0} (P : A → Type 0) (d : A) (xs : List A) → ((k : ℕ) → k < length xs → P (get_or xs k d)) → AllByRecursion P xs
all_by_place P d [] each = tt
all_by_place P d (x ∷ xs) each = (each 0 (omega arith), all_by_place P d xs (λ k below. each (suc k) (omega (arith, below))))

pub all_drop : {A : Type 0} (P : A → Type 0) (k : ℕ) (xs : List A) → AllByRecursion P xs → AllByRecursion P (drop k xs)
all_drop P zero xs all = all
all_drop P (suc k) [] all = tt
all_drop P (suc k) (x ∷ xs) all = all_drop P k xs all.1
