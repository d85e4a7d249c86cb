-- Distinct elements that are all among others are no more than those.
use Rattle.std.proofs.Common.{◌≡◌, ◌≢◌, ◌≤◌, ◌⊎◌, inl, inr, List, [], ◌∷◌, ◌++◌, length, ap, subst, arith}
use Rattle.std.specs.Prelude.{Contains}
use Rattle.std.specs.List.{AllByRecursion}
use Rattle.std.proofs.lemmas.List.{length-append}
use Rattle.words.specs.Lists.{Distinct}
use Rattle.words.proofs.Lists.{contains_cases, contains_first, contains_later, contains_none}

-- a list without one of its elements
pub record IsSplit {A : Type 0} (xs : List A) (x : A) : Type 0 where
  pub front : List A
  pub back : List A
  pub is : xs ≡ front ++ x ∷ back

split_cases : {A : Type 0} (y : A) (xs : List A) (x : A) → (Contains xs x → IsSplit xs x) → (y ≡ x) ⊎ Contains xs x → IsSplit (y ∷ xs) x
split_cases y xs x rest (inl same) = record { front = []; back = xs; is = ap (λ z. z ∷ xs) same }
split_cases y xs x rest (inr later) = let split = rest later in record { front = y ∷ split.front; back = split.back; is = ap (λ zs. y ∷ zs) split.is }

split_at : {A : Type 0} (xs : List A) (x : A) → Contains xs x → IsSplit xs x
split_at [] x has = absurd (contains_none x has)
split_at (y ∷ xs) x has = split_cases y xs x (split_at xs x) (contains_cases y xs x has)

other_cases : {A : Type 0} (w : A) (front back : List A) (x y : A) → (Contains (front ++ x ∷ back) y → Contains (front ++ back) y) → (w ≡ y) ⊎ Contains (front ++ x ∷ back) y → Contains ((w ∷ front) ++ back) y
other_cases w front back x y rest (inl same) = subst (λ z. Contains ((w ∷ front) ++ back) z) same (contains_first w (front ++ back))
other_cases w front back x y rest (inr later) = contains_later w (front ++ back) y (rest later)

head_cases : {A : Type 0} (x : A) (back : List A) (y : A) → x ≢ y → (x ≡ y) ⊎ Contains back y → Contains back y
head_cases x back y other (inl same) = absurd (other same)
head_cases x back y other (inr later) = later

-- another element is among the others
other_left : {A : Type 0} (front back : List A) (x y : A) → x ≢ y → Contains (front ++ x ∷ back) y → Contains (front ++ back) y
other_left [] back x y other has = head_cases x back y other (contains_cases x back y has)
other_left (w ∷ front) back x y other has = other_cases w front back x y (other_left front back x y other) (contains_cases w (front ++ x ∷ back) y has)

others_left : {A : Type 0} (front back : List A) (x : A) (xs : List A) → AllByRecursion (λ y. x ≢ y) xs → AllByRecursion (Contains (front ++ x ∷ back)) xs → AllByRecursion (Contains (front ++ back)) xs
others_left front back x [] apart all = tt
others_left front back x (y ∷ xs) apart all = (other_left front back x y apart.0 all.0, others_left front back x xs apart.1 all.1)

pub few_distinct : {A : Type 0} (xs ys : List A) → Distinct xs → AllByRecursion (Contains ys) xs → length xs ≤ length ys
few_distinct [] ys distinct all = omega arith
few_distinct {A} (x ∷ xs) ys distinct all =
    let split = split_at ys x all.0 in
    let within : AllByRecursion (Contains (split.front ++ x ∷ split.back)) xs = subst (λ (zs : List A). AllByRecursion (Contains zs) xs) split.is all.1 in
    let rest = few_distinct xs (split.front ++ split.back) distinct.1 (others_left split.front split.back x xs distinct.0 within) in
    omega (arith, rest, length-append split.front split.back, length-append split.front (x ∷ split.back), ap length split.is)
