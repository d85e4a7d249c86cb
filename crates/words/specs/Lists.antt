-- To be believed: words on lists.
use Rattle.std.specs.Prelude.{◌≢◌, ℤ, pos, ◌+ℤ◌, ◌*ℤ◌, List, [], ◌∷◌, ◌++◌}
use Rattle.std.specs.List.{AllByRecursion}

-- no element stands twice
abbrev pub Distinct : {A : Type 0} → List A → Type 0
Distinct [] = Unit {0}
Distinct (x ∷ xs) = AllByRecursion (λ y. x ≢ y) xs × Distinct xs

-- the first element moved to the end: beside each element, the one after it, and beside the last the first
abbrev pub rotated : {A : Type 0} → List A → List A
rotated [] = []
rotated (x ∷ xs) = xs ++ x ∷ []

-- The first list is a part of the second one: elements of that are left out, some, all or none of them, and the others
-- stand in the same order. So each list is a part of itself.
pub data IsPart {A : Type 0} : List A → List A → Type 0 where
  none : IsPart [] []
  kept : {x : A} {part whole : List A} → IsPart part whole → IsPart (x ∷ part) (x ∷ whole)
  left_out : {x : A} {part whole : List A} → IsPart part whole → IsPart part (x ∷ whole)

-- the sum
abbrev pub total : List ℤ → ℤ
total [] = pos 0
total (x ∷ xs) = x +ℤ total xs

-- the inner product: the sum of the products of the elements that stand side by side in the two lists
abbrev pub inner_product : List ℤ → List ℤ → ℤ
inner_product (x ∷ xs) (y ∷ ys) = (x *ℤ y) +ℤ inner_product xs ys
inner_product [] ys = pos 0
inner_product (x ∷ xs) [] = pos 0
