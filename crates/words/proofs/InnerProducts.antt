-- Inner products of lists of signed numbers.
use Rattle.std.proofs.Common.{◌≡◌, ℕ, zero, suc, ◌<◌, ℤ, pos, ◌+ℤ◌, ◌-ℤ◌, ◌*ℤ◌, List, [], ◌∷◌, length, map, get_or, set, replicate, refl, sym, ap, arith}
use Rattle.std.proofs.lemmas.Int.{ints}
use Rattle.std.proofs.Math.IntN.{*ℤ_comm, *ℤ-zero, zero-*ℤ}
use Rattle.words.specs.Lists.{inner_product}
use Rattle.words.proofs.Products.{mul_sum, mul_minus, minus_mul, mul_swap}

pub inner_product_comm : (xs ys : List ℤ) → inner_product xs ys ≡ inner_product ys xs
inner_product_comm (x ∷ xs) (y ∷ ys) = omega (arith, ints, *ℤ_comm x y, inner_product_comm xs ys)
inner_product_comm [] [] = refl
inner_product_comm [] (y ∷ ys) = refl
inner_product_comm (x ∷ xs) [] = refl

-- by what stands beside each element of a list
pub inner_product-map_sum : {A : Type 0} (f g : A → ℤ) (xs : List ℤ) (ys : List A) → inner_product xs (map (λ y. f y +ℤ g y) ys) ≡ inner_product xs (map f ys) +ℤ inner_product xs (map g ys)
inner_product-map_sum f g (x ∷ xs) (y ∷ ys) = omega (arith, ints, mul_sum x (f y) (g y), inner_product-map_sum f g xs ys)
inner_product-map_sum f g [] ys = refl
inner_product-map_sum f g (x ∷ xs) [] = refl

pub inner_product-map_minus : {A : Type 0} (f g : A → ℤ) (xs : List ℤ) (ys : List A) → inner_product xs (map (λ y. f y -ℤ g y) ys) ≡ inner_product xs (map f ys) -ℤ inner_product xs (map g ys)
inner_product-map_minus f g (x ∷ xs) (y ∷ ys) = omega (arith, ints, mul_minus x (f y) (g y), inner_product-map_minus f g xs ys)
inner_product-map_minus f g [] ys = refl
inner_product-map_minus f g (x ∷ xs) [] = refl

pub inner_product-map_zero : {A : Type 0} (xs : List ℤ) (ys : List A) → inner_product xs (map (λ y. pos 0) ys) ≡ pos 0
inner_product-map_zero (x ∷ xs) (y ∷ ys) = omega (arith, ints, *ℤ-zero x, inner_product-map_zero xs ys)
inner_product-map_zero [] ys = refl
inner_product-map_zero (x ∷ xs) [] = refl

pub inner_product-map_scaled : {A : Type 0} (k : ℤ) (f : A → ℤ) (xs : List ℤ) (ys : List A) → inner_product xs (map (λ y. k *ℤ f y) ys) ≡ k *ℤ inner_product xs (map f ys)
inner_product-map_scaled k f (x ∷ xs) (y ∷ ys) = omega (arith, ints, mul_swap x k (f y), mul_sum k (x *ℤ f y) (inner_product xs (map f ys)), inner_product-map_scaled k f xs ys)
inner_product-map_scaled k f [] ys = sym (*ℤ-zero k)
inner_product-map_scaled k f (x ∷ xs) [] = sym (*ℤ-zero k)

-- the elements of a list may be taken by equal functions
pub inner_product-map_same : {A : Type 0} (f g : A → ℤ) → ((y : A) → f y ≡ g y) → (xs : List ℤ) (ys : List A) → inner_product xs (map f ys) ≡ inner_product xs (map g ys)
inner_product-map_same f g same (x ∷ xs) (y ∷ ys) = omega (arith, ints, ap (λ z. x *ℤ z) (same y), inner_product-map_same f g same xs ys)
inner_product-map_same f g same [] ys = refl
inner_product-map_same f g same (x ∷ xs) [] = refl

-- A sum over rows of sums over columns is the sum over columns of the sums over rows.
pub inner_product-exchange : {A B : Type 0} (m : A → B → ℤ) (xs : List ℤ) (rows : List A) (ys : List ℤ) (columns : List B)
    → inner_product xs (map (λ a. inner_product ys (map (m a) columns)) rows) ≡ inner_product ys (map (λ b. inner_product xs (map (λ a. m a b) rows)) columns)
inner_product-exchange m xs rows (y ∷ ys) (b ∷ columns) =
    omega (
      arith,
      ints,
      inner_product-map_sum (λ a. y *ℤ m a b) (λ a. inner_product ys (map (m a) columns)) xs rows,
      inner_product-map_scaled y (λ a. m a b) xs rows,
      inner_product-exchange m xs rows ys columns,
    )
inner_product-exchange m xs rows [] columns = inner_product-map_zero xs rows
inner_product-exchange m xs rows (y ∷ ys) [] = inner_product-map_zero xs rows

pub inner_product-zeroes : (n : ℕ) (ys : List ℤ) → inner_product (replicate n (pos 0)) ys ≡ pos 0
inner_product-zeroes zero ys = refl
inner_product-zeroes (suc n) [] = refl
inner_product-zeroes (suc n) (y ∷ ys) = omega (arith, ints, zero-*ℤ y, inner_product-zeroes n ys)

-- a number in place of another one
pub inner_product-set : (xs ys : List ℤ) (i : ℕ) (v : ℤ) → i < length xs → i < length ys → inner_product (set xs i v) ys ≡ inner_product xs ys +ℤ ((v -ℤ get_or xs i (pos 0)) *ℤ get_or ys i (pos 0))
inner_product-set [] ys i v g h = absurd (omega arith)
inner_product-set (x ∷ xs) [] i v g h = absurd (omega arith)
inner_product-set (x ∷ xs) (y ∷ ys) zero v g h = omega (arith, ints, minus_mul v x y)
inner_product-set (x ∷ xs) (y ∷ ys) (suc i) v g h = omega (arith, ints, inner_product-set xs ys i v (omega arith) (omega arith))
