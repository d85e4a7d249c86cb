-- Products of whole numbers: with a sum, under an order, by their sizes, and against a division that rounds down.
use Rattle.std.proofs.Common.{◌≡◌, ◌↔◌, ℕ, zero, suc, ◌*◌, ◌/◌, ◌<◌, ◌≤◌, ℤ, pos, negsuc, neg_ℤ, ◌+ℤ◌, ◌-ℤ◌, ◌*ℤ◌, ◌≤ℤ◌, refl, sym, ap, ◌∙◌, arith}
use Rattle.std.specs.Prelude.{unsigned_abs}
use Rattle.std.specs.Int.{int_div_euclid}
use Rattle.std.proofs.Math.IntN.{+ℤ_idl, *ℤ_comm, *ℤ-zero, zero-*ℤ, *ℤ-negsuc, suc_ℤ-*ℤ}
use Rattle.std.proofs.Math.Nat.{le-div_iff_mul-le, div-lt_iff_lt-mul, le_of_mul-le-mul_right}
use Rattle.std.proofs.lemmas.Int.{ints, unsigned_abs-mul}
use Rattle.std.proofs.lemmas.Nat.{mul-le}

-- ---- with a sum

mul_suc : (a : ℤ) (k : ℕ) → a *ℤ pos (suc k) ≡ (a *ℤ pos k) +ℤ a
mul_suc a k = *ℤ_comm a (pos (suc k)) ∙ suc_ℤ-*ℤ (pos k) a ∙ ap (λ x. x +ℤ a) (*ℤ_comm (pos k) a)

sum_mul_pos : (a b : ℤ) (k : ℕ) → (a +ℤ b) *ℤ pos k ≡ (a *ℤ pos k) +ℤ (b *ℤ pos k)
sum_mul_pos a b zero = omega (arith, ints, *ℤ-zero (a +ℤ b), *ℤ-zero a, *ℤ-zero b)
sum_mul_pos a b (suc k) = omega (arith, ints, mul_suc (a +ℤ b) k, mul_suc a k, mul_suc b k, sum_mul_pos a b k)

pub sum_mul : (a b k : ℤ) → (a +ℤ b) *ℤ k ≡ (a *ℤ k) +ℤ (b *ℤ k)
sum_mul a b (pos k) = sum_mul_pos a b k
sum_mul a b (negsuc k) = omega (arith, ints, *ℤ-negsuc (a +ℤ b) k, *ℤ-negsuc a k, *ℤ-negsuc b k, sum_mul_pos a b (suc k))

pub mul_sum : (k a b : ℤ) → k *ℤ (a +ℤ b) ≡ (k *ℤ a) +ℤ (k *ℤ b)
mul_sum k a b = *ℤ_comm k (a +ℤ b) ∙ sum_mul a b k ∙ omega (arith, ints, *ℤ_comm k a, *ℤ_comm k b)

back : (a b : ℤ) → (a -ℤ b) +ℤ b ≡ a
back a b = omega (arith, ints)

pub mul_minus : (k a b : ℤ) → k *ℤ (a -ℤ b) ≡ (k *ℤ a) -ℤ (k *ℤ b)
mul_minus k a b = omega (arith, ints, mul_sum k (a -ℤ b) b, ap (λ x. k *ℤ x) (back a b))

pub minus_mul : (a b k : ℤ) → (a -ℤ b) *ℤ k ≡ (a *ℤ k) -ℤ (b *ℤ k)
minus_mul a b k = omega (arith, ints, sum_mul (a -ℤ b) b k, ap (λ x. x *ℤ k) (back a b))

pub zero_minus_mul : (a k : ℤ) → (pos 0 -ℤ a) *ℤ k ≡ pos 0 -ℤ (a *ℤ k)
zero_minus_mul a k = omega (arith, ints, minus_mul (pos 0) a k, zero-*ℤ k)

zero_less : (x : ℤ) → neg_ℤ x ≡ pos 0 -ℤ x
zero_less x = omega (arith, ints)

pub neg_mul : (a k : ℤ) → neg_ℤ a *ℤ k ≡ neg_ℤ (a *ℤ k)
neg_mul a k = ap (λ x. x *ℤ k) (zero_less a) ∙ zero_minus_mul a k ∙ sym (zero_less (a *ℤ k))

pub mul_neg : (k a : ℤ) → k *ℤ neg_ℤ a ≡ neg_ℤ (k *ℤ a)
mul_neg k a = *ℤ_comm k (neg_ℤ a) ∙ neg_mul a k ∙ ap neg_ℤ (*ℤ_comm a k)

-- ---- of three factors

swap_pos : (a b : ℤ) (k : ℕ) → a *ℤ (b *ℤ pos k) ≡ (a *ℤ b) *ℤ pos k
swap_pos a b zero = omega (arith, ints, ap (λ x. a *ℤ x) (*ℤ-zero b), *ℤ-zero a, *ℤ-zero (a *ℤ b))
swap_pos a b (suc k) = omega (arith, ints, ap (λ x. a *ℤ x) (mul_suc b k), mul_sum a (b *ℤ pos k) b, swap_pos a b k, mul_suc (a *ℤ b) k)

pub mul_assoc : (a b c : ℤ) → (a *ℤ b) *ℤ c ≡ a *ℤ (b *ℤ c)
mul_assoc a b (pos k) = sym (swap_pos a b k)
mul_assoc a b (negsuc k) = omega (arith, ints, *ℤ-negsuc (a *ℤ b) k, swap_pos a b (suc k), ap (λ x. a *ℤ x) (*ℤ-negsuc b k), mul_minus a (pos 0) (b *ℤ pos (suc k)), *ℤ-zero a, ap (λ x. a *ℤ x) (zero_less (b *ℤ pos (suc k))))

-- the first two of three factors change places
pub mul_swap : (a b c : ℤ) → a *ℤ (b *ℤ c) ≡ b *ℤ (a *ℤ c)
mul_swap a b c = sym (mul_assoc a b c) ∙ ap (λ x. x *ℤ c) (*ℤ_comm a b) ∙ mul_assoc b a c

-- ---- under an order, and by sizes

-- a product is at most the product of the sizes
pub mul-le_sizes : (u d : ℤ) (w : ℕ) → unsigned_abs u ≤ w → (u *ℤ d) ≤ℤ pos (w * unsigned_abs d)
mul-le_sizes (pos u) (pos d) w h = omega (arith, ints, mul-le u d w d h (omega arith))
mul-le_sizes (pos u) (negsuc d) w h = omega (arith, ints)
mul-le_sizes (negsuc u) (pos d) w h = omega (arith, ints)
mul-le_sizes (negsuc u) (negsuc d) w h = omega (arith, ints, mul-le (suc u) (suc d) w (suc d) h (omega arith))

-- a product is not above 0 where one factor is not below it and the other is not above it
pub mul-le_zero : (a b : ℤ) → pos 0 ≤ℤ a → b ≤ℤ pos 0 → (a *ℤ b) ≤ℤ pos 0
mul-le_zero (pos n) (pos g) h k = let none : g ≡ 0 = omega (arith, ints) in omega (arith, ints, ap (λ x. n * x) none)
mul-le_zero (pos n) (negsuc g) h k = omega (arith, ints)
mul-le_zero (negsuc n) b h k = absurd (omega (arith, ints))

pub size_of_product : (x y : ℤ) (m n : ℕ) → unsigned_abs x ≤ m → unsigned_abs y ≤ n → unsigned_abs (x *ℤ y) ≤ m * n
size_of_product x y m n g h = omega (arith, unsigned_abs-mul x y, mul-le (unsigned_abs x) (unsigned_abs y) m n g h)

pub within_size : (z : ℤ) (n : ℕ) → unsigned_abs z ≤ n → (neg_ℤ (pos n) ≤ℤ z) × (z ≤ℤ pos n)
within_size (pos a) n h = (omega (arith, ints, h), omega (arith, ints, h))
within_size (negsuc a) n h = (omega (arith, ints, h), omega (arith, ints, h))

pub size_within : (z : ℤ) (n : ℕ) → neg_ℤ (pos n) ≤ℤ z → z ≤ℤ pos n → unsigned_abs z ≤ n
size_within (pos a) n low high = omega (arith, ints)
size_within (negsuc a) n low high = omega (arith, ints)

pub size_of_minus : (z : ℤ) → unsigned_abs (pos 0 -ℤ z) ≡ unsigned_abs z
size_of_minus (pos zero) = refl
size_of_minus (pos (suc a)) = ap unsigned_abs (+ℤ_idl (negsuc a))
size_of_minus (negsuc a) = ap unsigned_abs (+ℤ_idl (pos (suc a)))

-- a common factor above 0 is taken from both sides
pub le_of_mul-le : (a : ℤ) (n k : ℕ) → 0 < k → (a *ℤ pos k) ≤ℤ pos (n * k) → a ≤ℤ pos n
le_of_mul-le (pos a) n k some h = omega (arith, ints, le_of_mul-le-mul_right {m = a} {n = n} {k = k} (omega (arith, ints, h)) some)
le_of_mul-le (negsuc a) n k some h = omega (arith, ints)

-- ---- against a division

-- a number is at most a quotient that is rounded down exactly where its product with the divisor is at most the dividend
pub at_most_floor : (m d : ℤ) (p : ℕ) → 0 < p → (d ≤ℤ int_div_euclid m (pos p)) ↔ ((d *ℤ pos p) ≤ℤ m)
at_most_floor (pos a) (pos k) p h = (
  λ le. let below : k * p ≤ a = (le-div_iff_mul-le h).0 (omega (arith, ints)) in omega (arith, ints),
  λ le. let below : k ≤ a / p = (le-div_iff_mul-le h).1 (omega (arith, ints)) in omega (arith, ints),
)
at_most_floor (pos a) (negsuc k) p h = (λ le. omega (arith, ints), λ le. omega (arith, ints))
at_most_floor (negsuc a) (pos k) p h = (λ le. omega (arith, ints), λ le. omega (arith, ints))
at_most_floor (negsuc a) (negsuc k) p h = (
  λ le. let above : a < suc k * p = (div-lt_iff_lt-mul h).0 (omega (arith, ints)) in omega (arith, ints),
  λ le. let below : a / p < suc k = (div-lt_iff_lt-mul h).1 (omega (arith, ints)) in omega (arith, ints),
)
