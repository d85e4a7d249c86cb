-- The greater and the lesser of two numbers, as the ends of the lower and the upper half.
use Rattle.std.proofs.Common.{◌≡◌, ℕ, ◌-◌, ◌<◌, ◌≤◌, inl, inr, ℤ, ◌≤ℤ◌, ◌<ℤ◌, FitsSigned, to_z, of_z, ap, ◌∙◌, arith}
use Rattle.std.specs.Int.{w64, int_max, int_min}
use Rattle.std.proofs.lemmas.Int.{ints, clamps, by_lt_z, to_z-of_z}
use Rattle.order_window.specs.Selection.{IsLowerEnd, IsUpperEnd}

-- ---- of two numbers

max_above_first : (p q end first : ℤ) → end ≡ int_max p q → p ≡ first → first ≤ℤ end
max_above_first p q end first e f = omega (arith, ints, clamps, e, f)

max_above_second : (p q end second : ℤ) → end ≡ int_max p q → q ≡ second → second ≤ℤ end
max_above_second p q end second e f = omega (arith, ints, clamps, e, f)

max_is_first : (p q end first : ℤ) → end ≡ int_max p q → p ≡ first → q ≤ℤ p → end ≡ first
max_is_first p q end first e f h = omega (arith, ints, clamps, e, f, h)

max_is_second : (p q end second : ℤ) → end ≡ int_max p q → q ≡ second → p <ℤ q → end ≡ second
max_is_second p q end second e f h = omega (arith, ints, clamps, e, f, h)

min_below_first : (p q end first : ℤ) → end ≡ int_min p q → p ≡ first → end ≤ℤ first
min_below_first p q end first e f = omega (arith, ints, clamps, e, f)

min_below_second : (p q end second : ℤ) → end ≡ int_min p q → q ≡ second → end ≤ℤ second
min_below_second p q end second e f = omega (arith, ints, clamps, e, f)

min_is_first : (p q end first : ℤ) → end ≡ int_min p q → p ≡ first → p <ℤ q → end ≡ first
min_is_first p q end first e f h = omega (arith, ints, clamps, e, f, h)

min_is_second : (p q end second : ℤ) → end ≡ int_min p q → q ≡ second → q ≤ℤ p → end ≡ second
min_is_second p q end second e f h = omega (arith, ints, clamps, e, f, h)

-- ---- as the code has them

pub stored_max : (p q m : ℤ) → FitsSigned w64 p → FitsSigned w64 q → m ≡ int_max (to_z w64 (of_z w64 p)) (to_z w64 (of_z w64 q)) → m ≡ int_max p q
stored_max p q m f g e = e ∙ ap (λ (z : ℤ). int_max z (to_z w64 (of_z w64 q))) (to_z-of_z w64 p f) ∙ ap (λ (z : ℤ). int_max p z) (to_z-of_z w64 q g)

pub stored_min : (p q m : ℤ) → FitsSigned w64 p → FitsSigned w64 q → m ≡ int_min (to_z w64 (of_z w64 p)) (to_z w64 (of_z w64 q)) → m ≡ int_min p q
stored_min p q m f g e = e ∙ ap (λ (z : ℤ). int_min z (to_z w64 (of_z w64 q))) (to_z-of_z w64 p f) ∙ ap (λ (z : ℤ). int_min p z) (to_z-of_z w64 q g)

-- ---- the ends

inside : (n s : ℕ) → s ≤ n → (s ≡ n → ⊥) → s < n
inside n s within differ = omega (arith, within, differ)

some : (s : ℕ) → (s ≡ 0 → ⊥) → 0 < s
some s differ = omega (arith, differ)

pub lower_of : (x y : ℕ → ℤ) (n s : ℕ) (p q end : ℤ) → s ≤ n → (s ≡ 0 → ⊥) → (s ≡ n → ⊥) → p ≡ x (s - 1) → q ≡ y ((n - 1) - s) → end ≡ int_max p q → IsLowerEnd x y n s end
lower_of x y n s p q end within not_none not_all e f is = record {
  above_first = λ h. max_above_first p q end (x (s - 1)) is e;
  above_second = λ h. max_above_second p q end (y ((n - 1) - s)) is f;
  one = by_lt_z p q
      (λ less. inr (inside n s within not_all, max_is_second p q end (y ((n - 1) - s)) is f less))
      (λ more. inl (some s not_none, max_is_first p q end (x (s - 1)) is e more));
}

pub upper_of : (x y : ℕ → ℤ) (n s : ℕ) (p q end : ℤ) → s ≤ n → (s ≡ 0 → ⊥) → (s ≡ n → ⊥) → p ≡ x s → q ≡ y (n - s) → end ≡ int_min p q → IsUpperEnd x y n s end
upper_of x y n s p q end within not_none not_all e f is = record {
  below_first = λ h. min_below_first p q end (x s) is e;
  below_second = λ h. min_below_second p q end (y (n - s)) is f;
  one = by_lt_z p q
      (λ less. inl (inside n s within not_all, min_is_first p q end (x s) is e less))
      (λ more. inr (some s not_none, min_is_second p q end (y (n - s)) is f more));
}
