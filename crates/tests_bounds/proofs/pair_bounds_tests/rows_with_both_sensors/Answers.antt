use Rattle.std.proofs.Common.{◌≡◌, ℕ, List, [], ◌∷◌, get_or, sym, ap, ◌∙◌, arith}
use Rattle.tests_bounds.proofs.pair_bounds_tests.rows_with_both_sensors.Goals as goal

differ : (x y : List ℕ) → x ≡ 120 ∷ [] → y ≡ 121 ∷ [] → x ≡ y → ⊥
differ x y a b e = let same : 120 ≡ 121 = ap (λ l. get_or l 0 0) (sym a ∙ e ∙ b) in omega (arith, same)

pub invariant_of-rule-clause-apart : goal.invariant_of-rule-clause-apart
invariant_of-rule-clause-apart c = λ c' e. differ _ _ c'.in_ok-from_slice.ensures c'.in_ok-from_slice-2.ensures e
