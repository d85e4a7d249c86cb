-- One reading more in a change.
use Rattle.std.proofs.Common.{◌≡◌, ℕ, zero, suc, ◌+◌, ◌*◌, ◌<◌, ℤ, pos, ◌-ℤ◌, List, [], ◌∷◌, length, get_or, take, ◌∙◌, arith}
use Rattle.std.specs.Prelude.{unsigned_abs}
use Rattle.screen_model.specs.Cost.{weighted_change}

pub change_more : (weights : List ℕ) (values series : List ℤ) (k : ℕ) → k < length weights → length values ≡ length weights → length series ≡ length weights
    → weighted_change (take (k + 1) weights) (take (k + 1) values) (take (k + 1) series)
    ≡ weighted_change (take k weights) (take k values) (take k series) + get_or weights k 0 * unsigned_abs (get_or series k (pos 0) -ℤ get_or values k (pos 0))
change_more [] values series k below valued whole = absurd (omega arith)
change_more (weight ∷ weights) [] series k below valued whole = absurd (omega arith)
change_more (weight ∷ weights) (value ∷ values) [] k below valued whole = absurd (omega arith)
change_more (weight ∷ weights) (value ∷ values) (x ∷ series) zero below valued whole = omega arith
change_more (weight ∷ weights) (value ∷ values) (x ∷ series) (suc k) below valued whole =
    let more : suc k + 1 ≡ suc (k + 1) = omega arith in
    (λ i. weighted_change (take (more i) (weight ∷ weights)) (take (more i) (value ∷ values)) (take (more i) (x ∷ series)))
    ∙ omega (arith, change_more weights values series k (omega arith) (omega arith) (omega arith))
