-- The steps between two rates.
use Rattle.std.proofs.Common.{◌≡◌, ◌*◌, ◌^◌, ◌≤◌, ℤ, FitsSigned, to_z, of_z, sym, ap, ◌∙◌, subst}
use Rattle.std.specs.Prelude.{unsigned_abs}
use Rattle.std.specs.Int.{w64}
use Rattle.std.proofs.lemmas.Int.{to_z-of_z}
use Rattle.fix_point.specs.Rates.{IsFloor, IsCeil}
use Rattle.fix_point.specs.RateLimits.{RateLimits, AreWithinReach, AreSteps}
use Rattle.fix_point.proofs.Rates.{step_small, step_fits, ceil_small}

-- two 64-bit numbers that are stored alike are the same
pub stored_alike : (x y : ℤ) → FitsSigned w64 x → FitsSigned w64 y → of_z w64 x ≡ of_z w64 y → y ≡ x
stored_alike x y fits_x fits_y e = sym (to_z-of_z w64 y fits_y) ∙ ap (λ n. to_z w64 n) (sym e) ∙ to_z-of_z w64 x fits_x

pub same_steps : (limits now : RateLimits) (last dt least greatest : ℤ) → limits ≡ now → last ≡ dt → AreSteps limits last least greatest → AreSteps now dt least greatest
same_steps limits now last dt least greatest e f steps =
    subst (λ t. AreSteps now t least greatest) f (subst (λ l. AreSteps l last least greatest) e steps)

pub least_small : (limits : RateLimits) (dt least greatest : ℤ) → AreWithinReach limits dt → AreSteps limits dt least greatest → unsigned_abs least ≤ 4 * 10 ^ 15
least_small limits dt least greatest within steps = ceil_small limits.min limits.decimals dt least within.min steps.ceil

pub greatest_small : (limits : RateLimits) (dt least greatest : ℤ) → AreWithinReach limits dt → AreSteps limits dt least greatest → unsigned_abs greatest ≤ 4 * 10 ^ 15
greatest_small limits dt least greatest within steps = step_small limits.max limits.decimals dt greatest within.max.limited.per_least within.max.reach steps.floor

-- the steps as the code has them
pub stored_steps : (limits : RateLimits) (dt least greatest : ℤ) → FitsSigned w64 dt → unsigned_abs least ≤ 4 * 10 ^ 15 → unsigned_abs greatest ≤ 4 * 10 ^ 15
    → IsCeil limits.min limits.decimals (to_z w64 (of_z w64 dt)) least → IsFloor limits.max limits.decimals (to_z w64 (of_z w64 dt)) greatest
    → AreSteps limits dt (to_z w64 (of_z w64 least)) (to_z w64 (of_z w64 greatest))
stored_steps limits dt least greatest fits small_least small_greatest ceil floor =
    let same = to_z-of_z w64 dt fits in
    record {
      ceil = subst (λ s. IsCeil limits.min limits.decimals dt s) (sym (to_z-of_z w64 least (step_fits least small_least))) (subst (λ t. IsCeil limits.min limits.decimals t least) same ceil);
      floor = subst (λ s. IsFloor limits.max limits.decimals dt s) (sym (to_z-of_z w64 greatest (step_fits greatest small_greatest))) (subst (λ t. IsFloor limits.max limits.decimals t greatest) same floor);
    }
