-- The first place that is pulled by more than its weight.
use Rattle.std.proofs.Common.{◌≡◌, ℕ, zero, suc, ◌+◌, ◌^◌, ◌<◌, ◌≤◌, Bool, true, false, cond, ℤ, pos, List, [], ◌∷◌, length, drop, get_or, Option, Some, None, refl, sym, ap, ◌∙◌, arith}
use Rattle.std.specs.Prelude.{nat_lt, slice_get, unsigned_abs}
use Rattle.std.specs.List.{AllByRecursion, AllZip}
use Rattle.std.proofs.lemmas.Bool.Decides.{nat_tests}
use Rattle.std.proofs.lemmas.List.{drop_all}
use Rattle.screen_model.specs.declared.place.Place.{Place}
use Rattle.cert_check.specs.Repair.{first_pulled}
use Rattle.cert_check.specs.Tally.{AreWithin}

none_is_some : {A : Type 0} (x : A) → ◌≡◌ {A = Option A} None (Some x) → ⊥
none_is_some x e = cc

some_one : {A : Type 0} {x y : A} → ◌≡◌ {A = Option A} (Some x) (Some y) → x ≡ y
some_one e = cc

-- at a number: the pull, the weight and the place that stand there
pub pulled_at : (pulls : List ℤ) (weights : List ℕ) (places : List Place) (i : ℕ) (weight : ℕ) (b : Bool) → i < length pulls → length pulls ≡ length places → slice_get weights i ≡ Some weight
    → nat_lt weight (unsigned_abs (get_or pulls i (pos 0))) ≡ b
    → first_pulled (drop i pulls) (drop i weights) (drop i places) ≡ cond b (slice_get places i) (first_pulled (drop (i + 1) pulls) (drop (i + 1) weights) (drop (i + 1) places))
pulled_at [] weights places i weight b h long found test = absurd (omega (arith, h))
pulled_at (x ∷ pulls) weights [] i weight b h long found test = absurd (omega (arith, long))
pulled_at (x ∷ pulls) [] (p ∷ places) i weight b h long found test = absurd (none_is_some weight found)
pulled_at (x ∷ pulls) (w ∷ weights) (p ∷ places) zero weight b h long found test =
    let same : w ≡ weight = some_one found in
    ap (λ t. cond t (Some p) (first_pulled pulls weights places)) (ap (λ n. nat_lt n (unsigned_abs x)) same ∙ test)
pulled_at (x ∷ pulls) (w ∷ weights) (p ∷ places) (suc i) weight b h long found test =
    let next : suc i + 1 ≡ suc (i + 1) = omega arith in
    pulled_at pulls weights places i weight b (omega (arith, h)) (omega (arith, long)) found test
    ∙ ap (λ n. cond b (slice_get places i) (first_pulled (drop n (x ∷ pulls)) (drop n (w ∷ weights)) (drop n (p ∷ places)))) (sym next)

pub pulled_nowhere : (pulls : List ℤ) (weights : List ℕ) (places : List Place) (i : ℕ) → length pulls ≤ i → first_pulled (drop i pulls) (drop i weights) (drop i places) ≡ None
pulled_nowhere pulls weights places i h = ap (λ (ps : List ℤ). first_pulled ps (drop i weights) (drop i places)) (drop_all i pulls h)

-- ---- where no place is pulled by more than its weight

not_above : (weight n : ℕ) → nat_lt weight n ≡ false → n ≤ weight
not_above weight n h = grind (arith, nat_tests)

one_within : (x : ℤ) (w : ℕ) (p : Place) (pulls : List ℤ) (weights : List ℕ) (places : List Place) (b : Bool) → nat_lt w (unsigned_abs x) ≡ b
    → (first_pulled pulls weights places ≡ None → AllZip (λ pull weight. unsigned_abs pull ≤ weight) pulls weights)
    → first_pulled (x ∷ pulls) (w ∷ weights) (p ∷ places) ≡ None → AllZip (λ pull weight. unsigned_abs pull ≤ weight) (x ∷ pulls) (w ∷ weights)
one_within x w p pulls weights places true test later none = absurd (none_is_some p (sym none ∙ ap (λ t. cond t (Some p) (first_pulled pulls weights places)) test))
one_within x w p pulls weights places false test later none =
    (not_above w (unsigned_abs x) test, later (sym (ap (λ t. cond t (Some p) (first_pulled pulls weights places)) test) ∙ none))

pub all_within : (pulls : List ℤ) (weights : List ℕ) (places : List Place) → length pulls ≡ length places → length weights ≡ length places → first_pulled pulls weights places ≡ None
    → AllZip (λ pull weight. unsigned_abs pull ≤ weight) pulls weights
all_within [] [] places long weighted none = tt
all_within [] (w ∷ weights) [] long weighted none = absurd (omega (arith, weighted))
all_within [] (w ∷ weights) (p ∷ places) long weighted none = absurd (omega (arith, long))
all_within (x ∷ pulls) [] [] long weighted none = absurd (omega (arith, long))
all_within (x ∷ pulls) [] (p ∷ places) long weighted none = absurd (omega (arith, weighted))
all_within (x ∷ pulls) (w ∷ weights) [] long weighted none = absurd (omega (arith, long))
all_within (x ∷ pulls) (w ∷ weights) (p ∷ places) long weighted none =
    one_within x w p pulls weights places (nat_lt w (unsigned_abs x)) refl (all_within pulls weights places (omega (arith, long)) (omega (arith, weighted))) none

pub pulls_light : (pulls : List ℤ) (weights : List ℕ) → AllZip (λ pull weight. unsigned_abs pull ≤ weight) pulls weights → AllByRecursion (λ weight. weight ≤ 1000) weights → AreWithin (2 ^ 32) pulls
pulls_light [] weights all light = tt
pulls_light (x ∷ pulls) [] all light = absurd all
pulls_light (x ∷ pulls) (w ∷ weights) all light = (omega (arith, all.0, light.0), pulls_light pulls weights all.1 light.1)
