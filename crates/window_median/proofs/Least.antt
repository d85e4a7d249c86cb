-- Functions of a whole number that fall as far as a point and rise from there on, and convex functions.
use Rattle.std.proofs.Common.{◌≡◌, ℕ, zero, suc, ◌≤◌, ℤ, pos, negsuc, ◌+ℤ◌, ◌-ℤ◌, ◌≤ℤ◌, ◌<ℤ◌, refl, ap, arith}
use Rattle.std.specs.Prelude.{unsigned_abs}
use Rattle.std.proofs.lemmas.Int.{ints, clamps, by_lt_z}
use Rattle.window_median.specs.LocalCost.{IsConvex, IsLeastAt, clamped}

pub size_low : (z : ℤ) → z ≤ℤ pos 0 → pos (unsigned_abs z) ≡ pos 0 -ℤ z
size_low (pos n) h = omega (arith, ints)
size_low (negsuc n) h = omega (arith, ints)

pub size_high : (z : ℤ) → pos 0 ≤ℤ z → pos (unsigned_abs z) ≡ z
size_high (pos n) h = refl
size_high (negsuc n) h = omega (arith, ints)

-- the steps from one number to another one that is not less
gap : (a b : ℤ) → a ≤ℤ b → b ≡ a +ℤ pos (unsigned_abs (b -ℤ a))
gap a b h =
    let some : pos 0 ≤ℤ (b -ℤ a) = omega (arith, ints) in
    omega (arith, ints, size_high (b -ℤ a) some)

-- ---- step by step

rises : (f : ℤ → ℕ) (v : ℤ) → ((z : ℤ) → v ≤ℤ z → f z ≤ f (z +ℤ pos 1)) → (k : ℕ) (w : ℤ) → w ≡ v +ℤ pos k → f v ≤ f w
rises f v up zero w e =
    let same : v ≡ w = omega (arith, ints, e) in
    omega (arith, ap f same)
rises f v up (suc k) w e =
    let before = w -ℤ pos 1 in
    let after : before +ℤ pos 1 ≡ w = omega (arith, ints) in
    omega (arith, rises f v up k before (omega (arith, ints, e)), up before (omega (arith, ints, e)), ap f after)

falls : (f : ℤ → ℕ) (v : ℤ) → ((z : ℤ) → z <ℤ v → f (z +ℤ pos 1) ≤ f z) → (k : ℕ) (w : ℤ) → v ≡ w +ℤ pos k → f v ≤ f w
falls f v down zero w e =
    let same : v ≡ w = omega (arith, ints, e) in
    omega (arith, ap f same)
falls f v down (suc k) w e = omega (arith, falls f v down k (w +ℤ pos 1) (omega (arith, ints, e)), down w (omega (arith, ints, e)))

pub least_between : (f : ℤ → ℕ) (v : ℤ) → ((z : ℤ) → v ≤ℤ z → f z ≤ f (z +ℤ pos 1)) → ((z : ℤ) → z <ℤ v → f (z +ℤ pos 1) ≤ f z) → IsLeastAt f v
least_between f v up down other =
    by_lt_z other v
    (λ below. falls f v down (unsigned_abs (v -ℤ other)) other (gap other v (omega (arith, ints))))
    (λ above. rises f v up (unsigned_abs (other -ℤ v)) other (gap v other above))

-- ---- convex functions

convex_up : (f : ℤ → ℕ) (v : ℤ) → IsConvex f → IsLeastAt f v → (k : ℕ) (w : ℤ) → w ≡ v +ℤ pos k → f w ≤ f (w +ℤ pos 1)
convex_up f v convex least zero w e =
    let same : w ≡ v = omega (arith, ints, e) in
    omega (arith, ap f same, least (w +ℤ pos 1))
convex_up f v convex least (suc k) w e =
    let before = w -ℤ pos 1 in
    let after : before +ℤ pos 1 ≡ w = omega (arith, ints) in
    omega (arith, convex_up f v convex least k before (omega (arith, ints, e)), ap f after, convex w)

convex_down : (f : ℤ → ℕ) (v : ℤ) → IsConvex f → IsLeastAt f v → (k : ℕ) (w : ℤ) → v ≡ w +ℤ pos k → f w ≤ f (w -ℤ pos 1)
convex_down f v convex least zero w e =
    let same : w ≡ v = omega (arith, ints, e) in
    omega (arith, ap f same, least (w -ℤ pos 1))
convex_down f v convex least (suc k) w e =
    let after = w +ℤ pos 1 in
    let before : after -ℤ pos 1 ≡ w = omega (arith, ints) in
    omega (arith, convex_down f v convex least k after (omega (arith, ints, e)), ap f before, convex w)

-- an interval above the least point, and one below it
from_least_end : (f : ℤ → ℕ) (v low within : ℤ) → IsConvex f → IsLeastAt f v → v <ℤ low → low ≤ℤ within → f low ≤ f within
from_least_end f v low within convex least below h =
    rises f low
    (λ z above. convex_up f v convex least (unsigned_abs (z -ℤ v)) z (gap v z (omega (arith, ints))))
    (unsigned_abs (within -ℤ low))
    within
    (gap low within h)

from_greatest_end : (f : ℤ → ℕ) (v high within : ℤ) → IsConvex f → IsLeastAt f v → high <ℤ v → within ≤ℤ high → f high ≤ f within
from_greatest_end f v high within convex least above h =
    falls f high
    (λ z below.
    let next = z +ℤ pos 1 in
    let back : next -ℤ pos 1 ≡ z = omega (arith, ints) in
    omega (arith, convex_down f v convex least (unsigned_abs (v -ℤ next)) next (gap next v (omega (arith, ints))), ap f back))
    (unsigned_abs (high -ℤ within))
    within
    (gap within high h)

at : (f : ℤ → ℕ) (a b w : ℤ) → a ≡ b → f b ≤ f w → f a ≤ f w
at f a b w e h = omega (arith, ap f e, h)

pub clamping_keeps : (f : ℤ → ℕ) (v low high within : ℤ) → IsConvex f → IsLeastAt f v → low ≤ℤ within → within ≤ℤ high → f (clamped low high v) ≤ f within
clamping_keeps f v low high within convex least g h =
    by_lt_z v low
    (λ below. at f (clamped low high v) low within (omega (arith, ints, clamps)) (from_least_end f v low within convex least below g))
    (λ from. by_lt_z high v
    (λ above. at f (clamped low high v) high within (omega (arith, ints, clamps)) (from_greatest_end f v high within convex least above h))
    (λ to. at f (clamped low high v) v within (omega (arith, ints, clamps)) (least within)))
