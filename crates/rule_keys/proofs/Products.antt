-- The reach of a rate fits 128 bits.
use Rattle.std.proofs.Common.{ℕ, ◌*◌, ◌^◌, ◌<◌, ◌≤◌, Fits, lit<, arith, rules}
use Rattle.std.specs.Int.{w128}
use Rattle.std.proofs.Math.Nat.{pow-le-pow_right, mul-le-mul}

reach_below : (a d w : ℕ) → a ≤ 10 ^ 15 → d ≤ 6 → w ≤ 10 ^ 17 → a * 10 ^ d * w < 2 ^ 128
reach_below a d w rate few window =
    let power : 10 ^ d ≤ 10 ^ 6 = pow-le-pow_right (lit< tt) few in
    let first : a * 10 ^ d ≤ 10 ^ 15 * 10 ^ 6 = mul-le-mul rate power in
    let both : a * 10 ^ d * w ≤ 10 ^ 15 * 10 ^ 6 * 10 ^ 17 = mul-le-mul first window in
    omega (arith, both)

pub reach_fits : (a d w : ℕ) → a ≤ 10 ^ 15 → d ≤ 6 → w ≤ 10 ^ 17 → Fits w128 (a * 10 ^ d * w)
reach_fits a d w rate few window = let below : a * 10 ^ d * w < 2 ^ 128 = reach_below a d w rate few window in search rules
