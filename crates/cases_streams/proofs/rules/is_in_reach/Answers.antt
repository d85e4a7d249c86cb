use Rattle.std.proofs.Common.{◌≡◌, ℕ, ◌*◌, ◌^◌, ◌≤◌, ℤ, pos, ◌≤ℤ◌, FitsSigned, rules, to_z, of_z, ap, ◌∙◌, arith}
use Rattle.std.specs.Prelude.{unsigned_abs}
use Rattle.std.specs.Int.{w64}
use Rattle.std.proofs.lemmas.Int.{to_z-of_z}
use Rattle.std.proofs.lemmas.Nat.{mul-le}
use Rattle.words.proofs.Products.{size_within}
use Rattle.std.proofs.lemmas.Int.{ints}
use Rattle.fix_point.proofs.Rates.{power_small}
use Rattle.cases_streams.proofs.rules.is_in_reach.Goals as goal

read_size : (z : ℤ) (n m most : ℕ) → FitsSigned w64 z → n ≡ unsigned_abs (to_z w64 (of_z w64 z)) → m ≡ n → unsigned_abs z ≤ most → m ≤ most
read_size z n m most fits e f h = omega (arith, f ∙ e ∙ ap unsigned_abs (to_z-of_z w64 z fits), h)

span_size : (window : ℤ) → pos 1 ≤ℤ window → window ≤ℤ pos (10 ^ 17) → unsigned_abs window ≤ 10 ^ 17
span_size window some most = size_within window (10 ^ 17) (omega (arith, ints, some)) most

product_small : (m p w d : ℕ) → m ≤ 10 ^ 15 → p ≡ 10 ^ d → d ≤ 6 → w ≤ 10 ^ 17 → m * p * w ≤ 10 ^ 38
product_small m p w d g e h k =
    omega (arith, mul-le (m * p) w (10 ^ 21) (10 ^ 17) (mul-le m p (10 ^ 15) (10 ^ 6) g (omega (arith, e, power_small d h))) k)

pub overflow_mul-reach : goal.overflow_mul-reach
overflow_mul-reach c =
    let rate : FitsSigned w64 c.args.rate.millionths = search rules in
    let m = read_size c.args.rate.millionths c.unsigned_abs.result c.from.result (10 ^ 15) rate c.unsigned_abs.ensures.value c.from.ensures c.requires.rate.size in
    let w = read_size c.args.window c.unsigned_abs-2.result c.from-2.result (10 ^ 17) c.ranges.window c.unsigned_abs-2.ensures.value c.from-2.ensures (span_size c.args.window c.requires.window.0 c.requires.window.1) in
    omega (arith, product_small c.from.result c.pow.result c.from-2.result c.args.d m c.pow.ensures c.requires.decimals w)
