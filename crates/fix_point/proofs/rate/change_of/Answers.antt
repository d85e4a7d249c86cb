use Rattle.std.proofs.Common.{◌*◌, ◌^◌, pos, ◌*ℤ◌, to_z, of_z, lit<, arith}
use Rattle.std.specs.Int.{w128}
use Rattle.words.proofs.Products.{size_of_product}
use Rattle.fix_point.proofs.Rates.{product_of, wide, wide_pos, power_small}
use Rattle.fix_point.proofs.rate.change_of.Goals as goal

pub overflow_mul-result : goal.overflow_mul-result
overflow_mul-result c =
    let power = power_small c.args.d c.requires.decimals in
    let first = product_of (to_z w128 (of_z w128 c.from.result)) (to_z w128 (of_z w128 c.pow.result)) c.args.millionths (pos (10 ^ c.args.d)) (10 ^ 15) (10 ^ 6) (wide c.args.millionths c.from.result c.ranges.millionths c.from.ensures) (wide_pos (10 ^ c.args.d) c.pow.result (omega (arith, power)) c.pow.ensures) c.requires.millionths power (lit< tt) in
    first.fits

pub overflow_mul-result-2 : goal.overflow_mul-result-2
overflow_mul-result-2 c =
    let power = power_small c.args.d c.requires.decimals in
    let first = product_of (to_z w128 (of_z w128 c.from.result)) (to_z w128 (of_z w128 c.pow.result)) c.args.millionths (pos (10 ^ c.args.d)) (10 ^ 15) (10 ^ 6) (wide c.args.millionths c.from.result c.ranges.millionths c.from.ensures) (wide_pos (10 ^ c.args.d) c.pow.result (omega (arith, power)) c.pow.ensures) c.requires.millionths power (lit< tt) in
    let size = size_of_product c.args.millionths (pos (10 ^ c.args.d)) (10 ^ 15) (10 ^ 6) c.requires.millionths power in
    let second = product_of (to_z w128 (of_z w128 (to_z w128 (of_z w128 c.from.result) *ℤ to_z w128 (of_z w128 c.pow.result)))) (to_z w128 (of_z w128 c.from-2.result)) (c.args.millionths *ℤ pos (10 ^ c.args.d)) c.args.dt (10 ^ 15 * 10 ^ 6) (10 ^ 17) first.same (wide c.args.dt c.from-2.result c.ranges.dt c.from-2.ensures) size c.requires.ticks (lit< tt) in
    second.fits

pub returns : goal.returns
returns c =
    let power = power_small c.args.d c.requires.decimals in
    let first = product_of (to_z w128 (of_z w128 c.from.result)) (to_z w128 (of_z w128 c.pow.result)) c.args.millionths (pos (10 ^ c.args.d)) (10 ^ 15) (10 ^ 6) (wide c.args.millionths c.from.result c.ranges.millionths c.from.ensures) (wide_pos (10 ^ c.args.d) c.pow.result (omega (arith, power)) c.pow.ensures) c.requires.millionths power (lit< tt) in
    let size = size_of_product c.args.millionths (pos (10 ^ c.args.d)) (10 ^ 15) (10 ^ 6) c.requires.millionths power in
    let second = product_of (to_z w128 (of_z w128 (to_z w128 (of_z w128 c.from.result) *ℤ to_z w128 (of_z w128 c.pow.result)))) (to_z w128 (of_z w128 c.from-2.result)) (c.args.millionths *ℤ pos (10 ^ c.args.d)) c.args.dt (10 ^ 15 * 10 ^ 6) (10 ^ 17) first.same (wide c.args.dt c.from-2.result c.ranges.dt c.from-2.ensures) size c.requires.ticks (lit< tt) in
    second.same
