use Rattle.std.proofs.Common.{unsigned_abs}
use Rattle.std.specs.Int.{w64}
use Rattle.std.proofs.lemmas.Int.{to_z-of_z}
use Rattle.rule_keys.proofs.Products.{reach_fits}
use Rattle.rule_keys.proofs.check.reaches.Goals as goal

pub overflow_mul-reach-2 : goal.overflow_mul-reach-2
overflow_mul-reach-2 c =
    let rate = rw (to_z-of_z w64 c.args.millionths c.ranges.millionths) at c.unsigned_abs.ensures.value in
    let window = rw (to_z-of_z w64 c.args.window c.ranges.window) at c.unsigned_abs-2.ensures.value in
    rw (c.from.ensures, c.pow.ensures, c.from-2.ensures, rate, window)
    (reach_fits (unsigned_abs c.args.millionths) c.args.d (unsigned_abs c.args.window) c.requires.rate c.requires.decimals c.requires.window)
