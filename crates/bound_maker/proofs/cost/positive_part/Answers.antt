use Rattle.std.proofs.Common.{◌∙◌, ap, sym, arith}
use Rattle.std.specs.Int.{w128}
use Rattle.std.specs.Prelude.{unsigned_abs}
use Rattle.std.proofs.lemmas.Int.{ints, to_z-of_z}
use Rattle.bound_maker.proofs.Excess.{above_none, above_positive}
use Rattle.bound_maker.proofs.cost.positive_part.Goals as goal

pub returns-then-number-gt0-clause-value : goal.returns-then-number-gt0-clause-value
returns-then-number-gt0-clause-value c =
    let same = to_z-of_z w128 c.args.number c.ranges.number in
    c.unsigned_abs.ensures.value ∙ (ap unsigned_abs same ∙ above_positive c.args.number (omega (arith, ints, same, c.if-number-gt0.true)))

pub returns-else-number-gt0-clause-value : goal.returns-else-number-gt0-clause-value
returns-else-number-gt0-clause-value c =
    let same = to_z-of_z w128 c.args.number c.ranges.number in
    sym (above_none c.args.number (omega (arith, ints, same, c.if-number-gt0.false)))
