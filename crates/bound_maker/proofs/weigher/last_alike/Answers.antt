use Rattle.std.proofs.Common.{arith}
use Rattle.std.proofs.lemmas.Int.{ints}
use Rattle.bound_maker.proofs.Stays.{both_before, both_within}
use Rattle.bound_maker.proofs.weigher.last_alike.Goals as goal

pub returns-then-ticks-rule-clause-alike : goal.returns-then-ticks-rule-clause-alike
returns-then-ticks-rule-clause-alike c =
    let other = c.min.ensures.other_bound in
    λ t least last. both_before c.args.of_column c.args.rule.now.from c.args.rule.now.to t c.args.ticks (omega (arith, ints, other, last)) (omega (arith, ints, c.if-ticks-rule.true))

pub returns-else-ticks-rule-clause-alike : goal.returns-else-ticks-rule-clause-alike
returns-else-ticks-rule-clause-alike c =
    let other = c.min-else-ticks-rule.ensures.other_bound in
    λ t least last. both_within c.args.of_column c.args.rule.now.from c.args.rule.now.to t c.args.ticks (omega (arith, ints, least, c.if-ticks-rule.false)) (omega (arith, ints, other, last)) (omega (arith, ints, c.if-ticks-rule.false)) (omega (arith, ints))
