use Rattle.std.proofs.Common.{rules, ◌≡◌, true, ℤ, FitsSigned, to_z, of_z, arith, ◌∙◌, ap}
use Rattle.std.specs.Int.{w64, w128}
use Rattle.std.proofs.lemmas.Int.{ints, to_z-of_z}
use Rattle.pair_bounds.specs.Pairs.{elapsed, place_in, rate_limit}
use Rattle.pair_bounds.proofs.Limits.{drift_reach, tested, elapsed_is, chosen, same_bound, within_is}
use Rattle.pair_bounds.proofs.bounds.drift_bound.Goals as goal

pub rate_limit-limit-requires-clause-min : goal.rate_limit-limit-requires-clause-min
rate_limit-limit-requires-clause-min c =
    let rule = c.args.rule.now in
    let wide : FitsSigned w128 c.elapsed-ticks.result = search rules in
    let over : FitsSigned w64 rule.over = omega (arith, ints, rule.least, rule.ordered, rule.span.1) in
    let window : FitsSigned w64 rule.window = omega (arith, ints, rule.least, rule.ordered, rule.span.1) in
    let within = within_is _ _ _ (tested rule.over rule.window c.elapsed-ticks.result _ _ _ c.is_within.result (to_z-of_z w64 rule.over over) (to_z-of_z w64 rule.window window) (to_z-of_z w128 c.elapsed-ticks.result wide) c.is_within.ensures c.if-not-is_within.false) in
    drift_reach rule.min c.args.d rule.over rule.window c.elapsed-ticks.result _ rule.rates.min c.requires.decimals rule.least rule.span.1 c.requires.reach.0 (elapsed_is rule.window c.elapsed-ticks.result within.high rule.span.1 (omega (arith, ints, within.low, rule.least))) within

pub rate_limit-limit-requires-clause-max : goal.rate_limit-limit-requires-clause-max
rate_limit-limit-requires-clause-max c =
    let rule = c.args.rule.now in
    let wide : FitsSigned w128 c.elapsed-ticks.result = search rules in
    let over : FitsSigned w64 rule.over = omega (arith, ints, rule.least, rule.ordered, rule.span.1) in
    let window : FitsSigned w64 rule.window = omega (arith, ints, rule.least, rule.ordered, rule.span.1) in
    let within = within_is _ _ _ (tested rule.over rule.window c.elapsed-ticks.result _ _ _ c.is_within.result (to_z-of_z w64 rule.over over) (to_z-of_z w64 rule.window window) (to_z-of_z w128 c.elapsed-ticks.result wide) c.is_within.ensures c.if-not-is_within.false) in
    drift_reach rule.max c.args.d rule.over rule.window c.elapsed-ticks.result _ rule.rates.max c.requires.decimals rule.least rule.span.1 c.requires.reach.1 (elapsed_is rule.window c.elapsed-ticks.result within.high rule.span.1 (omega (arith, ints, within.low, rule.least))) within

pub returns : goal.returns
returns c =
    let rule = c.args.rule.now in
    let wide : FitsSigned w128 c.elapsed-ticks.result = search rules in
    let over : FitsSigned w64 rule.over = omega (arith, ints, rule.least, rule.ordered, rule.span.1) in
    let window : FitsSigned w64 rule.window = omega (arith, ints, rule.least, rule.ordered, rule.span.1) in
    let test = tested rule.over rule.window (elapsed c.args.from c.args.to) _ _ _ c.is_within.result (to_z-of_z w64 rule.over over) (to_z-of_z w64 rule.window window) (to_z-of_z w128 c.elapsed-ticks.result wide ∙ c.elapsed-ticks.ensures) c.is_within.ensures c.if-not-is_within.false in
    let within = within_is rule.over rule.window (elapsed c.args.from c.args.to) test in
    let ticks = ap (λ t. to_z w64 (of_z w64 (to_z w128 (of_z w128 t)))) c.elapsed-ticks.ensures ∙ elapsed_is rule.window (elapsed c.args.from c.args.to) within.high rule.span.1 (omega (arith, ints, within.low, rule.least)) in
    let limit : FitsSigned w64 c.rate_limit-limit.result = search rules in
    let rate = to_z-of_z w64 c.rate_limit-limit.result limit ∙ c.rate_limit-limit.ensures ∙ ap (λ t. rate_limit rule.min rule.max c.args.d t c.args.side) ticks in
    chosen rule.over rule.window (elapsed c.args.from c.args.to) c.rise_bound.result _ test
    (same_bound c.args.number (place_in c.args.col c.args.from) (place_in c.args.col c.args.to) _ _ _ _ c.args.side c.rise_bound.result c.rise_bound.ensures c.place_in.ensures c.place_in-2.ensures rate)
