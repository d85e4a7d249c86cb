use Rattle.std.proofs.Common.{rules, pos, FitsSigned, to_z, of_z, arith, refl, sym, ◌∙◌, ap, subst}
use Rattle.std.specs.Int.{w64, w128}
use Rattle.std.proofs.lemmas.Int.{ints, to_z-of_z}
use Rattle.fix_point.specs.RateLimits.{RateLimits, AreWithinReach}
use Rattle.pair_bounds.specs.Pairs.{elapsed, place_in, rate_limit}
use Rattle.pair_bounds.proofs.Limits.{drift_reach, tested, elapsed_is, chosen, same_bound, within_is}
use Rattle.bound_maker.proofs.pairs.speed_bound.Goals as goal

pub step_limit-limit-requires : goal.step_limit-limit-requires
step_limit-limit-requires c =
    let rule = c.args.rule.now in
    let wide : FitsSigned w128 c.elapsed-ticks.result = search rules in
    let window : FitsSigned w64 rule.window = omega (arith, ints, rule.span.0, rule.span.1) in
    let within = within_is _ _ _ (tested (pos 1) rule.window c.elapsed-ticks.result _ _ _ c.is_within.result refl (to_z-of_z w64 rule.window window) (to_z-of_z w128 c.elapsed-ticks.result wide) c.is_within.ensures c.if-not-is_within.false) in
    let same = elapsed_is rule.window c.elapsed-ticks.result within.high rule.span.1 within.low in
    subst (λ (limits : RateLimits). AreWithinReach limits (to_z w64 (of_z w64 (to_z w128 (of_z w128 c.elapsed-ticks.result))))) (sym c.requires.steps)
    (record {
      min = drift_reach rule.min c.args.scope.decimals (pos 1) rule.window c.elapsed-ticks.result _ rule.rates.min c.requires.decimals (omega (arith, ints)) rule.span.1 c.requires.reach.0 same within;
      max = drift_reach rule.max c.args.scope.decimals (pos 1) rule.window c.elapsed-ticks.result _ rule.rates.max c.requires.decimals (omega (arith, ints)) rule.span.1 c.requires.reach.1 same within;
    })

pub returns-clause-bound : goal.returns-clause-bound
returns-clause-bound c =
    let rule = c.args.rule.now in
    let scope = c.args.scope in
    let wide : FitsSigned w128 c.elapsed-ticks.result = search rules in
    let window : FitsSigned w64 rule.window = omega (arith, ints, rule.span.0, rule.span.1) in
    let test = tested (pos 1) rule.window (elapsed c.args.from c.args.to) _ _ _ c.is_within.result refl (to_z-of_z w64 rule.window window) (to_z-of_z w128 c.elapsed-ticks.result wide ∙ c.elapsed-ticks.ensures) c.is_within.ensures c.if-not-is_within.false in
    let within = within_is (pos 1) rule.window (elapsed c.args.from c.args.to) test in
    let seen = to_z w64 (of_z w64 (to_z w128 (of_z w128 c.elapsed-ticks.result))) in
    let ticks = ap (λ t. to_z w64 (of_z w64 (to_z w128 (of_z w128 t)))) c.elapsed-ticks.ensures ∙ elapsed_is rule.window (elapsed c.args.from c.args.to) within.high rule.span.1 within.low in
    let limit : FitsSigned w64 c.step_limit-limit.result = search rules in
    let rate = to_z-of_z w64 c.step_limit-limit.result limit ∙ c.step_limit-limit.ensures.limit ∙ ap (λ (l : RateLimits). rate_limit l.min l.max l.decimals seen c.args.side) c.requires.steps ∙ ap (λ t. rate_limit rule.min rule.max scope.decimals t c.args.side) ticks in
    chosen (pos 1) rule.window (elapsed c.args.from c.args.to) c.rise_bound.result _ test
    (same_bound scope.number (place_in scope.col c.args.from) (place_in scope.col c.args.to) _ _ _ _ c.args.side c.rise_bound.result c.rise_bound.ensures c.place_in.ensures c.place_in-2.ensures rate)
