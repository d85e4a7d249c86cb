use Rattle.std.proofs.Common.{rules, ◌≡◌, true, ℤ, pos, neg_ℤ, FitsSigned, to_z, of_z, arith, refl, ◌∙◌, ap}
use Rattle.std.specs.Int.{w64, w128}
use Rattle.std.proofs.lemmas.Int.{ints, to_z-of_z}
use Rattle.pair_bounds.specs.Pairs.{elapsed, place_in}
use Rattle.pair_bounds.proofs.Limits.{tested, chosen, same_bound, same_limit}
use Rattle.pair_bounds.proofs.bounds.swing_bound.Goals as goal

pub returns : goal.returns
returns c =
    let rule = c.args.rule.now in
    let wide : FitsSigned w128 c.elapsed.result = search rules in
    let window : FitsSigned w64 rule.window = omega (arith, ints, rule.span.0, rule.span.1) in
    let most : FitsSigned w64 rule.most = omega (arith, ints, rule.least, rule.size.1) in
    let test = tested (pos 1) rule.window (elapsed c.args.from c.args.to) _ _ _ c.is_within.result refl (to_z-of_z w64 rule.window window) (to_z-of_z w128 c.elapsed.result wide ∙ c.elapsed.ensures) c.is_within.ensures c.if-not-is_within.false in
    let limit : FitsSigned w64 c.limit_on-limit.result = search rules in
    let turned : FitsSigned w64 c.opposite.result = search rules in
    let is_limit = same_limit c.args.side (neg_ℤ rule.most) rule.most _ _ _ (to_z-of_z w64 c.limit_on-limit.result limit ∙ c.limit_on-limit.ensures) (to_z-of_z w64 c.opposite.result turned ∙ c.opposite.ensures ∙ ap (λ z. neg_ℤ z) (to_z-of_z w64 rule.most most)) (to_z-of_z w64 rule.most most) in
    chosen (pos 1) rule.window (elapsed c.args.from c.args.to) c.rise_bound.result _ test
    (same_bound c.args.number (place_in c.args.col c.args.from) (place_in c.args.col c.args.to) _ _ _ _ c.args.side c.rise_bound.result c.rise_bound.ensures c.place_in.ensures c.place_in-2.ensures is_limit)
