use Rattle.std.proofs.Common.{◌∙◌, refl}
use Rattle.rule_file.specs.Numbers.{seen_rule}
use Rattle.bound_maker.specs.declared.reading.Reading.{Reading}
use Rattle.bound_maker.specs.Bounds.{both_sides}
use Rattle.bound_maker.specs.Pairs.{pair_bound}
use Rattle.bound_maker.specs.Readings.{neighbours}
use Rattle.bound_maker.proofs.Steps.{all_pushed, pushed_next}
use Rattle.bound_maker.proofs.pairs.push_neighbours.Goals as goal

pub loop-from-preserved : goal.loop-from-preserved
loop-from-preserved c =
    let scope = c.args.scope in
    record {
      steps = c.push_with_next.ensures.steps ∙ c.loop-from.invariant.steps;
      bounds = pushed_next scope.number scope.decimals scope.col (seen_rule c.args.rule) c.loop-from.rest.now c.later_of-later.result.now c.in-Some.from _ c.loop-from.bounds c.push_with_next.new.bounds c.in-Some.ensures c.later_of-later.ensures c.loop-from.invariant.bounds c.in_ok-push_with_next.ensures.bounds;
    }

pub returns : goal.returns
returns c =
    let scope = c.args.scope in
    let f = λ (pair : Reading × Reading). both_sides (pair_bound scope.number (seen_rule c.args.rule) scope.decimals scope.col pair.0.stamp pair.1.stamp) in
    all_pushed f neighbours c.loop-from.rest.now _ c.loop-from.bounds refl c.in_default.ensures c.loop-from.invariant.bounds
