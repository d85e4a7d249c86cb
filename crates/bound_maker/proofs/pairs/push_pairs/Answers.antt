use Rattle.std.proofs.Common.{rules, subst, sym, ◌∙◌, List, w64}
use Rattle.std.proofs.lemmas.Int.{to_z-of_z}
use mir.Val.{SFits}
use Rattle.rule_file.specs.Numbers.{seen_rule}
use Rattle.bound_maker.specs.declared.reading.Reading.{Reading}
use Rattle.bound_maker.specs.Windows.{StampsRise}
use Rattle.bound_maker.proofs.Steps.{pushed_pairs, ready_next, rise_rest}
use Rattle.bound_maker.proofs.pairs.push_pairs.Goals as goal

pub loop-from-preserved : goal.loop-from-preserved
loop-from-preserved c =
    let window = c.args.window in
    let scope = c.args.scope in
    let rest = c.loop-from.rest.now in
    let fits : SFits w64 c.in-Some.from.stamp.ticks = search rules in
    let time = to_z-of_z w64 c.in-Some.from.stamp.ticks fits in
    let rise = c.loop-from.invariant.rise in
    record {
      steps = c.push_with_each.ensures.steps ∙ c.loop-from.invariant.steps;
      rise = subst (λ (xs : List Reading). StampsRise xs) (sym c.later_of-rest.ensures) (rise_rest rest rise);
      ready = ready_next window rest c.later_of-rest.result.now c.in-Some.from _ c.slide-span.result c.without_first-span.result c.in-Some.ensures c.later_of-rest.ensures time c.requires.window.is_window rise
          (record { start = c.slide-span.ensures.start; end = c.slide-span.ensures.end }) c.without_first-span.ensures.start c.without_first-span.ensures.end;
      bounds = pushed_pairs scope.number scope.decimals scope.col (seen_rule c.args.rule) window rest c.later_of-rest.result.now c.part_of.result.now c.in-Some.from _ c.slide-span.result _ c.loop-from.bounds c.push_with_each.new.bounds c.in-Some.ensures c.later_of-rest.ensures c.part_of.ensures time c.requires.window rise
          (record { start = c.slide-span.ensures.start; end = c.slide-span.ensures.end }) c.loop-from.invariant.bounds c.in_ok-push_with_each.ensures.bounds;
    }
